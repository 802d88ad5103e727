-- Numbers laid as items. Assumes nothing.
use Rattle.std.proofs.Common.{◌≡◌, ℕ, ◌+◌, ◌<◌, List, [], ◌∷◌, ◌++◌, length, take, get_or, ℤ, pos, refl, subst, ap, sym, ◌∙◌, append_assoc, append-nil, codes}
use Rattle.std.proofs.lemmas.List.{take_more}
use Rattle.std.specs.Fmt.{signed_decimal}
use Rattle.text.specs.declared.writing.Pen.{Pen}
use Rattle.text.specs.Numbers.{items}
use Rattle.text.specs.declared.word.Word.{Word}
use Rattle.text.specs.Words.{letters_of}
use Rattle.text.specs.Writings.{line}
use Rattle.text.specs.Laying.{Lays}
use Rattle.text.proofs.Laying.{lays_then}

pub items-append : (ys zs : List ℤ) → items (ys ++ zs) ≡ items ys ++ items zs
items-append [] zs = refl
items-append (y ∷ ys) zs = ap (λ l. codes " " ++ (signed_decimal y ++ l)) (items-append ys zs) ∙ simp append_assoc

-- One more item.
pub lays_item : {p q q1 r : Pen} (zs : List ℤ) (i : ℕ) (text : List ℕ) → i < length zs → Lays p (items (take i zs)) q → Lays q (codes " ") q1 → Lays q1 text r → text ≡ signed_decimal (get_or zs i (pos 0)) → Lays p (items (take (i + 1) zs)) r
lays_item {p} {q} {q1} {r} zs i text h done space more is =
    let one : codes " " ++ text ≡ items (get_or zs i (pos 0) ∷ []) = ap (λ l. codes " " ++ l) (is ∙ simp append-nil) in
    let all : items (take i zs) ++ (codes " " ++ text) ≡ items (take (i + 1) zs) =
    ap (λ l. items (take i zs) ++ l) one ∙ sym (items-append (take i zs) _) ∙ ap items (sym (take_more zs i (pos 0) h)) in
    subst (λ l. Lays p l r) all (lays_then done (lays_then space more))

-- A line in its parts.
pub lays_line : {p q1 q2 q3 q4 r : Pen} (w : Word) (z : ℤ) (zs : List ℤ) → Lays p (codes "(") q1 → Lays q1 (letters_of w) q2 → Lays q2 (items (z ∷ [])) q3 → Lays q3 (items zs) q4 → Lays q4 (codes ")\n") r → Lays p (line w (z ∷ zs)) r
lays_line {p} {q1} {q2} {q3} {q4} {r} w z zs bracket letters first others end =
    let same : codes "(" ++ (letters_of w ++ (items (z ∷ []) ++ (items zs ++ codes ")\n"))) ≡ line w (z ∷ zs) =
    simp (append_assoc, append-nil) in
    subst (λ l. Lays p l r) same (lays_then bracket (lays_then letters (lays_then first (lays_then others end))))
