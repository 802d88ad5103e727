-- A line is its inside in brackets, and has no newline. Assumes nothing.
use Rattle.std.proofs.Common.{◌≡◌, ℕ, ◌≤◌, true, false, eqb, leb, List, [], ◌∷◌, ◌++◌, length, sym, ap, ◌∙◌, leb-true, eqb-true, ne_eqb, arith}
use Rattle.std.proofs.lemmas.Bool.{and_parts}
use Rattle.std.proofs.lemmas.List.Elements.{All-cons}
use Rattle.text.specs.declared.form.Sort.TheVariants.{Letter}
use Rattle.text.specs.Lines.{closes, is_form, is_between, is_line, line_bound, inside}
use Rattle.text.proofs.ClosedBytes.{closes_end, closes_lacks}
use Rattle.text.proofs.Pieces.{Lacks}
use Rattle.text.proofs.FormPieces.{inside_brackets}

-- A form begins with a bracket and a letter.
record Begins (b c : ℕ) (cs : List ℕ) : Type 0 where
  bracket : b ≡ 40
  letter : 97 ≤ c
  closes_then : closes Letter 1 cs ≡ true

begins : (b c : ℕ) (cs : List ℕ) → is_form (b ∷ c ∷ cs) ≡ true → Begins b c cs
begins b c cs is =
    let parts = and_parts (eqb b 40) _ is in
    let more = and_parts (is_between 97 122 c) _ parts.1 in
    record { bracket = eqb-true b 40 parts.0; letter = leb-true 97 c (and_parts (leb 97 c) _ more.0).0; closes_then = more.1 }

between_brackets : (l front : List ℕ) → l ≡ 40 ∷ (front ++ 41 ∷ []) → l ≡ 40 ∷ (inside l ++ 41 ∷ [])
between_brackets l front is = is ∙ ap (λ f. 40 ∷ (f ++ 41 ∷ [])) (sym (ap inside is ∙ inside_brackets front))

form_in_brackets : (l : List ℕ) → is_form l ≡ true → l ≡ 40 ∷ (inside l ++ 41 ∷ [])
form_in_brackets [] is = cc
form_in_brackets (b ∷ []) is = cc
form_in_brackets (b ∷ c ∷ []) is = let opened = begins b c [] is in cc
form_in_brackets (b ∷ c ∷ d ∷ ds) is =
    let opened = begins b c (d ∷ ds) is in
    let end = closes_end Letter 1 d ds opened.closes_then in
    between_brackets (b ∷ c ∷ d ∷ ds) (c ∷ end.0) (ap (λ l. b ∷ c ∷ l) end.1 ∙ ap (λ f. f ∷ c ∷ end.0 ++ 41 ∷ []) opened.bracket)

form_lacks : (l : List ℕ) → is_form l ≡ true → Lacks 10 l
form_lacks [] is = cc
form_lacks (b ∷ []) is = cc
form_lacks (b ∷ c ∷ cs) is =
    let opened = begins b c cs is in
    let letter = opened.letter in
    let bracket = opened.bracket in
    let P = λ (x : ℕ). eqb x 10 ≡ false in
    All-cons P b (c ∷ cs) (ne_eqb b 10 (λ e. omega arith)) (All-cons P c cs (ne_eqb c 10 (λ e. omega arith)) (closes_lacks Letter 1 cs opened.closes_then))

-- A line is such a form.
pub line_in_brackets : (l : List ℕ) → is_line l ≡ true → l ≡ 40 ∷ (inside l ++ 41 ∷ [])
line_in_brackets l is = form_in_brackets l (and_parts (leb (length l) line_bound) _ is).1

pub line_lacks : (l : List ℕ) → is_line l ≡ true → Lacks 10 l
line_lacks l is = form_lacks l (and_parts (leb (length l) line_bound) _ is).1
