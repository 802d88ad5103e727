-- Labels in a formula, as bytes and as numbers. Assumes nothing.
use Rattle.std.proofs.Common.{◌≡◌, ℕ, ◌<◌, ◌==◌, false, List, [], ◌∷◌, ◌++◌, length, map, All, Option, Some, None, option_and_then, ℤ, refl, ap, sym, ◌∙◌, length-append, arith}
use Rattle.std.specs.Fmt.{signed_decimal}
use Rattle.std.proofs.lemmas.Bool.Decides.{nat_tests}
use Rattle.std.proofs.lemmas.List.Elements.{All-nil, All-cons, All-head, All-tail, All-append}
use Rattle.text.specs.Lines.{pieces}
use Rattle.text.specs.Numbers.{numbers, at_most_four, items}
use Rattle.text.specs.Spelling.{Spelling}
use Rattle.text.specs.FormulaParts.{Label, label_of}
use Rattle.text.proofs.Pieces.{Lacks, pieces_joined, some_pieces}
use Rattle.text.proofs.WrittenNumbers.{Small}
use Rattle.text.proofs.NumberLists.{numbers_written, numbers_are}
use Rattle.text.proofs.WordBytes.{number_in_word, number_begins, not_in_word}
use Rattle.text.proofs.FormPieces.{pieces_items, joined_items}

-- numbers have no closing bracket
number_lacks : (z : ℤ) → Small z → Lacks 41 (signed_decimal z)
number_lacks z small = not_in_word 41 refl (signed_decimal z) (number_in_word z small)

items_lack : (zs : List ℤ) → All Small zs → Lacks 41 (items zs)
items_lack [] small = All-nil (λ b. (b == 41) ≡ false)
items_lack (z ∷ zs) small =
    All-cons (λ b. (b == 41) ≡ false) 32 (signed_decimal z ++ items zs) refl
    (All-append (λ b. (b == 41) ≡ false) (signed_decimal z) (items zs) (number_lacks z (All-head Small z zs small)) (items_lack zs (All-tail Small z zs small)))

-- the bytes of a label after the first space
abbrev pub label_bytes : List ℤ → List ℕ
label_bytes [] = []
label_bytes (z ∷ zs) = signed_decimal z ++ items zs

pub is_label : (z : ℤ) (zs : List ℤ) → All Small (z ∷ zs) → Label (label_bytes (z ∷ zs))
is_label z zs small =
    let first = All-head Small z zs small in
    record {
      any = omega (arith, number_begins z first, length-append (signed_decimal z) (items zs));
      unclosed = All-append (λ b. (b == 41) ≡ false) (signed_decimal z) (items zs) (number_lacks z first) (items_lack zs (All-tail Small z zs small));
    }

pub items_bytes : (bytes : List ℕ) (zs : List ℤ) → numbers (pieces 32 bytes) ≡ Some zs → items zs ≡ 32 ∷ bytes
items_bytes bytes [] e = absurd (omega (arith, some_pieces 32 bytes, ap length (numbers_are (pieces 32 bytes) [] e).0))
items_bytes bytes (z ∷ zs) e =
    let are : pieces 32 bytes ≡ map signed_decimal (z ∷ zs) = (numbers_are (pieces 32 bytes) (z ∷ zs) e).0 in
    ap (λ l. 32 ∷ l) (sym (pieces_joined 32 bytes (map signed_decimal (z ∷ zs)) are ∙ joined_items (signed_decimal z) zs))

module _ {L : Type 0} {spelled : L → Option (List ℤ)} (understood : List ℤ → Option L) (spelling : Spelling spelled understood) where
  few : (zs : List ℤ) (label : Option L) → understood zs ≡ label → 3 < length zs → label ≡ None
  few zs None e h = refl
  few zs (Some l) e h = absurd (omega (arith, spelling.few zs l (spelling.back zs l e)))

  -- a label has no more numbers than are read
  pub none_of_more : (zs : Option (List ℤ)) → at_most_four zs ≡ None → option_and_then understood zs ≡ None
  none_of_more None e = refl
  none_of_more (Some zs) e = few zs (understood zs) refl (grind (arith, nat_tests, e))

  pub understood_small : (zs : List ℤ) (l : L) → understood zs ≡ Some l → All Small zs
  understood_small zs l e = spelling.small zs l (spelling.back zs l e)

  -- the label of numbers is that of their bytes
  pub label_back : (z : ℤ) (zs : List ℤ) → All Small (z ∷ zs) → label_of understood (label_bytes (z ∷ zs)) ≡ understood (z ∷ zs)
  label_back z zs small =
      let lacks = not_in_word 32 refl (signed_decimal z) (number_in_word z (All-head Small z zs small)) in
      ap (λ ps. option_and_then understood (numbers ps)) (pieces_items (signed_decimal z) zs lacks (All-tail Small z zs small))
      ∙ ap (option_and_then understood) (numbers_written (z ∷ zs) small)
