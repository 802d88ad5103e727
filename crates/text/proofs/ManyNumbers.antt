-- No line takes more than four numbers. Assumes nothing.
use Rattle.std.proofs.Common.{◌≡◌, ℕ, ◌<◌, Bool, true, false, cond, List, [], ◌∷◌, length, Option, Some, None, Err, ℤ, refl, ap, ◌∙◌, leb, arith, rules}
use Rattle.std.proofs.lemmas.Bool.{cond-true, leb-false}
use Rattle.std.proofs.lemmas.Option.{cond_some}
use Rattle.text.specs.declared.fault.Fault.TheVariants.{WrongItems}
use Rattle.text.specs.declared.word.Word.{Word}
use Rattle.text.specs.declared.word.Word.TheVariants.{Machine as MachineWord, Trace as TraceWord, Label as LabelWord, Step as StepWord}
use Rattle.text.specs.declared.row.Shape.{Shape}
use Rattle.text.specs.declared.row.Due.{Due}
use Rattle.text.specs.declared.row.Due.TheVariants.{Label as LabelDue, Step as StepDue}
use Rattle.text.specs.Numbers.{numbers, at_most_four}
use Rattle.text.specs.Spelling.{Spelling}
use Rattle.text.specs.Rows.{knows, is_due, state_number, labelled, row, row_with, row_by}

module _ {L : Type 0} {spelled : L → Option (List ℤ)} {understood : List ℤ → Option L} (laws : Spelling spelled understood) where
  unlabelled : (zs : List ℤ) → 3 < length zs → (o : Option L) → understood zs ≡ o → o ≡ None
  unlabelled zs h None e = refl
  unlabelled zs h (Some l) e = let few = laws.few zs l (laws.back zs l e) in absurd (omega arith)

  label_wrong : (s : ℕ) (o : Option ℕ) → labelled {L = L} s o None ≡ Err WrongItems
  label_wrong s None = refl
  label_wrong s (Some k) = refl

  many_wrong : (due : Due) (w : Word) (zs : List ℤ) → is_due due w ≡ true → 4 < length zs → row understood due w zs ≡ Err WrongItems
  many_wrong due w [] may h = absurd (omega arith)
  many_wrong due w (x ∷ []) may h = absurd (omega arith)
  many_wrong due w (x ∷ y ∷ []) may h = absurd (omega arith)
  many_wrong due MachineWord (x ∷ y ∷ z ∷ zs) may h = refl
  many_wrong due TraceWord (x ∷ y ∷ z ∷ zs) may h = refl
  many_wrong (LabelDue at s) LabelWord (x ∷ y ∷ z ∷ zs) may h =
      ap (labelled s (state_number x)) (unlabelled (y ∷ z ∷ zs) (omega (arith, h)) (understood (y ∷ z ∷ zs)) refl) ∙ label_wrong s (state_number x)
  many_wrong (StepDue at place) StepWord (x ∷ y ∷ z ∷ zs) may h = refl
  many_wrong due w zs may h = search rules

  module _ (due : Due) (w : Word) (may : is_due due w ≡ true) where
    wrong_unless_four : (zs : Option (List ℤ)) → at_most_four zs ≡ None → row_with understood due w zs ≡ Err WrongItems
    wrong_unless_four None h = refl
    wrong_unless_four (Some zs) h = cases (leb (length zs) 4) refl h
      where
        cases : (b : Bool) → leb (length zs) 4 ≡ b → cond b (Some zs) None ≡ None → row understood due w zs ≡ Err WrongItems
        cases true e h = cc
        cases false e h = many_wrong due w zs may (let no = leb-false (length zs) 4 e in omega arith)

  -- A word that is known and due, with more numbers than any line takes, or none that can be read.
  pub by_none : (shape : Shape) (due : Due) (w : Word) (words : List (List ℕ)) → knows shape w ≡ true → is_due due w ≡ true → at_most_four (numbers words) ≡ None → row_by understood shape due (Some w) words ≡ Err WrongItems
  by_none shape due w words known may h = cond-true _ _ _ known ∙ cond-true _ _ _ may ∙ wrong_unless_four due w may (numbers words) h

four_of : (zs : Option (List ℤ)) (ys : List ℤ) → at_most_four zs ≡ Some ys → zs ≡ Some ys
four_of None ys h = cc
four_of (Some zs) ys h = ap Some (cond_some (leb (length zs) 4) zs ys h).1

-- The same with numbers that are read.
pub by_four : {L : Type 0} (understood : List ℤ → Option L) (shape : Shape) (due : Due) (w : Word) (words : List (List ℕ)) (zs : List ℤ) → knows shape w ≡ true → is_due due w ≡ true → at_most_four (numbers words) ≡ Some zs →
    row_by understood shape due (Some w) words ≡ row understood due w zs
by_four understood shape due w words zs known may h = cond-true _ _ _ known ∙ cond-true _ _ _ may ∙ ap (row_with understood due w) (four_of (numbers words) zs h)
