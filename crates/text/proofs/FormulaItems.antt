-- The items of a formula's line, read. Assumes nothing.
use Rattle.std.proofs.Common.{◌≡◌, ℕ, ◌<◌, ◌≤◌, Bool, false, List, [], ◌∷◌, ◌++◌, length, Option, Some, None, is_some, option_map, IsSomeAnd, Bor, ℤ, refl, sym, ap, subst, ◌∙◌, append-nil, arith}
use Rattle.std.specs.Bool.{then_some}
use Rattle.arrayvec.specs.ArrayVec.{ArrayVec}
use Rattle.until.specs.declared.formula.Line.{Line}
use Rattle.until.specs.Formulas.{Formula}
use Rattle.text.specs.Spelling.{Spelling}
use Rattle.text.specs.FormulaTexts.{formula_by, flat, deepest}
use Rattle.text.specs.FormulaParts.{shown, bytes_of, Reads, NoFront, label_of, lines_of, AreLinesOf, ReadsItems}
use Rattle.text.proofs.FormulaWritten.{writes_front, writes_no_front, writes_no_more}
use Rattle.text.proofs.FormulaMeanings.{lines_flat}

empty : (xs : List ℕ) → length xs ≡ 0 → xs ≡ []
empty [] h = refl
empty (x ∷ xs) h = absurd (omega arith)

module _ {L : Type 0} {spelled : L → Option (List ℤ)} (understood : List ℤ → Option L) (spelling : Spelling spelled understood) where
  pub no_items : (line : List ℕ) (r : Option (ArrayVec (Line (Bor (List ℕ))))) → deepest 0 line ≤ 32 → NoFront 32 line [] → r ≡ None → ReadsItems understood line r
  no_items line r low none e = record { formula = None; writes = writes_no_front understood spelling line low none; gives = e }

  pub items_and_more : (line rest : List ℕ) (after : List (Line (List ℕ))) (lines : ArrayVec (Line (Bor (List ℕ)))) → Reads line rest [] after → 0 < length rest → ReadsItems understood line (then_some false lines)
  items_and_more line rest after lines reads some =
      record { formula = None; writes = writes_no_more understood spelling line rest reads.formula reads.front some; gives = refl }

  pub items_read : (line rest : List ℕ) (lines : ArrayVec (Line (Bor (List ℕ)))) (b : Bool) → Reads line rest [] (shown lines.items) → length rest ≡ 0 → b ≡ is_some (lines_of understood (shown lines.items)) → ReadsItems understood line (then_some b lines)
  items_read line rest lines b reads none there = by_formula (formula_by (label_of understood) reads.formula) refl
    where
      is : line ≡ bytes_of reads.formula
      is = reads.front.is ∙ ap (λ l. bytes_of reads.formula ++ l) (empty rest none) ∙ append-nil (bytes_of reads.formula)

      found : (G : Option (Formula L)) → formula_by (label_of understood) reads.formula ≡ G → lines_of understood (shown lines.items) ≡ option_map (flat 0) G
      found G e = ap (lines_of understood) reads.lines ∙ lines_flat understood 0 reads.formula ∙ ap (option_map (flat 0)) e

      by_formula : (G : Option (Formula L)) → formula_by (label_of understood) reads.formula ≡ G → ReadsItems understood line (then_some b lines)
      by_formula None e = record {
        formula = None;
        writes = writes_front understood spelling line reads.formula None reads.front.labelled is e;
        gives = ap (λ t. then_some t lines) (there ∙ ap is_some (found None e));
      }
      by_formula (Some G) e = record {
        formula = Some G;
        writes = writes_front understood spelling line reads.formula (Some G) reads.front.labelled is e;
        gives = subst (λ t. IsSomeAnd (then_some t lines) (AreLinesOf understood G)) (sym (there ∙ ap is_some (found (Some G) e))) (found (Some G) e);
      }
