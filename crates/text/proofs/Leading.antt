-- What is left of a text, by its next line. Assumes nothing.
use Rattle.std.proofs.Common.{◌≡◌, ℕ, ◌+◌, ◌<◌, List, [], ◌∷◌, length, Option, Result, Ok, Err, ℤ, refl, ap, ◌∙◌, arith}
use Rattle.text.specs.declared.fault.Place.{Place}
use Rattle.text.specs.declared.fault.Refused.{Refused}
use Rattle.text.specs.declared.row.Shape.{Shape}
use Rattle.text.specs.declared.row.Row.{Row}
use Rattle.text.specs.declared.row.Due.{Due}
use Rattle.text.specs.Lines.{pieces}
use Rattle.text.specs.Rows.{side_of, side_of_line, row_of, after}
use Rattle.text.specs.Readings.{Rows, rows, also_row, placed, then_rows, ended, end_fault}
use Rattle.text.specs.Leading.{left, rows_left}
use Rattle.text.proofs.Pieces.{some_pieces}

module _ {L : Type 0} (understood : List ℤ → Option L) (shape : Shape) (due : Due) (k : ℕ) (bytes line : List ℕ) where
  -- What this line says comes before the rows of the pieces after it.
  abbrev then_these : List (List ℕ) → Result (Rows L) (Refused Place)
  then_these ps = then_rows (side_of_line due line) (placed (side_of_line due line) k (row_of understood shape due line)) (λ r. rows understood shape (after due r) (k + 1) ps)

  line_first : (ps : List (List ℕ)) → 0 < length ps → rows understood shape due k (line ∷ ps) ≡ then_these ps
  line_first [] some = absurd (omega arith)
  line_first (p ∷ ps) some = refl

  module _ (rest : List ℕ) (cut : pieces 10 bytes ≡ line ∷ pieces 10 rest) where
    then_rest : rows_left understood shape (left bytes k due) ≡ then_these (pieces 10 rest)
    then_rest = ap (rows understood shape due k) cut ∙ line_first (pieces 10 rest) (some_pieces 10 rest)

    pub leads_row : (r : Row L) → row_of understood shape due line ≡ Ok r → rows_left understood shape (left bytes k due) ≡ also_row (side_of_line due line, r) (rows_left understood shape (left rest (k + 1) (after due r)))
    leads_row r says = then_rest ∙ ap (λ x. then_rows (side_of_line due line) (placed (side_of_line due line) k x) (λ r. rows understood shape (after due r) (k + 1) (pieces 10 rest))) says

    pub leads_fault : (e : Refused Place) → placed (side_of_line due line) k (row_of understood shape due line) ≡ Err e → rows_left understood shape (left bytes k due) ≡ Err e
    leads_fault e says = then_rest ∙ ap (λ x. then_rows (side_of_line due line) x (λ r. rows understood shape (after due r) (k + 1) (pieces 10 rest))) says

  pub leads_end : pieces 10 bytes ≡ line ∷ [] → rows_left understood shape (left bytes k due) ≡ ended {L = L} (side_of due) k (end_fault due line)
  leads_end cut = ap (rows understood shape due k) cut
