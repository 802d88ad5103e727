-- The line of a refusal is at most one past the lines of the text. Assumes nothing.
use Rattle.std.proofs.Common.{◌≡◌, ℕ, ◌+◌, ◌≤◌, ◌==◌, List, [], ◌∷◌, length, Option, Some, None, IfSome, Result, Ok, Err, ℤ, ap, subst, arith}
use Rattle.std.proofs.lemmas.List.Splits.{length-slice_split}
use Rattle.std.proofs.lemmas.List.Sums.{count_by-le-length}
use Rattle.text.specs.declared.fault.Fault.{Fault}
use Rattle.text.specs.declared.fault.Side.{Side}
use Rattle.text.specs.declared.fault.Side.TheVariants.{Right}
use Rattle.text.specs.declared.fault.Place.{Place}
use Rattle.text.specs.declared.fault.Refused.{Refused}
use Rattle.text.specs.declared.row.Shape.{Shape}
use Rattle.text.specs.declared.row.Shape.TheVariants.{Alone}
use Rattle.text.specs.declared.row.Row.{Row}
use Rattle.text.specs.declared.row.Due.{Due}
use Rattle.text.specs.declared.row.Due.TheVariants.{Header as HeaderDue}
use Rattle.text.specs.Lines.{newline, pieces}
use Rattle.text.specs.Faults.{refused, place}
use Rattle.text.specs.Rows.{side_of, side_of_line, row_of, after}
use Rattle.text.specs.Readings.{Rows, ended, end_fault, also_row, placed, then_rows, rows, alone_said}

abbrev Within : ℕ → Refused Place → Type 0
Within n e = IfSome e.place (λ p. p.line ≤ n)

module _ {L : Type 0} where
  ended_line : (side : Side) (k n : ℕ) (o : Option Fault) (e : Refused Place) → k ≤ n → ended {L = L} side k o ≡ Err e → Within n e
  ended_line side k n None e low h = absurd (cc)
  ended_line side k n (Some fault) e low h = let same : refused fault (Some (place side k)) ≡ e = cc in subst (Within n) same low

  also_refused : (r : Side × Row L) (o : Result (Rows L) (Refused Place)) (e : Refused Place) → also_row r o ≡ Err e → o ≡ Err e
  also_refused r (Ok rs) e h = absurd (cc)
  also_refused r (Err x) e h = let same : x ≡ e = cc in ap Err same

  then_line : (side : Side) (k n : ℕ) (row : Result (Row L) Fault) (rest : Row L → Result (Rows L) (Refused Place)) (e : Refused Place) → k ≤ n →
      ((r : Row L) → rest r ≡ Err e → Within n e) → then_rows side (placed side k row) rest ≡ Err e → Within n e
  then_line side k n (Err fault) rest e low more h = let same : refused fault (Some (place side k)) ≡ e = cc in subst (Within n) same low
  then_line side k n (Ok r) rest e low more h = more r (also_refused (side, r) (rest r) e h)

module _ {L : Type 0} (understood : List ℤ → Option L) (shape : Shape) where
  rows_line : (due : Due) (k n : ℕ) (ps : List (List ℕ)) (e : Refused Place) → k + length ps ≤ n → rows understood shape due k ps ≡ Err e → Within n e
  rows_line due k n [] e low h = ended_line {L = L} (side_of due) k n (end_fault due []) e (omega arith) h
  rows_line due k n (last ∷ []) e low h = ended_line {L = L} (side_of due) k n (end_fault due last) e (omega arith) h
  rows_line due k n (line ∷ piece ∷ more) e low h =
      then_line (side_of_line due line) k n (row_of understood shape due line) (λ r. rows understood shape (after due r) (k + 1) (piece ∷ more)) e (omega arith)
      (λ r. rows_line (after due r) (k + 1) n (piece ∷ more) e (omega arith)) h

pub alone_line : {L : Type 0} (understood : List ℤ → Option L) (text : List ℕ) (e : Refused Place) → alone_said understood text ≡ Err e → IfSome e.place (λ p. p.line ≤ length text + 2)
alone_line understood text e h = rows_line understood Alone (HeaderDue Right 0) 1 (length text + 2) (pieces newline text) e (omega (arith, length-slice_split (λ b. b == newline) text, count_by-le-length (λ b. b == newline) text)) h
