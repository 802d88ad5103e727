-- A text read line by line: how what is left follows from what was left before. Assumes nothing.
use Rattle.std.specs.Prelude.{◌≡◌, ℕ, ◌<◌, List, [], length, Option, Result, Ok, Err, MatchOption, MatchResult, ℤ}
use Rattle.text.specs.declared.fault.Side.{Side}
use Rattle.text.specs.declared.fault.Place.{Place}
use Rattle.text.specs.declared.fault.Refused.{Refused}
use Rattle.text.specs.declared.row.Shape.{Shape}
use Rattle.text.specs.declared.row.Row.{Row}
use Rattle.text.specs.declared.row.Due.{Due}
use Rattle.text.specs.Lines.{newline, pieces}
use Rattle.text.specs.InOrder.{Storable}
use Rattle.text.specs.Readings.{Rows, rows, also_row}

-- What is left of a text: its bytes from the line of this number on, and what is due there.
pub record Left : Type 0 where
  pub bytes : List ℕ
  pub line : ℕ
  pub due : Due

abbrev pub left : List ℕ → ℕ → Due → Left
left bytes line due = record { bytes = bytes; line = line; due = due }

module _ {L : Type 0} (understood : List ℤ → Option L) (shape : Shape) where
  abbrev pub rows_left : Left → Result (Rows L) (Refused Place)
  rows_left l = rows understood shape l.due l.line (pieces newline l.bytes)

  -- From what was left to what is left: a row more, the end, or the first fault.
  abbrev pub Leads : Left → Result (Option (Side × Row L)) (Refused Place) → Left → Type 0
  Leads before r after =
      MatchResult r
      (λ next. MatchOption next (rows_left before ≡ Ok []) (λ row. (rows_left before ≡ also_row row (rows_left after)) × Storable row.1 × (length after.bytes < length before.bytes)))
      (λ e. rows_left before ≡ Err e)
