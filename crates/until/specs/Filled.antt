-- How the row of one line is filled from the rows of the lines before it. Assumes nothing.
use Rattle.std.specs.Prelude.{◌≡◌, ℕ, ◌+◌, ◌*◌, ◌<◌, Bool, T, List, take, drop, slice_index}
use Rattle.model.specs.Machines.{Meaning, states, label_of}
use Rattle.until.specs.declared.formula.Line.{Line}
use Rattle.until.specs.declared.formula.Line.TheVariants.{True, At, And, Until}
use Rattle.until.specs.Rows.{row_of}
use Rattle.until.specs.Searches.{Marked, WalkOver}
use Rattle.until.specs.Formulas.{meets}
use Rattle.until.specs.Lines.{Says}

module _ {L : Type 0} (at_most : L → L → Bool) (m : Meaning L) where
  -- The line holds at s, where the rows say at which states the lines before it hold.
  abbrev pub HoldsBy : List ℕ → Line L → ℕ → Type 0
  HoldsBy rows True s = Unit {0}
  HoldsBy rows (At a) s = T (meets at_most a (label_of m s))
  HoldsBy rows (And i j) s = Marked (row_of (states m) rows i) s × Marked (row_of (states m) rows j) s
  HoldsBy rows (Until i j) s = WalkOver m (row_of (states m) rows i) (Marked (row_of (states m) rows j)) s

  -- Row k of the bytes says where the line holds by the rows before it, and nothing else has changed.
  pub record Filled (line : Line L) (k : ℕ) (before bytes : List ℕ) : Type 0 where
    pub front : take (k * states m) bytes ≡ take (k * states m) before
    pub said : (s : ℕ) → s < states m → Says (slice_index bytes (k * states m + s)) (HoldsBy (take (k * states m) before) line s)
    pub rest : drop (k * states m + states m) bytes ≡ drop (k * states m + states m) before
