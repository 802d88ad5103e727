-- What is printed of a comparison. Assumes nothing.
use Rattle.std.specs.Prelude.{ℕ, zero, suc, List, [], ◌++◌}
use Rattle.std.specs.List.{flat_map}
use Rattle.sheet.specs.Verdicts.{Setting, size}
use Rattle.report.specs.Printed.{compared_line, class_line, strike_line, start_line}
use Rattle.report.specs.Settled.{class_on, is_below, strikes_on}

module _ {L : Type 0} (on : Setting L) where
  -- A line for the class of each of the first n states.
  abbrev pub class_lines : ℕ → List ℕ
  class_lines zero = []
  class_lines (suc s) = class_lines s ++ class_line s (class_on on s)

  -- A line for each strike, in the order made.
  abbrev pub strike_lines : List ℕ
  strike_lines = flat_map strike_line (strikes_on on)

  -- Two machines side by side, where the right's first state is k: the count, the classes, the strikes, and whether the
  -- left's first state is below the right's.
  abbrev pub report_lines : ℕ → List ℕ
  report_lines k = compared_line (size on) ++ (class_lines (size on) ++ (strike_lines ++ start_line 0 k (is_below on 0 k)))
