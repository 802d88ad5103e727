use Rattle.std.proofs.Common.{length}
use Rattle.crosscheck.specs.FormulaLines.{Beside}
use Rattle.crosscheck.proofs.Joining.{SoFar}
use Rattle.crosscheck.proofs.formulas.join.Given as goal

abbrev pub invariant-loop-strike : goal.invariant-loop-strike
invariant-loop-strike g l = Beside l.initial.lines.items l.initial.told → SoFar l.initial.told l.initial.v l.initial.lines.items l.rest l.lines.items l.joined

abbrev pub decreases-loop-strike : goal.decreases-loop-strike
decreases-loop-strike g l = length l.rest
