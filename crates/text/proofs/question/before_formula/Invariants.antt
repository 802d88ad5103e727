use Rattle.std.proofs.Common.{◌≡◌, ◌+◌, ◌-◌, ◌≤◌, length}
use Rattle.text.specs.Lines.{pieces}
use Rattle.text.specs.Questions.{before_formula}
use Rattle.text.proofs.LinesBefore.{later}
use Rattle.text.proofs.question.before_formula.Given as goal

abbrev pub invariant-loop-line : goal.invariant-loop-line
invariant-loop-line l =
    (before_formula (pieces 10 l.text) ≡ later l.lines (length l.text - length l.left) (before_formula (pieces 10 l.left)))
    × (l.lines + length l.left ≤ length l.text)

abbrev pub decreases-loop-line : goal.decreases-loop-line
decreases-loop-line l = length l.left
