use Rattle.std.proofs.Common.{◌+◌, ◌*◌}
use Rattle.text.proofs.formula.+formula.Given as goal

abbrev pub decreases-formula : goal.decreases-formula
decreases-formula l = 2 * l.depth + 1

abbrev pub decreases-operand : goal.decreases-operand
decreases-operand l = 2 * l.depth
