use Rattle.std.proofs.Common.{rules}
use Rattle.until.proofs.Fill.{row_filled}
use Rattle.until.proofs.evaluation.fill_row.Goals as goal

pub returns : goal.returns
returns g c = row_filled _ _ _ _ _ _ _ _ _ c.count-width.ensures (search rules) (search rules) (search rules) (search rules) (λ v l. c.loop-s.invariant v (search rules))
