use Rattle.strikes.proofs.Largest.{standing_is_largest}
use Rattle.strikes.proofs.theory.standing_is_largest.Goals as goal

pub returns : goal.returns
returns g c = standing_is_largest (g.O.Order.relation c.args.order.now)
