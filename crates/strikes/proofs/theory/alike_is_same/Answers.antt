use Rattle.strikes.proofs.Entailment.{alike_is_same}
use Rattle.strikes.proofs.theory.alike_is_same.Goals as goal

pub returns : goal.returns
returns g c = alike_is_same (g.O.Order.lawful c.args.order.now)
