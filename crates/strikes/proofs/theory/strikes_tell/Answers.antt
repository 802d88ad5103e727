use Rattle.strikes.proofs.Telling.{strikes_tell}
use Rattle.strikes.proofs.theory.strikes_tell.Goals as goal

pub returns : goal.returns
returns g c = strikes_tell (g.O.Order.lawful c.args.order.now)
