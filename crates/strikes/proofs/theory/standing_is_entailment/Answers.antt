use Rattle.strikes.proofs.Entailment.{standing_is_entailment}
use Rattle.strikes.proofs.theory.standing_is_entailment.Goals as goal

pub returns : goal.returns
returns g c = standing_is_entailment (g.O.Order.lawful c.args.order.now)
