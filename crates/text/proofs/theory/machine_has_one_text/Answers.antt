use Rattle.text.proofs.Texts.{same_text}
use Rattle.text.proofs.theory.machine_has_one_text.Goals as goal

pub returns : goal.returns
returns g c = same_text _ _ (g.met.O.Spelled.spelling c.args.order.now)
