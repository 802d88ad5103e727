use Rattle.text.proofs.Texts.{written_is_read}
use Rattle.text.proofs.theory.machine_is_read_from_its_text.Goals as goal

pub returns : goal.returns
returns g c = written_is_read _ _ (g.met.O.Spelled.spelling c.args.order.now)
