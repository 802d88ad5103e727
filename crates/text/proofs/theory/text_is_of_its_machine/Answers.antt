use Rattle.text.proofs.Texts.{read_is_written}
use Rattle.text.proofs.theory.text_is_of_its_machine.Goals as goal

pub returns : goal.returns
returns g c = read_is_written _ _ (g.met.O.Spelled.spelling c.args.order.now)
