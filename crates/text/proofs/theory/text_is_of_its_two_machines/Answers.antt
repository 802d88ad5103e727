use Rattle.text.proofs.TwoTexts.{two_is_written}
use Rattle.text.proofs.theory.text_is_of_its_two_machines.Goals as goal

pub returns : goal.returns
returns c = two_is_written
