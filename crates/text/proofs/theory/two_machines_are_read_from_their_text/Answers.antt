use Rattle.text.proofs.TwoTexts.{two_is_read}
use Rattle.text.proofs.theory.two_machines_are_read_from_their_text.Goals as goal

pub returns : goal.returns
returns c = two_is_read
