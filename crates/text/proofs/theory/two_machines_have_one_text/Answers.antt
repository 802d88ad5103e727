use Rattle.text.proofs.TwoTexts.{same_two_texts}
use Rattle.text.proofs.theory.two_machines_have_one_text.Goals as goal

pub returns : goal.returns
returns c = same_two_texts
