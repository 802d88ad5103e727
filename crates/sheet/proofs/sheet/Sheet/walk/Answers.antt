use Rattle.std.proofs.Common.{rules}
use Rattle.sheet.proofs.sheet.Sheet.walk.Goals as goal

pub returns : goal.returns
returns g c = (c.answer.result, c.answer.new.walk, search rules, c.answer.ensures.answer)
