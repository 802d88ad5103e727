use Rattle.std.proofs.Common.{rules}
use Rattle.until.proofs.Decided.{walks_decides}
use Rattle.until.proofs.theory.walks_decide.Goals as goal

pub returns : goal.returns
returns g c = search (rules, walks_decides)
