use Rattle.std.proofs.Common.{rules}
use Rattle.text.proofs.ManyNumbers.{by_none, by_four}
use Rattle.text.proofs.line.row_by.Goals as goal

pub returns-in_err-numbers-clause-says : goal.returns-in_err-numbers-clause-says
returns-in_err-numbers-clause-says g c = search (rules, by_none (g.met.O.Spelled.spelling c.args.order.now))

pub returns-clause-says : goal.returns-clause-says
returns-clause-says g c = search (rules, by_four)
