use Rattle.std.proofs.Common.{Ok, rules}
use Rattle.until.proofs.RowBytes.{row_is_marked}
use Rattle.sheet.specs.Verdicts.{setting}
use Rattle.sheet.specs.Pages.{page}
use Rattle.sheet.proofs.Keeping.{below_kept}
use Rattle.sheet.proofs.sheet.Sheet.below.Goals as goal

pub returns-clause-promise : goal.returns-clause-promise
returns-clause-promise g c =
    λ records at_most laws came. below_kept (setting at_most (g.M.Machine.meaning c.args.machine.now)) (g.M.Machine.bounded c.args.machine.now)
    (page c.args.self.now c.args.pairs.now records) came laws c.args.s c.args.t (Ok c.is_marked.result) (search (rules, row_is_marked))
