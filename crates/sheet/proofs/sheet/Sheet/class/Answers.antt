use Rattle.std.proofs.Common.{Ok, rules}
use Rattle.sheet.specs.Verdicts.{setting}
use Rattle.sheet.specs.Pages.{page}
use Rattle.sheet.proofs.Keeping.{class_kept}
use Rattle.sheet.proofs.sheet.Sheet.class.Goals as goal

pub returns-clause-promise : goal.returns-clause-promise
returns-clause-promise g c =
    λ records at_most laws came. class_kept (setting at_most (g.M.Machine.meaning c.args.machine.now)) (g.M.Machine.bounded c.args.machine.now)
    (page c.args.self.now c.args.pairs.now records) came laws c.args.s (Ok c.class_of.result) (search rules)
