use Rattle.std.proofs.Common.{Ok, rules}
use Rattle.sheet.specs.Verdicts.{setting}
use Rattle.sheet.specs.Pages.{page}
use Rattle.sheet.proofs.Keeping.{try_kept}
use Rattle.sheet.proofs.sheet.Sheet.try_pair.Goals as goal

pub returns-clause-promise : goal.returns-clause-promise
returns-clause-promise g c =
    λ came. try_kept (setting (g.O.Order.relation c.args.on.now.order.now) (g.M.Machine.meaning c.args.on.now.machine.now)) (g.M.Machine.bounded c.args.on.now.machine.now)
    (page c.args.self.now c.args.pairs.now (g.S.StrikeRecords.records c.args.strikes.now)) came c.args.s c.args.t (Ok c.attempt-verdict.result) _ (search rules)
