use Rattle.std.proofs.Common.{rules}
use Rattle.sheet.specs.Verdicts.{setting}
use Rattle.sheet.specs.Pages.{page}
use Rattle.sheet.proofs.Keeping.{reason_kept}
use Rattle.sheet.proofs.sheet.Sheet.reason.Goals as goal

pub returns-in_err-check_page-clause-promise : goal.returns-in_err-check_page-clause-promise
returns-in_err-check_page-clause-promise g c =
    λ at_most laws came. reason_kept (setting at_most (g.M.Machine.meaning c.args.machine.now)) (g.M.Machine.bounded c.args.machine.now)
    (page c.args.self.now c.args.pairs.now (g.S.StrikeRecords.records c.args.strikes.now)) came laws c.args.s c.args.t c.from_residual.result (search rules)

pub returns-clause-promise : goal.returns-clause-promise
returns-clause-promise g c =
    λ at_most laws came. reason_kept (setting at_most (g.M.Machine.meaning c.args.machine.now)) (g.M.Machine.bounded c.args.machine.now)
    (page c.args.self.now c.args.pairs.now (g.S.StrikeRecords.records c.args.strikes.now)) came laws c.args.s c.args.t c.record_of.result (search rules)
