use Rattle.std.proofs.Common.{rules, tests}
use Rattle.sheet.proofs.Judging.{step_unanswered}
use Rattle.sheet.proofs.judge.is_unanswered.Goals as goal

pub returns-then-has_step : goal.returns-then-has_step
returns-then-has_step g c = λ t low reached.
    let is =
    step_unanswered (g.M.Machine.meaning c.args.machine.now) (g.M.Machine.bounded c.args.machine.now) c.args.rows.bytes.now c.args.s t low
    c.args.ends.now c.args.u reached c.requires c.row.ensures c.meets.ensures c.if-has_step.ensures in
    search (rules, tests, is)
