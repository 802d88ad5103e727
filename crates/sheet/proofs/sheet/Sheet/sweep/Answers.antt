use Rattle.std.proofs.Common.{ℕ, ◌-◌, Ok, Result, rules}
use Rattle.model.specs.declared.refusal.Refusal.{Refusal}
use Rattle.sheet.specs.Verdicts.{setting}
use Rattle.sheet.specs.Pages.{page}
use Rattle.sheet.specs.Calls.{Sweeps}
use Rattle.sheet.proofs.Leaving.{answered_after, made_by_sweep, sweep_leaves}
use Rattle.sheet.proofs.Keeping.{sweep_kept}
use Rattle.sheet.proofs.sheet.Sheet.sweep.Goals as goal

pub overflow_sub-struck : goal.overflow_sub-struck
overflow_sub-struck g c = search (rules, made_by_sweep)

pub returns : goal.returns
returns g c =
    let on = setting (g.O.Order.relation c.args.on.now.order.now) (g.M.Machine.meaning c.args.on.now.machine.now) in
    let p = page c.args.self.now c.args.pairs.now (g.S.StrikeRecords.records c.args.strikes.now) in
    let struck : Result ℕ Refusal = Ok (c.sweep_row-made.result - c.args.self.now.strikes) in
    let answer : Sweeps on p c.args.s struck _ = answered_after _ _ _ _ c.check_page.ensures c.in_ok-check_page.was (sweep_leaves on p _ c.args.s c.sweep_row-made.ensures.after) in
    record { answer = answer; promise = λ came. sweep_kept on (g.M.Machine.bounded c.args.on.now.machine.now) p came c.args.s struck _ answer; filled = search rules }
