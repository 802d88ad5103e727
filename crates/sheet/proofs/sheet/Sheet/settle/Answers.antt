use Rattle.std.proofs.Common.{ℕ, ◌-◌, Ok, Result, rules}
use Rattle.model.specs.declared.refusal.Refusal.{Refusal}
use Rattle.sheet.specs.Verdicts.{setting}
use Rattle.sheet.specs.Pages.{page}
use Rattle.sheet.specs.Calls.{Settles}
use Rattle.sheet.proofs.Leaving.{answered_after, made_by_settle, settle_leaves}
use Rattle.sheet.proofs.Keeping.{settle_kept}
use Rattle.sheet.proofs.sheet.Sheet.settle.Goals as goal

pub overflow_sub-struck : goal.overflow_sub-struck
overflow_sub-struck g c = search (rules, made_by_settle)

pub returns : goal.returns
returns g c =
    let on = setting (g.O.Order.relation c.args.on.now.order.now) (g.M.Machine.meaning c.args.on.now.machine.now) in
    let p = page c.args.self.now c.args.pairs.now (g.S.StrikeRecords.records c.args.strikes.now) in
    let struck : Result (ℕ × ℕ) Refusal = Ok (c.strike_all-made.result.0 - c.args.self.now.strikes, c.strike_all-made.result.1) in
    let answer : Settles on p struck _ = answered_after _ _ _ _ c.check_page.ensures c.in_ok-check_page.was (settle_leaves on p _ _ c.strike_all-made.ensures.after) in
    record { answer = answer; promise = λ came. settle_kept on (g.M.Machine.bounded c.args.on.now.machine.now) p came (g.O.Order.lawful c.args.on.now.order.now) struck _ answer; filled = search rules }
