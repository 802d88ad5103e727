use Rattle.std.proofs.Common.{mul-le-mul, arith, rules}
use Rattle.sheet.specs.Verdicts.{setting}
use Rattle.sheet.proofs.Readiness.{swept_few}
use Rattle.sheet.proofs.Passing.{swept_more}
use Rattle.sheet.proofs.setting.Setting.sweep_row.Goals as goal

-- strikes are no more than pairs
pub overflow_add-done : goal.overflow_add-done
overflow_add-done g c =
    let on = setting (g.O.Order.relation c.args.self.now.order.now) (g.M.Machine.meaning c.args.self.now.machine.now) in
    let few = (g.M.Machine.bounded c.args.self.now.machine.now).few in
    let made = swept_few on _ _ _ c.args.s c.loop-t.t c.requires.ready c.requires.first (omega arith) c.loop-t.invariant.0 c.attempt.ensures.after in
    omega (arith, mul-le-mul few few, made)

pub loop-t-preserved : goal.loop-t-preserved
loop-t-preserved g c = (search (rules, swept_more), search rules)
