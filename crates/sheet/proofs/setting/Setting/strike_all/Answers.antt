use Rattle.std.proofs.Common.{rules, arith}
use Rattle.sheet.specs.Verdicts.{setting}
use Rattle.sheet.proofs.Readiness.{ready_pass, made_few}
use Rattle.sheet.proofs.Passing.{settled_more, settled_end}
use Rattle.sheet.proofs.setting.Setting.strike_all.Goals as goal

pub loop-done-smaller : goal.loop-done-smaller
loop-done-smaller g c =
    let on = setting (g.O.Order.relation c.args.self.now.order.now) (g.M.Machine.meaning c.args.self.now.machine.now) in
    let passed = ready_pass on _ _ c.loop-done.invariant.0 c.pass-next.ensures.after in
    omega arith

pub loop-done-preserved : goal.loop-done-preserved
loop-done-preserved g c =
    let on = setting (g.O.Order.relation c.args.self.now.order.now) (g.M.Machine.meaning c.args.self.now.machine.now) in
    let passed = ready_pass on _ _ c.loop-done.invariant.0 c.pass-next.ensures.after in
    let few = made_few _ _ c.loop-done.invariant.0 in
    (passed.0, omega arith, settled_more on _ _ _ _ c.loop-done.passes (omega arith) c.pass-next.ensures.after c.loop-done.invariant.2 c.if-next-done.false, search rules)

pub returns-then-next-done-clause-after : goal.returns-then-next-done-clause-after
returns-then-next-done-clause-after g c =
    let on = setting (g.O.Order.relation c.args.self.now.order.now) (g.M.Machine.meaning c.args.self.now.machine.now) in
    let few = made_few _ _ c.loop-done.invariant.0 in
    rw (← c.if-next-done.true) (settled_end on _ _ _ _ c.loop-done.passes (omega arith) c.pass-next.ensures.after c.loop-done.invariant.2 c.if-next-done.true)
