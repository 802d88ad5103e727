use Rattle.std.proofs.lemmas.Result.{IfOk-weaker}
use Rattle.until.specs.Lines.{denoted}
use Rattle.crosscheck.proofs.Joining.{so_far_other, so_far_line, so_far_own, joined_nothing}
use Rattle.crosscheck.proofs.formulas.join.Goals as goal

pub loop-strike-preserved-in_ok-join_before : goal.loop-strike-preserved-in_ok-join_before
loop-strike-preserved-in_ok-join_before g c b =
    let before = c.args.lines.now.items in
    let t = c.in-Some.field-0-0.now in
    let s = c.loop-strike.invariant b in
    let line = so_far_line c.args.told.now c.args.v before c.loop-strike.rest.now c.in-Some.others.now t c.loop-strike.lines.items c.loop-strike.joined s c.in-Some.ensures.cases.0 in
    so_far_own c.args.told.now c.args.v before c.loop-strike.rest.now c.in-Some.others.now t c.loop-strike.lines.items c.join_before.new.lines.items c.loop-strike.joined c.in_ok-join_before.field-0
    s c.in-Some.ensures.cases.0 c.if-strike-v.true (c.in_ok-join_before.ensures (denoted before t.1) s.done line s.so_far)

pub loop-strike-preserved : goal.loop-strike-preserved
loop-strike-preserved g c b =
    so_far_other c.args.told.now c.args.v c.args.lines.now.items c.loop-strike.rest.now c.in-Some.others.now c.in-Some.field-0-0.now c.loop-strike.lines.items c.loop-strike.joined
    (c.loop-strike.invariant b) c.in-Some.ensures.cases.0 c.if-strike-v.false

pub returns-in-None : goal.returns-in-None
returns-in-None g c b =
    IfOk-weaker c.add.result _ _
    (λ k. joined_nothing c.args.told.now c.args.v c.args.lines.now.items c.loop-strike.rest.now c.loop-strike.lines.items c.add.new.lines.items c.loop-strike.joined k
    (c.loop-strike.invariant b) c.in_default.ensures.cases c.in-None.is)
    c.add.ensures
