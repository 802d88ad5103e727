use Rattle.std.proofs.Common.{◌≡◌, pos, to_z, w64, arith}
use Rattle.std.proofs.lemmas.Int.{ints}
use Rattle.text.proofs.Lengths.{row_length}
use Rattle.text.proofs.Steps.{lays_step, lays_no_step}
use Rattle.text.proofs.writing.Pen.put_steps_from.Goals as goal
use Rattle.text.proofs.writing.Pen.put_steps_from.Goals.{then-has_step, else-has_step}

pub put_line-requires-clause-room : goal.put_line-requires-clause-room
put_line-requires-clause-room g c =
    let few = (g.M.Machine.bounded c.args.machine.now).few in
    omega (arith, few, c.loop-t.invariant.length, row_length (g.M.Machine.meaning c.args.machine.now).step c.args.s c.loop-t.t (omega (arith, few)) (omega (arith, few)))

pub loop-t-preserved : goal.loop-t-preserved
loop-t-preserved g c =
    let few = (g.M.Machine.bounded c.args.machine.now).few in
    let step = (g.M.Machine.meaning c.args.machine.now).step in
    let fits : to_z w64 c.loop-t.t ≡ pos c.loop-t.t = omega (arith, ints, few) in
    elim c.if-has_step.branch [
      | then-has_step w ↦ rw w.self-is (lays_step step c.args.s c.loop-t.t (to_z w64 c.loop-t.t) fits c.loop-t.invariant w.if-has_step.ensures w.put_line.ensures)
      | else-has_step w ↦ rw w.self-is (lays_no_step step c.args.s c.loop-t.t c.loop-t.invariant w.if-has_step.ensures)
    ]
