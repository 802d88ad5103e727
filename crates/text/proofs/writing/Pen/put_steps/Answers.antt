use Rattle.std.proofs.Common.{arith}
use Rattle.model.specs.Machines.{states}
use Rattle.text.proofs.Lengths.{steps_length}
use Rattle.text.proofs.Steps.{lays_row}
use Rattle.text.proofs.writing.Pen.put_steps.Goals as goal

pub put_steps_from-requires-clause-room : goal.put_steps_from-requires-clause-room
put_steps_from-requires-clause-room g c =
    let few = (g.M.Machine.bounded c.args.machine.now).few in
    omega (arith, few, c.loop-s.invariant.length, steps_length (g.M.Machine.meaning c.args.machine.now).step _ c.loop-s.s few (omega (arith, few)))

pub loop-s-preserved : goal.loop-s-preserved
loop-s-preserved g c =
    let m = g.M.Machine.meaning c.args.machine.now in
    lays_row m.step (states m) c.loop-s.s c.loop-s.invariant c.put_steps_from.ensures
