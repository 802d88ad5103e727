use Rattle.text.specs.Writings.{step_lines_from}
use Rattle.text.specs.Laying.{Lays}
use Rattle.text.proofs.writing.Pen.put_steps_from.Given as goal

abbrev pub invariant-loop-t : goal.invariant-loop-t
invariant-loop-t g l = Lays l.fn.self (step_lines_from (g.M.Machine.meaning l.machine).step l.s l.t) l.self
