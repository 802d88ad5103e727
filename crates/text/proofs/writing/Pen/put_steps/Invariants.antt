use Rattle.model.specs.Machines.{states}
use Rattle.text.specs.Writings.{step_lines}
use Rattle.text.specs.Laying.{Lays}
use Rattle.text.proofs.writing.Pen.put_steps.Given as goal

abbrev pub invariant-loop-s : goal.invariant-loop-s
invariant-loop-s g l = Lays l.fn.self (step_lines (g.M.Machine.meaning l.machine).step (states (g.M.Machine.meaning l.machine)) l.s) l.self
