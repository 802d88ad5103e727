use Rattle.std.proofs.Common.{take}
use Rattle.text.proofs.Labels.{Labelled}
use Rattle.text.proofs.writing.Pen.put_labels.Given as goal

abbrev pub invariant-loop-s : goal.invariant-loop-s
invariant-loop-s g l = Labelled (g.O.Spelled.spelled l.order) (take l.s (g.M.Machine.meaning l.machine).labels) l.fn.self l.self
