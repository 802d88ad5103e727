use Rattle.until.proofs.Evaluating.{Evaluating}
use Rattle.until.proofs.evaluation.evaluate.Given as goal

abbrev pub invariant-loop-k : goal.invariant-loop-k
invariant-loop-k g l = Evaluating (g.O.Order.relation l.order) (g.M.Machine.meaning l.machine) l.lines l.initial.rows l.rows l.k
