use Rattle.until.specs.Explored.{visit}
use Rattle.until.proofs.Trail.{Trail}
use Rattle.until.proofs.search.shortest_walk.Given as goal

abbrev pub invariant-loop-place : goal.invariant-loop-place
invariant-loop-place g l =
    Trail (g.M.Machine.meaning l.machine) l.row l.goal (visit l.found) l.initial.walk l.steps l.walk l.at l.place
