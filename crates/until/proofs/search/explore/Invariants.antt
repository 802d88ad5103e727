use Rattle.std.proofs.Common.{◌-◌}
use Rattle.model.specs.Machines.{state_bound, states, Step}
use Rattle.until.specs.Searches.{Marked}
use Rattle.until.proofs.Turns.{Outer, Inner}
use Rattle.until.proofs.search.explore.Given as goal

abbrev pub invariant-loop-t : goal.invariant-loop-t
invariant-loop-t g l =
    let m = g.M.Machine.meaning l.machine in
    Inner (states m) (Step m) (Marked l.row) l.start l.head l.next l.found l.queue.items l.t

abbrev pub invariant-loop-queue : goal.invariant-loop-queue
invariant-loop-queue g l =
    let m = g.M.Machine.meaning l.machine in
    Outer (states m) (Step m) (Marked l.row) l.start l.found l.queue.items l.head

abbrev pub decreases-loop-queue : goal.decreases-loop-queue
decreases-loop-queue g l = state_bound - l.head
