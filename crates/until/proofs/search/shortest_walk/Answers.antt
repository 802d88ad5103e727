use Rattle.std.proofs.Common.{None, refl, arith}
use Rattle.model.proofs.Checks.{when_answered, room_enough}
use Rattle.until.proofs.Trail.{trail_start, trail_more, trail_end, no_trail}
use Rattle.until.proofs.search.shortest_walk.Goals as goal
use Rattle.until.proofs.search.shortest_walk.Goals.{else-loop-place-test, then-loop-place-test+else-place-gt0}

pub returns-in_default : goal.returns-in_default
returns-in_default g c =
    when_answered (room_enough _ _ 6 None (omega (arith, c.if-walk-n.false, c.count-n.ensures)))
    (no_trail (g.M.Machine.meaning c.args.machine.now) c.args.row.now c.args.goal.now _ c.explore-found.ensures c.in_default.ensures, refl)

pub loop-place-init : goal.loop-place-init
loop-place-init g c =
    let best = c.in-Some.ensures in
    let few = c.explore-found.ensures.few c.in-Some.last best.0.near in
    trail_start _ _ _ _ _ _ _ best.0 best.1 (omega (arith, c.if-walk-n.false, c.count-n.ensures, few, best.1))

pub loop-place-preserved : goal.loop-place-preserved
loop-place-preserved g c = trail_more _ _ _ _ c.explore-found.ensures c.loop-place.invariant c.unwrap-at.result c.unwrap-at.ensures (omega arith)

pub returns : goal.returns
returns g c =
    when_answered (room_enough _ _ 6 None (omega (arith, c.if-walk-n.false, c.count-n.ensures)))
    (elim c.loop-place-test.branch [
      | else-loop-place-test w ↦ absurd (omega arith)
      | then-loop-place-test+else-place-gt0 w ↦
          rw w.walk-is (trail_end _ _ _ _ c.explore-found.ensures c.in-Some.ensures.0 c.in-Some.ensures.1 (omega arith) c.loop-place.invariant)
    ])
