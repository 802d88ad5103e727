use Rattle.std.proofs.Common.{◌≡◌, ◌<◌, length, sym, refl, arith, rules}
use Rattle.model.specs.Machines.{states, state_bound}
use Rattle.model.proofs.Tests.{true_holds, false_fails}
use Rattle.until.proofs.Breadth.{going_end, none_found}
use Rattle.until.proofs.Turns.{at, none_visited, outer_start, outer_first, outer_skip, outer_full, inner_skip, inner_push, inner_end, room_left}
use Rattle.until.proofs.search.explore.Goals as goal
use Rattle.until.proofs.search.explore.Goals.{then-is_none+then-has_step, else-is_none, else-is_none-via-then-is_none+else-has_step, else-is_none-via-else-is_none, then-marked+else-loop-t-test, else-marked}

pub loop-queue-init : goal.loop-queue-init
loop-queue-init g c = outer_start _ _ (g.M.Machine.bounded c.args.machine.now).few (omega (arith, c.if-start-n.false, c.count-n.ensures)) refl (search rules)

pub offset_bounds-found-s : goal.offset_bounds-found-s
offset_bounds-found-s g c =
    let first = outer_first c.loop-queue.invariant c.in-Some.s (search rules) (search rules) in
    search rules

pub unwrap-requires : goal.unwrap-requires
unwrap-requires g c = (outer_first c.loop-queue.invariant c.in-Some.s (search rules) (search rules)).1

pub push-requires-then-has_step : goal.push-requires-then-has_step
push-requires-then-has_step g c =
    let room = room_left c.loop-t.invariant.outer c.loop-t.t (omega arith) c.if-is_none.ensures in
    omega (arith, (g.M.Machine.bounded c.args.machine.now).few)

pub loop-t-preserved : goal.loop-t-preserved
loop-t-preserved g c =
    let m = c.args.machine.now in
    let inner = c.loop-t.invariant in
    let low : c.loop-t.t < states (g.M.Machine.meaning m) = omega arith in
    elim c.if-is_none.branch [
      | then-is_none+then-has_step w ↦
          rw (w.found-is, w.queue-is, w.push-then-has_step.ensures.items)
          (inner_push inner low w.if-is_none.ensures
          (true_holds _ (sym c.if-marked.ensures))
          ((g.M.Machine.bounded m).inside _ _ (true_holds _ (sym w.if-has_step.ensures))))
      | else-is_none w ↦
          rw (w.found-is, w.queue-is)
          (elim w.else-is_none.branch [
            | else-is_none-via-then-is_none+else-has_step w' ↦
                inner_skip inner (λ st. absurd (false_fails _ (sym w'.if-has_step.ensures) st.there)) low
            | else-is_none-via-else-is_none w' ↦
                inner_skip inner (λ st. w'.if-is_none.ensures) low
          ])
    ]

pub loop-queue-preserved : goal.loop-queue-preserved
loop-queue-preserved g c =
    elim c.if-marked.branch [
      | then-marked+else-loop-t-test w ↦
          rw (w.found-is, w.queue-is)
          (inner_end w.loop-t.invariant (omega (arith, w.loop-t-test.false, c.count-n.ensures)) (λ a b st. st.to_state))
      | else-marked w ↦
          let some : c.loop-queue.head < length c.loop-queue.queue.items = search rules in
          let first : at c.loop-queue.queue.items c.loop-queue.head ≡ c.in-Some.s = search rules in
          rw (w.found-is, w.queue-is)
          (outer_skip c.loop-queue.invariant c.in-Some.s some first (false_fails _ (sym w.if-marked.ensures)))
    ]

pub returns-then-start-n : goal.returns-then-start-n
returns-then-start-n g c = none_found (omega (arith, c.if-start-n.true, c.count-n.ensures)) (none_visited state_bound)

pub returns-in-loop-queue : goal.returns-in-loop-queue
returns-in-loop-queue g c = going_end c.loop-queue.invariant.going (search rules) (omega (arith, c.if-start-n.false, c.count-n.ensures))

pub returns-after-loop-queue : goal.returns-after-loop-queue
returns-after-loop-queue g c =
    outer_full c.loop-queue.invariant (omega (arith, c.loop-queue-test.false, c.len.ensures, c.count-n.ensures)) (omega (arith, c.if-start-n.false, c.count-n.ensures)) (λ a b st. st.to_state)
