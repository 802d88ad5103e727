use Rattle.std.proofs.Common.{refl, subst, rules, arith}
use Rattle.std.proofs.lemmas.Grind.{common_steps}
use Rattle.std.proofs.lemmas.Option.{slice_get-get_or}
use Rattle.model.proofs.Checks.{answered_at}
use Rattle.sheet.specs.Verdicts.{setting}
use Rattle.sheet.specs.Pages.{page}
use Rattle.sheet.proofs.Beginning.{begun_bare}
use Rattle.sheet.proofs.Running.{in_turn_none, in_turn_next, run_answers, ran_law}
use Rattle.sheet.proofs.run.run_requests.Goals as goal

pub loop-k-init : goal.loop-k-init
loop-k-init g c =
    let on = setting (g.O.Order.relation c.args.on.now.order.now) (g.M.Machine.meaning c.args.on.now.machine.now) in
    let begun = page c.in_ok-sheet.sheet c.begin.new.pairs (g.S.StrikeRecords.records c.args.strikes.now) in
    let bare = begun_bare _ _ _ _ c.begin.result c.in_ok-sheet.sheet c.in_ok-sheet.was c.begin.ensures.answer in (
      (λ _. begun, in_turn_none on c.args.requests.now begun),
      refl,
      subst (λ k. g.S.StrikeMemory.filled 0 k c.args.strikes.now c.args.strikes.now) bare (g.S.StrikeMemory.lasting.at_once 0 c.args.strikes.now),
    )

pub loop-k-preserved : goal.loop-k-preserved
loop-k-preserved g c =
    let on = setting (g.O.Order.relation c.args.on.now.order.now) (g.M.Machine.meaning c.args.on.now.machine.now) in
    let p = page c.loop-k.sheet c.loop-k.pairs (g.S.StrikeRecords.records c.loop-k.strikes) in
    let after = page c.make.new.self c.make.new.pairs (g.S.StrikeRecords.records c.make.new.strikes) in (
      in_turn_next on c.args.requests.now c.loop-k.replies c.loop-k.k _ p after c.loop-k.invariant.0 _ _ c.make.result (omega arith) (slice_get-get_or c.args.requests.now c.loop-k.k _ c.loop-k-test.true)
          (search rules) c.make.ensures.answer,
      grind (arith, common_steps),
      g.S.StrikeMemory.lasting.then 0 c.loop-k.sheet.strikes c.make.new.self.strikes c.args.strikes.now c.loop-k.strikes c.make.new.strikes c.loop-k.invariant.2 c.make.ensures.filled,
    )

pub returns-clause-answer : goal.returns-clause-answer
returns-clause-answer g c =
    run_answers (setting (g.O.Order.relation c.args.on.now.order.now) (g.M.Machine.meaning c.args.on.now.machine.now)) (g.M.Machine.bounded c.args.on.now.machine.now) (g.O.Order.lawful c.args.on.now.order.now) c.args.pairs.now c.begin.new.pairs
    (g.S.StrikeRecords.records c.args.strikes.now) c.begin.result c.in_ok-sheet.sheet c.in_ok-sheet.was c.begin.ensures.answer c.begin.ensures.came c.args.requests.now c.args.replies.now c.loop-k.replies c.loop-k.k
    (omega arith) (omega arith) (omega arith) c.loop-k.invariant.1 c.loop-k.sheet c.loop-k.pairs (g.S.StrikeRecords.records c.loop-k.strikes) c.loop-k.invariant.0

pub returns-clause-law : goal.returns-clause-law
returns-clause-law g c =
    ran_law (setting (g.O.Order.relation c.args.on.now.order.now) (g.M.Machine.meaning c.args.on.now.machine.now)) (g.M.Machine.bounded c.args.on.now.machine.now) (g.O.Order.lawful c.args.on.now.order.now) c.args.requests.now c.args.replies.now c.loop-k.replies
    _ _ (omega arith) (answered_at _ c.loop-k.sheet (returns-clause-answer g c)).0
