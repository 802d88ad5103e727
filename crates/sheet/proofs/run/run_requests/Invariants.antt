use Rattle.std.proofs.Common.{◌≡◌, ℕ, take, drop}
use Rattle.sheet.specs.Verdicts.{setting}
use Rattle.sheet.specs.Pages.{Page, page}
use Rattle.sheet.specs.Runs.{InTurn}
use Rattle.sheet.proofs.run.run_requests.Given as goal

abbrev pub invariant-loop-k : goal.invariant-loop-k
invariant-loop-k g l =
    let on = setting (g.O.Order.relation l.on.order.now) (g.M.Machine.meaning l.on.machine.now) in
    let records = g.S.StrikeRecords.records in
    ((pages : ℕ → Page) × InTurn on pages l.requests (take l.k l.replies) (page l.initial.sheet l.initial.pairs (records l.initial.strikes)) (page l.sheet l.pairs (records l.strikes)))
    × (drop l.k l.replies ≡ drop l.k l.initial.replies)
    × g.S.StrikeMemory.filled 0 l.sheet.strikes l.initial.strikes l.strikes
