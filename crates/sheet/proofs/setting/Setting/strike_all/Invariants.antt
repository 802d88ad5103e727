use Rattle.std.proofs.Common.{◌≡◌, ◌+◌, ◌-◌, ◌*◌, ◌≤◌}
use Rattle.model.specs.Machines.{states}
use Rattle.sheet.specs.Memory.{memory, Ready}
use Rattle.sheet.specs.Verdicts.{setting, settled_in}
use Rattle.sheet.proofs.Passing.{later}
use Rattle.sheet.proofs.setting.Setting.strike_all.Given as goal

abbrev pub invariant-loop-done : goal.invariant-loop-done
invariant-loop-done g l =
    let m = g.M.Machine.meaning l.self.machine.now in
    let on = setting (g.O.Order.relation l.self.order.now) m in
    let records = g.S.StrikeRecords.records in
    let most = states m * states m + 1 in
    Ready (states m) (memory l.pairs (records l.strikes) l.done)
    × (l.passes + l.made ≤ l.done)
    × (later on l.passes (settled_in on (most - l.passes) (memory l.pairs (records l.strikes) l.done)) ≡ settled_in on most (memory l.initial.pairs (records l.initial.strikes) l.made))
    × g.S.StrikeMemory.filled l.made l.done l.initial.strikes l.strikes

abbrev pub decreases-loop-done : goal.decreases-loop-done
decreases-loop-done g l = let n = states (g.M.Machine.meaning l.self.machine.now) in n * n - l.done
