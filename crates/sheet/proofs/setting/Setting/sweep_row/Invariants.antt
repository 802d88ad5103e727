use Rattle.std.proofs.Common.{◌≡◌}
use Rattle.sheet.specs.Memory.{memory}
use Rattle.sheet.specs.Verdicts.{setting, swept}
use Rattle.sheet.proofs.setting.Setting.sweep_row.Given as goal

abbrev pub invariant-loop-t : goal.invariant-loop-t
invariant-loop-t g l =
    let on = setting (g.O.Order.relation l.self.order.now) (g.M.Machine.meaning l.self.machine.now) in
    let records = g.S.StrikeRecords.records in
    (memory l.pairs (records l.strikes) l.done ≡ swept on (memory l.initial.pairs (records l.initial.strikes) l.made) l.s l.t)
    × g.S.StrikeMemory.filled l.made l.done l.initial.strikes l.strikes
