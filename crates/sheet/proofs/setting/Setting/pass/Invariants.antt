use Rattle.std.proofs.Common.{◌≡◌}
use Rattle.sheet.specs.Memory.{memory}
use Rattle.sheet.specs.Verdicts.{setting, passed}
use Rattle.sheet.proofs.setting.Setting.pass.Given as goal

abbrev pub invariant-loop-s : goal.invariant-loop-s
invariant-loop-s g l =
    let on = setting (g.O.Order.relation l.self.order.now) (g.M.Machine.meaning l.self.machine.now) in
    let records = g.S.StrikeRecords.records in
    (memory l.pairs (records l.strikes) l.done ≡ passed on (memory l.initial.pairs (records l.initial.strikes) l.made) l.s)
    × g.S.StrikeMemory.filled l.made l.done l.initial.strikes l.strikes
