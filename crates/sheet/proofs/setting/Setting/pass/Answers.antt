use Rattle.std.proofs.Common.{arith}
use Rattle.sheet.proofs.Readiness.{ready_passed}
use Rattle.sheet.proofs.setting.Setting.pass.Goals as goal

pub sweep_row-done-requires-clause-ready : goal.sweep_row-done-requires-clause-ready
sweep_row-done-requires-clause-ready g c = rw c.loop-s.invariant.0 (ready_passed _ _ c.requires c.loop-s.s (omega arith))
