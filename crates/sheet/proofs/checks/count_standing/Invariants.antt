use Rattle.std.proofs.Common.{◌≡◌, ◌≤◌}
use Rattle.sheet.specs.Memory.{standing}
use Rattle.sheet.proofs.checks.count_standing.Given as goal

abbrev pub invariant-loop-byte : goal.invariant-loop-byte
invariant-loop-byte l = (l.sum ≡ standing l.byte-index l.pairs) × (l.sum ≤ l.byte-index)
