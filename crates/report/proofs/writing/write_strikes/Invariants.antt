use Rattle.std.proofs.Common.{◌≡◌, ◌++◌, string_bytes, take}
use Rattle.std.specs.List.{flat_map}
use Rattle.report.specs.Printed.{strike_line}
use Rattle.report.proofs.writing.write_strikes.Given as goal

abbrev pub invariant-loop-strike : goal.invariant-loop-strike
invariant-loop-strike g l = string_bytes l.text ≡ string_bytes l.initial.text ++ flat_map strike_line (take l.strike-index l.strike-items)
