use Rattle.std.proofs.Common.{◌≡◌, string_bytes}
use Rattle.report.specs.Printed.{holds_lines}
use Rattle.report.proofs.holding.holds_lines.Given as goal

abbrev pub invariant-loop-state : goal.invariant-loop-state
invariant-loop-state l = string_bytes l.text ≡ holds_lines l.row l.state
