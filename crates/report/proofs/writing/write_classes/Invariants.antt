use Rattle.std.proofs.Common.{◌≡◌, ◌++◌, string_bytes}
use Rattle.sheet.specs.Verdicts.{setting}
use Rattle.report.specs.Reports.{class_lines}
use Rattle.report.proofs.writing.write_classes.Given as goal

abbrev pub invariant-loop-state : goal.invariant-loop-state
invariant-loop-state g l =
    string_bytes l.text ≡ string_bytes l.initial.text ++ class_lines (setting (g.O.Order.relation l.on.order.now) (g.M.Machine.meaning l.on.machine.now)) l.state
