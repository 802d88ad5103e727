use Rattle.std.proofs.Common.{ℕ, ◌<◌, get_or}
use Rattle.until.specs.Lines.{Says}
use Rattle.until.specs.Filled.{HoldsBy}
use Rattle.until.proofs.evaluation.fill_row.Given as goal

abbrev pub invariant-loop-s : goal.invariant-loop-s
invariant-loop-s g l =
    (v : ℕ) → v < l.s → Says (get_or l.byte-items v 0) (HoldsBy (g.O.Order.relation l.order) (g.M.Machine.meaning l.machine) l.rows.bytes.now l.line v)
