use Rattle.std.specs.Prelude.{◌≡◌, ◌+◌, ◌<◌, ◌^◌, length}
use Rattle.text.specs.InOrder.{Within}
use Rattle.text.specs.Filling.{held, Keeps}
use Rattle.text.specs.Leading.{left, rows_left}
use Rattle.text.proofs.Storing.{StoredOf}
use Rattle.text.proofs.reading.fill.Given as goal

abbrev pub invariant-loop-at : goal.invariant-loop-at
invariant-loop-at g l =
    let said = rows_left (g.O.Spelled.understood l.order) l.shape in
    StoredOf l.side (held l.initial.memory) (held l.memory) (said (left l.initial.reader.text.now l.initial.reader.line l.initial.reader.due)) (said (left l.reader.text.now l.reader.line l.reader.due))
    × Within l.reader.due × (l.reader.line + length l.reader.text.now < 2 ^ 63) × Keeps l.initial.memory (held l.memory) l.memory × (length l.memory.labels.now ≡ length l.initial.memory.labels.now) × (length l.memory.steps.now ≡ length l.initial.memory.steps.now)

abbrev pub decreases-loop-at : goal.decreases-loop-at
decreases-loop-at g l = length l.reader.text.now
