use Rattle.std.specs.Prelude.{◌+◌, ◌<◌, ◌^◌, length}
use Rattle.text.specs.InOrder.{Within}
use Rattle.text.specs.Leading.{left, rows_left}
use Rattle.text.proofs.Headers.{SeenOf}
use Rattle.text.proofs.reading.headers.Given as goal

abbrev pub invariant-loop-side : goal.invariant-loop-side
invariant-loop-side g l =
    let said = rows_left (g.O.Spelled.understood l.order) l.shape in
    SeenOf l.left l.right (said (left l.initial.reader.text.now l.initial.reader.line l.initial.reader.due)) (said (left l.reader.text.now l.reader.line l.reader.due))
    × Within l.reader.due × (l.reader.line + length l.reader.text.now < 2 ^ 63)

abbrev pub decreases-loop-side : goal.decreases-loop-side
decreases-loop-side g l = length l.reader.text.now
