use Rattle.std.proofs.Common.{rules}
use Rattle.text.specs.Readings.{side_memory}
use Rattle.text.proofs.ReadTexts.{reads_alone, good_is}
use Rattle.text.proofs.reading.read_machine.Goals as goal

pub returns : goal.returns
returns g c =
    let at = c.new-reader.ensures in
    let good = good_is _ c.headers.result c.map_err.result _ c.map_err.ensures.variant c.map_err.ensures.cases (c.in_ok-right.was) in
    reads_alone (g.O.Spelled.spelled c.args.order.now) (g.O.Spelled.understood c.args.order.now) (g.met.O.Spelled.spelling c.args.order.now) c.args.text.now (side_memory c.args.labels.now c.args.steps.now) _ c.headers.result _ _ (rw (at.bytes, at.line, at.due) at c.headers.ensures) good (search rules)
    (search rules) c.unwrap_or.result c.unwrap_or.ensures
