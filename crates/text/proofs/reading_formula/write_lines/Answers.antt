use Rattle.std.proofs.Common.{arith}
use Rattle.text.proofs.FormulaFilling.{there_at, one_written, rest_kept}
use Rattle.text.proofs.reading_formula.write_lines.Goals as goal

pub unwrap-requires : goal.unwrap-requires
unwrap-requires g c =
    rw c.with_label.ensures (there_at (g.O.Spelled.understood c.args.order.now) c.args.read.now c.loop-k.k _ c.requires.there c.loop-k-test.true)

pub loop-k-preserved : goal.loop-k-preserved
loop-k-preserved g c =
    let understood = g.O.Spelled.understood c.args.order.now in
    let read = rw c.with_label.ensures at c.unwrap.ensures in
    record {
      written = one_written understood c.args.read.now _ c.loop-k.k c.loop-k.lines c.unwrap.result c.loop-k-test.true (omega (arith, c.loop-k.auto.lines, c.requires.room)) read c.loop-k.invariant.written;
      rest = rest_kept understood c.args.lines.now c.loop-k.lines c.loop-k.k c.unwrap.result c.loop-k.invariant.rest;
    }
