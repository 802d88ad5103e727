use Rattle.std.proofs.Common.{◌≡◌, arith, get_or, pos}
use Rattle.std.proofs.lemmas.Int.{to_z-of_z}
use Rattle.std.specs.Fmt.{signed_decimal}
use Rattle.text.proofs.LaidItems.{lays_item}
use Rattle.text.proofs.writing.Pen.put_items.Goals as goal

pub loop-number-preserved : goal.loop-number-preserved
loop-number-preserved c =
    let text : c.as_bytes.result.now ≡ signed_decimal (get_or c.args.numbers.now c.loop-number.number-index (pos 0)) = grind (arith, to_z-of_z) in record {
      laid = lays_item _ _ _ c.loop-number-test.true c.loop-number.invariant.laid c.put.ensures c.put-in-loop-number.ensures text;
      short = omega arith;
    }
