use Rattle.std.proofs.Common.{◌≡◌, pos, to_z, w64, arith}
use Rattle.std.proofs.lemmas.Int.{ints}
use Rattle.text.proofs.LaidItems.{lays_line}
use Rattle.text.proofs.writing.Pen.put_line.Goals as goal

pub returns : goal.returns
returns c =
    let fits : to_z w64 c.args.first ≡ pos c.args.first = omega (arith, ints) in
    lays_line c.args.word (pos c.args.first) c.args.others.now c.put.ensures (rw c.letters.ensures at c.put-2.ensures) (rw fits at c.put_items.ensures.laid) c.put_items-2.ensures.laid c.put-3.ensures
