use Rattle.text.proofs.Items.{Taken, left}
use Rattle.text.proofs.number.numbers.Given as goal

abbrev pub invariant-loop-items : goal.invariant-loop-items
invariant-loop-items l = Taken l.fn.items l.items l.numbers.items

abbrev pub decreases-loop-items : goal.decreases-loop-items
decreases-loop-items l = left l.items
