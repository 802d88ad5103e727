use Rattle.std.proofs.Common.{◌≤◌, ◌+◌, ◌*◌, take}
use Rattle.text.specs.Numbers.{items}
use Rattle.text.specs.Laying.{Lays}
use Rattle.text.proofs.writing.Pen.put_items.Given as goal

abbrev pub invariant-loop-number : goal.invariant-loop-number
invariant-loop-number l = record {
  laid : Lays l.fn.self (items (take l.number-index l.numbers)) l.self;
  short : l.self.length ≤ l.fn.self.length + 21 * l.number-index;
}
