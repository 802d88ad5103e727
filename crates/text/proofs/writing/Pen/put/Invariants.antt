use Rattle.std.proofs.Common.{take}
use Rattle.text.specs.Laying.{Lays}
use Rattle.text.proofs.writing.Pen.put.Given as goal

abbrev pub invariant-loop-byte : goal.invariant-loop-byte
invariant-loop-byte l = Lays l.fn.self (take l.byte-index l.bytes) l.self
