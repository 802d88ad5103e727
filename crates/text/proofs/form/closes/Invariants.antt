use Rattle.std.proofs.Common.{◌≡◌, ◌+◌, ◌≤◌, drop}
use Rattle.text.specs.Lines.{closes}
use Rattle.text.specs.declared.form.Sort.TheVariants.{Letter}
use Rattle.text.proofs.form.closes.Given as goal

abbrev pub invariant-loop-byte : goal.invariant-loop-byte
invariant-loop-byte l = record {
  same : closes l.before l.depth (drop l.byte-index l.rest) ≡ closes Letter 1 l.rest;
  few : l.depth ≤ l.byte-index + 1;
}
