use Rattle.std.proofs.Common.{◌≡◌, ◌≤◌, max, drop}
use Rattle.text.specs.FormulaTexts.{deepest}
use Rattle.text.proofs.form.deepest.Given as goal

abbrev pub invariant-loop-byte : goal.invariant-loop-byte
invariant-loop-byte l = record {
  slow : l.depth ≤ l.byte-index;
  within : l.depth ≤ l.deepest;
  ahead : max l.deepest (deepest l.depth (drop l.byte-index l.line)) ≡ deepest 0 l.line;
}
