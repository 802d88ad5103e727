use Rattle.std.proofs.Common.{◌≡◌, take, drop, Some}
use Rattle.text.specs.FormulaParts.{shown, lines_of}
use Rattle.text.proofs.reading_formula.write_lines.Given as goal

abbrev pub invariant-loop-k : goal.invariant-loop-k
invariant-loop-k g l = record {
  written : lines_of (g.O.Spelled.understood l.order) (shown (take l.k l.read)) ≡ Some (take l.k l.lines);
  rest : drop l.k l.lines ≡ drop l.k l.fn.lines;
}
