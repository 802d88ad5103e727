use Rattle.std.proofs.Common.{take}
use Rattle.crosscheck.specs.FormulaLines.{FormulaLines}
use Rattle.crosscheck.proofs.formulas.Formulas.new.Given as goal

abbrev pub invariant-loop-strike : goal.invariant-loop-strike
invariant-loop-strike g l = FormulaLines (g.M.Machine.meaning l.machine) (take l.strike-index l.strikes) l.formulas.lines.items l.formulas.told.items
