use Rattle.std.proofs.Common.{take, sym, subst, arith}
use Rattle.std.proofs.lemmas.List.{take_more}
use Rattle.crosscheck.specs.FormulaLines.{FormulaLines}
use Rattle.crosscheck.proofs.formulas.Formulas.new.Goals as goal

pub loop-strike-preserved : goal.loop-strike-preserved
loop-strike-preserved g c =
    subst (λ ks. FormulaLines (g.M.Machine.meaning c.args.machine.now) ks c.tell.new.self.lines.items c.tell.new.self.told.items)
    (sym (take_more c.args.strikes.now c.loop-strike.strike-index _ (omega arith)))
    (c.in_ok-tell.ensures (take c.loop-strike.strike-index c.args.strikes.now) c.loop-strike.invariant)
