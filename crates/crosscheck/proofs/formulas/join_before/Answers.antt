use Rattle.std.proofs.Common.{subst}
use Rattle.std.proofs.lemmas.Result.{IfOk-weaker}
use Rattle.crosscheck.specs.FormulaLines.{Joined}
use Rattle.crosscheck.proofs.Joining.{joined_next}
use Rattle.crosscheck.proofs.formulas.join_before.Goals as goal

pub returns-in-Some : goal.returns-in-Some
returns-in-Some g c F Fs f j =
    let before = c.args.lines.now.items in
    IfOk-weaker c.add.result _ _
    (λ k. joined_next before c.add.new.lines.items c.args.line c.in-Some.rest k F Fs f (subst (λ r. Joined before r Fs) c.in-Some.is j))
    c.add.ensures
