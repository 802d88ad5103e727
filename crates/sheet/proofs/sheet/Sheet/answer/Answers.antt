use Rattle.std.proofs.Common.{[], ◌∷◌, refl, arith}
use Rattle.std.proofs.lemmas.Bool.{le-ltb}
use Rattle.std.proofs.lemmas.Grind.{common_steps}
use Rattle.model.specs.Machines.{states}
use Rattle.model.proofs.Checks.{stopped}
use Rattle.sheet.specs.Verdicts.{setting}
use Rattle.sheet.specs.Pages.{page}
use Rattle.sheet.specs.Causes.{settled_tests, step_tests}
use Rattle.sheet.proofs.Answering.{past_walk}
use Rattle.sheet.proofs.Keeping.{answer_kept}
use Rattle.sheet.proofs.sheet.Sheet.answer.Goals as goal

pub returns-in_err-check_settled-clause-answer : goal.returns-in_err-check_settled-clause-answer
returns-in_err-check_settled-clause-answer g c =
    let m = g.M.Machine.meaning c.args.machine.now in
    let numbers = c.args.s ∷ c.args.t ∷ c.args.u ∷ [] in
    past_walk m c.args.self.now c.args.pairs.now c.args.s c.args.t c.args.u c.args.walk.now _ _ (le-ltb _ _ c.if-walk-self.false)
    (stopped (settled_tests (states m) c.args.self.now c.args.pairs.now numbers) (step_tests m c.args.pairs.now c.args.s c.args.t c.args.u) _ _ _ c.check_settled.ensures
    c.in_err-check_settled.was c.from_residual.ensures.1 refl)

pub returns-clause-promise : goal.returns-clause-promise
returns-clause-promise g c =
    λ records room at_most laws came. answer_kept (setting at_most (g.M.Machine.meaning c.args.machine.now)) (g.M.Machine.bounded c.args.machine.now)
    (page c.args.self.now c.args.pairs.now records) came laws c.args.s c.args.t c.args.u c.args.walk.now c.write_walk.result c.write_walk.new.walk room (grind (arith, common_steps))
