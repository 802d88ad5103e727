use Rattle.std.proofs.Common.{◌≡◌, ◌∷◌, ◌∙◌, sym, rules, false}
use Rattle.text.specs.Lines.{pieces}
use Rattle.text.specs.Questions.{is_formula_line}
use Rattle.text.proofs.LinesBefore.{before_found, before_after}
use Rattle.text.proofs.question.before_formula.Goals as goal

pub returns-then-is_formula_line-clause-is : goal.returns-then-is_formula_line-clause-is
returns-then-is_formula_line-clause-is c =
    let left = c.loop-line.left.now in
    let line = c.cut.result.0.now in
    let rest = c.in_default-Some.rest.now in
    let cut : pieces 10 left ≡ line ∷ pieces 10 rest = search rules in
    sym (c.loop-line.invariant.0 ∙ before_found c.args.text.now left line rest c.loop-line.lines cut (search rules))

pub loop-line-preserved : goal.loop-line-preserved
loop-line-preserved c =
    let left = c.loop-line.left.now in
    let line = c.cut.result.0.now in
    let rest = c.in_default-Some.rest.now in
    let cut : pieces 10 left ≡ line ∷ pieces 10 rest = search rules in
    let other : is_formula_line line ≡ false = search rules in
    let e = c.loop-line.invariant.0 ∙ before_after c.args.text.now left line rest c.loop-line.lines cut other (search rules) in
    search (rules, e)
