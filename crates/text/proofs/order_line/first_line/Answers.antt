use Rattle.std.proofs.Common.{◌≡◌, rules, Err, ◌∙◌, subst, Ok}
use Rattle.std.specs.Result.{MatchResult}
use Rattle.text.specs.Lines.{pieces}
use Rattle.text.specs.Readings.{first_line}
use Rattle.text.proofs.OrderSays.{line_first}
use Rattle.text.proofs.order_line.first_line.Goals as goal

pub returns-in_err-order_of-clause-says : goal.returns-in_err-order_of-clause-says
returns-in_err-order_of-clause-says c =
    let refused : Err c.in_err-order_of.field-0.0 ≡ c.from_residual-in_err-order_of.result = search rules in
    subst (λ r. MatchResult r (λ p. first_line (pieces 10 c.args.text.now) ≡ Ok p.0) (λ e. first_line (pieces 10 c.args.text.now) ≡ Err e)) refused
    (line_first c.args.text.now c.cut.result.0.now c.in_ok-rest.rest.now (search rules) ∙ search rules)

pub returns-clause-says : goal.returns-clause-says
returns-clause-says c = line_first c.args.text.now c.cut.result.0.now c.in_ok-rest.rest.now (search rules) ∙ search rules
