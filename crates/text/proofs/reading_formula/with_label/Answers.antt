use Rattle.std.proofs.Common.{option_map, ap, sym, ◌∙◌}
use Rattle.until.specs.declared.formula.Line.TheVariants.{At}
use Rattle.text.specs.FormulaParts.{line_with, line_of}
use Rattle.text.proofs.FormulaLabels.{none_of_more}
use Rattle.text.proofs.reading_formula.with_label.Goals as goal

pub returns-in_err-numbers-in-At : goal.returns-in_err-numbers-in-At
returns-in_err-numbers-in-At g c =
    let understood = g.O.Spelled.understood c.args.order.now in
    let many = none_of_more understood (g.met.O.Spelled.spelling c.args.order.now) _ (sym c.numbers.ensures ∙ ap (option_map (λ v. v.items)) c.in_err-numbers-in-At.was) in
    c.from_residual.ensures ∙ sym (ap (λ l. line_of understood (line_with (λ b. b.now) l)) c.in-At.is ∙ ap (option_map At) many)
