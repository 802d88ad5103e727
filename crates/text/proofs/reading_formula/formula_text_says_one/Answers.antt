use Rattle.text.proofs.FormulaAnswers.{says_one}
use Rattle.text.proofs.reading_formula.formula_text_says_one.Goals as goal

pub returns : goal.returns
returns g c = says_one (g.O.Spelled.understood c.args.order.now) (g.met.O.Spelled.spelling c.args.order.now)
