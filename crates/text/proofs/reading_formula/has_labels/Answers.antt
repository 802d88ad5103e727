use Rattle.std.proofs.Common.{is_some, ◌∙◌, rules, tests}
use Rattle.std.proofs.lemmas.Iterator.{YieldsList-from_slice}
use Rattle.std.proofs.lemmas.Iterator.Search.{all_from_yields_List}
use Rattle.text.specs.FormulaParts.{line_with, line_of}
use Rattle.text.proofs.FormulaMeanings.{each_there}
use Rattle.text.proofs.reading_formula.has_labels.Goals as goal

pub returns : goal.returns
returns g c =
    all_from_yields_List (λ l. is_some (line_of (g.O.Spelled.understood c.args.order.now) (line_with (λ b. b.now) l))) _ _ _ c.all.ensures.ran (YieldsList-from_slice c.args.lines.now cc) (λ x b q k. search (rules, tests))
    ∙ each_there (g.O.Spelled.understood c.args.order.now) c.args.lines.now
