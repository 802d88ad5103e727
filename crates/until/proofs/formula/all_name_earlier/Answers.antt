use Rattle.std.proofs.Common.{◌∙◌, rules}
use Rattle.std.proofs.lemmas.Iterator.{YieldsList-from_slice}
use Rattle.std.proofs.lemmas.Iterator.Consumers.{YieldsList-from_enumerate}
use Rattle.std.proofs.lemmas.Iterator.Search.{all_from_yields_List}
use Rattle.until.specs.Lines.{names_earlier}
use Rattle.until.proofs.Lines.{each_earlier}
use Rattle.until.proofs.formula.all_name_earlier.Goals as goal

pub returns : goal.returns
returns g c =
    all_from_yields_List (λ p. names_earlier p.0 p.1) _ _ _ c.all.ensures.ran (YieldsList-from_enumerate (YieldsList-from_slice c.args.lines.now cc) (cc)) (λ x b q k. search rules)
    ∙ each_earlier 0 c.args.lines.now
