use Rattle.std.proofs.Common.{◌≡◌, refl, arith, rules}
use Rattle.std.specs.Prelude.{codes}
use Rattle.std.proofs.lemmas.Slice.Eq.{text_from_reads}
use Rattle.text.proofs.reading_formula.is_formula_word.Goals as goal

pub returns-in-true-4 : goal.returns-in-true-4
returns-in-true-4 c =
    let is : c.args.word.now ≡ codes "until" = text_from_reads _ _ (omega arith) (search rules) in
    rw is refl
