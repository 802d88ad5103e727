use Rattle.std.proofs.Common.{◌∷◌, ap, ◌∙◌, arith}
use Rattle.std.proofs.lemmas.Bool.Decides.{nat_tests}
use Rattle.text.specs.Lines.{pieces_of}
use Rattle.text.proofs.FormulaPieces.{label_front, no_label}
use Rattle.text.proofs.FormulaReads.{if_none}
use Rattle.text.proofs.formula.label.Goals as goal

pub returns-in_err-rest-clause-none : goal.returns-in_err-rest-clause-none
returns-in_err-rest-clause-none c =
    if_none _ (no_label _ _ (c.cut.ensures.pieces ∙ ap (λ r. c.cut.result.0.now ∷ pieces_of 41 r) c.in_err-rest.was))

pub returns-clause-read : goal.returns-clause-read
returns-clause-read c =
    label_front _ _ _ (c.cut.ensures.pieces ∙ ap (λ r. c.cut.result.0.now ∷ pieces_of 41 r) c.in_ok-rest.was) (grind (arith, nat_tests, c.if-is_empty.ensures))
