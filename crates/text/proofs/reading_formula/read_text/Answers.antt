use Rattle.std.proofs.Common.{◌∷◌, Err, ap, ◌∙◌, arith}
use Rattle.std.proofs.lemmas.Bool.Decides.{nat_tests}
use Rattle.text.specs.Lines.{pieces_of}
use Rattle.text.proofs.FormulaReading.{no_newline, text_refused, text_goes_on, text_read}
use Rattle.text.proofs.reading_formula.read_text.Goals as goal

pub returns-in_default : goal.returns-in_default
returns-in_default g c =
    no_newline (g.O.Spelled.understood c.args.order.now) c.args.text.now c.cut.result.0.now _ (c.cut.ensures.pieces ∙ ap (λ rest. c.cut.result.0.now ∷ pieces_of 10 rest) c.in_default.is)
    (grind (arith, nat_tests, c.if-is_empty.ensures)) (ap Err c.at-in_default.ensures)

pub returns-in-Err : goal.returns-in-Err
returns-in-Err g c =
    text_refused (g.O.Spelled.understood c.args.order.now) c.args.text.now c.cut.result.0.now c.in-Some.after.now c.in-Err.fault _ (c.cut.ensures.pieces ∙ ap (λ rest. c.cut.result.0.now ∷ pieces_of 10 rest) c.in-Some.is)
    c.in-Err.ensures (ap Err c.at-in-Err.ensures)

pub returns-in-Ok : goal.returns-in-Ok
returns-in-Ok g c =
    text_goes_on (g.O.Spelled.understood c.args.order.now) c.args.text.now c.cut.result.0.now c.in-Some.after.now c.in-Ok.field-0 _ (c.cut.ensures.pieces ∙ ap (λ rest. c.cut.result.0.now ∷ pieces_of 10 rest) c.in-Some.is)
    (grind (arith, nat_tests, c.if-not-is_empty.ensures)) c.in-Ok.ensures (ap Err c.at-in-Ok.ensures)

pub returns-in-Ok-2 : goal.returns-in-Ok-2
returns-in-Ok-2 g c =
    text_read (g.O.Spelled.understood c.args.order.now) c.args.text.now c.cut.result.0.now c.in-Some.after.now c.in-Ok.field-0 (c.cut.ensures.pieces ∙ ap (λ rest. c.cut.result.0.now ∷ pieces_of 10 rest) c.in-Some.is)
    (grind (arith, nat_tests, c.if-not-is_empty.ensures)) c.in-Ok.ensures
