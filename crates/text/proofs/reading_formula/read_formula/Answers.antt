use Rattle.std.proofs.Common.{Err, refl, ap, ◌∙◌}
use Rattle.std.proofs.lemmas.Result.{err_from_is_err_and}
use Rattle.text.proofs.FormulaAnswers.{too_long, short_memory, text_refused, filled, filled_read, filled_denotes, filled_earlier}
use Rattle.text.proofs.reading_formula.read_formula.Goals as goal

pub returns-then-text-gt-TEXT_BOUND-clause-read : goal.returns-then-text-gt-TEXT_BOUND-clause-read
returns-then-text-gt-TEXT_BOUND-clause-read g c =
    too_long (g.O.Spelled.understood c.args.order.now) c.args.text.now c.args.lines.now _ c.if-text-gt-TEXT_BOUND.true (ap Err c.at.ensures)

pub returns-then-lines-lt-FORMULA_PLACES-clause-read : goal.returns-then-lines-lt-FORMULA_PLACES-clause-read
returns-then-lines-lt-FORMULA_PLACES-clause-read g c =
    short_memory (g.O.Spelled.understood c.args.order.now) c.args.text.now c.args.lines.now _ c.if-text-gt-TEXT_BOUND.false c.if-lines-lt-FORMULA_PLACES.true refl

pub returns-in_err-read-clause-read : goal.returns-in_err-read-clause-read
returns-in_err-read-clause-read g c =
    let p = err_from_is_err_and c.from_residual.result c.from_residual.ensures.1 in
    text_refused (g.O.Spelled.understood c.args.order.now) c.args.text.now c.args.lines.now c.in_err-read.field-0.0 _ c.if-text-gt-TEXT_BOUND.false c.if-lines-lt-FORMULA_PLACES.false c.in_err-read.ensures (p.1 ∙ ap Err p.2)

pub returns : goal.returns
returns g c =
    let understood = g.O.Spelled.understood c.args.order.now in
    let text = c.args.text.now in
    let memory = c.args.lines.now in
    let after = c.write_lines.new.lines in
    let h =
    filled understood text memory c.in_ok-read.read c.len.result after c.if-text-gt-TEXT_BOUND.false c.if-lines-lt-FORMULA_PLACES.false c.in_ok-read.ensures
    c.len.ensures.value (rw c.deref.ensures.0 at c.write_lines.ensures) in
    record {
      read = filled_read understood text memory c.len.result after h;
      denotes = filled_denotes understood text memory c.len.result after h;
      earlier = filled_earlier understood text memory c.len.result after h;
    }
