use Rattle.std.proofs.Common.{[], arith}
use Rattle.std.proofs.lemmas.Bool.Decides.{nat_tests}
use Rattle.text.specs.FormulaParts.{shown, Reads}
use Rattle.text.proofs.FormulaItems.{no_items, items_and_more, items_read}
use Rattle.text.proofs.reading_formula.read_items.Goals as goal
use Rattle.text.proofs.reading_formula.read_items.Goals.{then-is_empty, else-is_empty}

pub returns-in_err-rest : goal.returns-in_err-rest
returns-in_err-rest g c =
    no_items _ (g.met.O.Spelled.spelling c.args.order.now) _ _ c.requires.shallow c.in_err-rest.ensures.none c.from_residual.ensures

pub returns : goal.returns
returns g c =
    let understood = g.O.Spelled.understood c.args.order.now in
    let spelling = g.met.O.Spelled.spelling c.args.order.now in
    let reads : Reads c.args.line.now c.in_ok-rest.rest.now [] (shown c.formula.new.lines.items) = rw c.new-lines.ensures at c.in_ok-rest.ensures.read in
    rw c.then_some.ensures
    (elim c.if-is_empty.branch [
      | then-is_empty w ↦
          let has_labels = rw w.deref.ensures.0 at w.has_labels.ensures in
          rw w.then_some-is (items_read understood spelling _ _ _ _ reads (grind (arith, nat_tests, w.if-is_empty.ensures)) has_labels)
      | else-is_empty w ↦ rw (w.then_some-is, w.if-is_empty.false)
          (items_and_more understood spelling _ _ _ c.formula.new.lines reads (grind (arith, nat_tests, w.if-is_empty.ensures)))
    ])
