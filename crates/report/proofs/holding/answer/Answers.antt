use Rattle.std.proofs.Common.{◌≡◌, ◌∙◌, rules, arith, subst}
use Rattle.std.proofs.lemmas.Grind.{common_steps}
use Rattle.std.proofs.lemmas.List.{with_items_is}
use Rattle.until.specs.Lines.{Evaluates}
use Rattle.report.proofs.SaysWhere.{says_where}
use Rattle.report.proofs.holding.answer.Goals as goal

pub returns : goal.returns
returns g c =
    let at_most = g.O.Order.relation c.args.order.now in
    let m = g.M.Machine.meaning c.args.machine.now in
    let before = c.deref_mut.result.now in
    let after = c.evaluate.new.rows in
    let good = subst (λ r. Evaluates at_most m c.args.lines.now before r after) c.unwrap.ensures c.evaluate.ensures in
    let kept : c.deref.result.now ≡ after = c.deref.ensures.value ∙ with_items_is c.in_ok-bytes.bytes after (grind (arith, common_steps)) in
    let all = says_where at_most m c.args.lines.now before after c.requires.some (grind (arith, common_steps)) good in
    search (rules, all, kept)
