use Rattle.std.proofs.Common.{sym, ap, ◌∙◌, subst}
use Rattle.model.specs.Machines.{states}
use Rattle.until.specs.Rows.{row_of}
use Rattle.until.specs.Searches.{is_marked}
use Rattle.until.proofs.RowBytes.{row_is_marked}
use Rattle.sheet.specs.Calls.{WritesWalk}
use Rattle.sheet.proofs.Answering.{search_answers}
use Rattle.sheet.proofs.walking.write_walk.Goals as goal

pub returns : goal.returns
returns g c =
    let m = g.M.Machine.meaning c.args.machine.now in
    let pairs = c.args.pairs.now in
    let s = c.args.s in
    let t = c.args.t in
    let u = c.args.u in
    let walk = c.args.walk.now in
    let after = c.shortest_walk.new.walk in
    let counted = c.count.ensures in
    let stood = sym (c.if-not-is_marked.ensures ∙ ap (λ k. is_marked (row_of k pairs s) t) counted ∙ row_is_marked (states m) pairs s t c.requires.state) in
    subst (λ r. WritesWalk m pairs s t u walk r after) (sym c.ok_or.ensures.value)
    (search_answers m (g.M.Machine.bounded c.args.machine.now) pairs s t u c.requires.state walk after stood (sym c.if-not-has_step.ensures)
    c.row.result.now c.row-2.result.now c.shortest_walk.result c.in_ok-shortest_walk.field-0
    (c.row.ensures ∙ ap (λ k. row_of k pairs s) counted) (c.row-2.ensures ∙ ap (λ k. row_of k pairs u) counted) c.shortest_walk.ensures c.requires.places c.in_ok-shortest_walk.was)
