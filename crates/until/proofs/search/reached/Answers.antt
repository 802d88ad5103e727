use Rattle.std.proofs.Common.{false, replicate, arith, rules}
use Rattle.std.specs.Option.{is_some}
use Rattle.model.specs.Machines.{state_bound}
use Rattle.until.specs.Explored.{visit}
use Rattle.until.proofs.Reach.{made_by, none_marked, nothing_reached, found_reached}
use Rattle.until.proofs.search.reached.Goals as goal

pub returns : goal.returns
returns g c =
    let m = c.args.machine.now in
    found_reached (g.M.Machine.meaning m) c.args.row.now c.args.start c.from_fn.result c.explore-found.ensures (g.M.Machine.bounded m).few c.from_fn.ensures.items.long
    (λ u l. made_by _ (λ k. is_some (visit c.explore-found.result k)) _ c.from_fn.result (λ k y q h. search rules) 0 state_bound c.from_fn.ensures.items.each u false (omega arith) (omega arith))

pub returns-then-start-count : goal.returns-then-start-count
returns-then-start-count g c =
    nothing_reached (g.M.Machine.meaning c.args.machine.now) c.args.row.now c.args.start (replicate state_bound false) (omega (arith, c.if-start-count.true, c.count.ensures)) (none_marked state_bound)
