use Rattle.std.proofs.Common.{◌≡◌, true, false, rules, tests, arith}
use Rattle.std.proofs.lemmas.Iterator.{first_from_Range}
use Rattle.sheet.specs.Verdicts.{unanswered}
use Rattle.sheet.proofs.Judging.{found_from, below_found}
use Rattle.sheet.proofs.judge.search_from.Goals as goal

pub returns : goal.returns
returns g c =
    let few = (g.M.Machine.bounded c.args.machine.now).few in
    let reached = rw c.row.ensures at c.reached-ends.ensures in
    let p = unanswered (g.M.Machine.meaning c.args.machine.now) c.args.rows.bytes.now c.args.s c.args.t in
    below_found p c.find.result c.map.result c.requires.width
    (found_from p c.find.result _ c.requires.passed
    (first_from_Range _ _ _ _ (λ u. p u ≡ true) (λ u. p u ≡ false) c.find.ensures.ran (λ u q k. search (rules, tests, reached)) (λ u q k. (search (rules, tests), search (rules, tests, reached)))))
    c.map.ensures.cases (λ v w low h. omega arith)
