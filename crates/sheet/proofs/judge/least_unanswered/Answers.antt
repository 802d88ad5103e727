use Rattle.std.specs.Prelude.{⊤}
use Rattle.std.specs.Option.{MatchOption}
use Rattle.std.proofs.Common.{◌≡◌, ◌≤◌, ◌<◌, ℕ, false, Some, None, ◌∙◌, rules, tests, arith}
use Rattle.std.proofs.lemmas.Option.{MatchOption-at_some, MatchOption-at_none}
use Rattle.std.proofs.lemmas.Iterator.{first_from_Range}
use Rattle.sheet.specs.Verdicts.{unanswered}
use Rattle.sheet.proofs.Judging.{still_answered}
use Rattle.sheet.proofs.Least.{below_none}
use Rattle.sheet.proofs.judge.least_unanswered.Given.{Over}
use Rattle.sheet.proofs.judge.least_unanswered.Goals as goal
use Rattle.sheet.proofs.judge.least_unanswered.Goals.{After-find}

-- standing still answers every step to a state before the one that is found, and every step at all where none is
still : (g : Over) (c : After-find g) → let p = unanswered (g.M.Machine.meaning c.args.machine.now) c.args.pairs.now c.args.s c.args.t in
    MatchOption c.find.result ((u : ℕ) → 0 ≤ u → u < c.count-n.result → p u ≡ false) (λ low. (0 ≤ low) × (low < c.count-n.result) × ⊤ × ((u : ℕ) → 0 ≤ u → u < low → p u ≡ false))
still g c =
    let m = g.M.Machine.meaning c.args.machine.now in
    let p = unanswered m c.args.pairs.now c.args.s c.args.t in
    first_from_Range _ _ _ _ (λ u. ⊤) (λ u. p u ≡ false) c.find.ensures.ran (λ u q k. tt)
    (λ u q k. (search (rules, tests), still_answered m (g.M.Machine.bounded c.args.machine.now) c.args.pairs.now c.args.s c.args.t c.requires _ u c.count-n.ensures (search rules)))

pub search_from-requires-clause-passed : goal.search_from-requires-clause-passed
search_from-requires-clause-passed g c =
    let low : c.find.result ≡ Some c.in_ok-low.low = search rules in
    λ u l. (MatchOption-at_some _ _ _ low (still g (goal.at.search_from-requires-clause-passed g c).After-find)).3 u (omega arith) l

pub returns-in_err-low : goal.returns-in_err-low
returns-in_err-low g c =
    let none : c.find.result ≡ None = search rules in
    let is : c.from_residual.result ≡ None = search rules in
    is ∙ below_none _ _ (λ u l. MatchOption-at_none _ _ none (still g (goal.at.returns-in_err-low g c).After-find) u (omega arith) (omega (arith, l, c.count-n.ensures)))
