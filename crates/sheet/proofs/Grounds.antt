-- The ground that is computed is one, and where none is computed there is none. Assumes nothing.
use Rattle.std.proofs.Common.{◌≡◌, ℕ, zero, suc, ◌<◌, ◌≤◌, Bool, true, false, cond, T, ltb, Decides, List, Some, None, Option, refl, arith}
use Rattle.std.specs.Option.{MatchOption}
use Rattle.std.proofs.lemmas.Bool.{ltb-true, ltb-false, cond_both, both_ways}
use Rattle.std.proofs.lemmas.Bool.Decides.{Decides-and, Decides-not}
use Rattle.std.proofs.lemmas.Option.{MatchOption-at_some, MatchOption-at_none}
use Rattle.model.specs.Machines.{Bounded, label_of}
use Rattle.model.proofs.Tests.{holds_true, true_holds, false_fails}
use Rattle.until.proofs.Decided.{walks_decides}
use Rattle.strikes.specs.declared.strike.Ground.{Ground}
use Rattle.strikes.specs.declared.strike.Ground.TheVariants.{ByLabel, ByStep}
use Rattle.strikes.specs.Simulations.{under}
use Rattle.strikes.specs.Strikes.{Grounded}
use Rattle.sheet.specs.Memory.{stands}
use Rattle.sheet.specs.Verdicts.{Setting, size, least, below, by_step, answered, unanswered, least_unanswered, ground_of}

-- v is the first number that passes, or n where none below n does
pub record First (p : ℕ → Bool) (n v : ℕ) : Type 0 where
  pub most : v ≤ n
  pub has : v < n → p v ≡ true
  pub before : (w : ℕ) → w < v → p w ≡ false

pub least_first : (p : ℕ → Bool) (n : ℕ) → First p n (least p n)
least_first p zero = record { most = omega arith; has = λ h. absurd (omega arith); before = λ w h. absurd (omega arith) }
least_first p (suc n) = split (p zero) refl (least (λ i. p (suc i)) n) (least_first (λ i. p (suc i)) n)
  where
    later : (v : ℕ) → p zero ≡ false → First (λ i. p (suc i)) n v → (w : ℕ) → w < suc v → p w ≡ false
    later v e rest zero h = e
    later v e rest (suc w) h = rest.before w (omega arith)

    split : (b : Bool) → p zero ≡ b → (v : ℕ) → First (λ i. p (suc i)) n v → First p (suc n) (cond b zero (suc v))
    split true e v rest = record { most = omega arith; has = λ h. e; before = λ w h. absurd (omega arith) }
    split false e v rest = record { most = omega (arith, rest.most); has = λ h. rest.has (omega arith); before = later v e rest }

below_tells : (p : ℕ → Bool) (n : ℕ) → MatchOption (below n (least p n)) ((w : ℕ) → w < n → p w ≡ false) (λ v. p v ≡ true)
below_tells p n =
    let v = least p n in
    let first = least_first p n in
    cond_both (ltb v n) (Some v) None (λ o. MatchOption o ((w : ℕ) → w < n → p w ≡ false) (λ v. p v ≡ true))
    (λ e. first.has (ltb-true v n e)) (λ e w l. first.before w (omega (arith, ltb-false v n e)))

module _ {L : Type 0} (on : Setting L) (bounded : Bounded on.machine) (pairs : List ℕ) where
  -- what stands by the bytes
  abbrev pub ByBytes : ℕ → ℕ → Type 0
  ByBytes s t = T (stands (size on) pairs s t)

  module _ (s t : ℕ) where
    step_decides : (u : ℕ) → Decides (unanswered on.machine pairs s t u) (Grounded on.at_most on.machine ByBytes s t (ByStep u))
    step_decides u =
        Decides-and (on.machine.step s u) _ (λ e. bounded.inside s u (true_holds _ e), λ step. holds_true _ step.there)
        (Decides-not (answered on.machine pairs s u t) (walks_decides on.machine (stands (size on) pairs s) (stands (size on) pairs u) bounded t))

    abbrev agree : Bool
    agree = under on.at_most (label_of on.machine s) (label_of on.machine t)

    ground_tells : MatchOption (ground_of on pairs s t) ((g : Ground) → Grounded on.at_most on.machine ByBytes s t g → ⊥) (Grounded on.at_most on.machine ByBytes s t)
    ground_tells = split agree refl (least_unanswered on.machine pairs s t) (below_tells (unanswered on.machine pairs s t) (size on))
      where
        none_there : agree ≡ true → ((u : ℕ) → u < size on → unanswered on.machine pairs s t u ≡ false) → (g : Ground) → Grounded on.at_most on.machine ByBytes s t g → ⊥
        none_there e none ByLabel bad = bad (true_holds agree e)
        none_there e none (ByStep u) g = both_ways _ (none u g.0.to_state) ((step_decides u).1 g)

        split : (b : Bool) → agree ≡ b → (o : Option ℕ) → MatchOption o ((u : ℕ) → u < size on → unanswered on.machine pairs s t u ≡ false) (λ u. unanswered on.machine pairs s t u ≡ true) →
            MatchOption (cond b (by_step o) (Some ByLabel)) ((g : Ground) → Grounded on.at_most on.machine ByBytes s t g → ⊥) (Grounded on.at_most on.machine ByBytes s t)
        split true e None none = none_there e none
        split true e (Some u) found = (step_decides u).0 found
        split false e o told = false_fails agree e

    pub ground_there : (g : Ground) → ground_of on pairs s t ≡ Some g → Grounded on.at_most on.machine ByBytes s t g
    ground_there g e = MatchOption-at_some _ _ g e ground_tells

    pub no_ground : ground_of on pairs s t ≡ None → (g : Ground) → Grounded on.at_most on.machine ByBytes s t g → ⊥
    no_ground e = MatchOption-at_none _ _ e ground_tells
