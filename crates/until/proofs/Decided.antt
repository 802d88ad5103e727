-- The test for walks tells whether there is one. Assumes nothing.
use Rattle.std.proofs.Common.{◌≡◌, ℕ, zero, suc, ◌+◌, ◌<◌, ◌≤◌, Bool, true, cond, ◌&&◌, T, ◌⊎◌, Decides, refl, inl, inr, ⊎_elim, arith}
use Rattle.std.proofs.lemmas.Bool.{and_parts, and_from, or_cases, or_left, or_right, cases_eq}
use Rattle.std.proofs.lemmas.Bool.Decides.{Decides-below_or, nat_tests}
use Rattle.model.specs.Machines.{Meaning, Bounded, states, Step}
use Rattle.model.proofs.Tests.{holds_true, true_holds}
use Rattle.until.specs.Walks.{Walk, stop, go, steps, Shortest}
use Rattle.until.specs.Decided.{some_below, walks_within, walks}

some_decides : (p : ℕ → Bool) (n : ℕ) → Decides (some_below p n) ((i : ℕ) × (i < n) × (p i ≡ true))
some_decides p n = Decides-below_or p (λ i. p i ≡ true) (some_below p) (λ i. (λ e. e, λ e. e)) refl (λ _. refl) n

-- how many numbers below n pass
abbrev tally : (ℕ → Bool) → ℕ → ℕ
tally p zero = 0
tally p (suc n) = cond (p n) 1 0 + tally p n

tally_le : (p : ℕ → Bool) (n : ℕ) → tally p n ≤ n
tally_le p zero = omega arith
tally_le p (suc n) = grind (arith, nat_tests, tally_le p n)

module _ (p q : ℕ → Bool) (f : (i : ℕ) → p i ≡ true → q i ≡ true) where
  tally_more : (n : ℕ) → tally p n ≤ tally q n
  tally_more zero = omega arith
  tally_more (suc n) = grind (arith, nat_tests, tally_more n, f n)

  -- where as many pass, the same pass
  tally_same : (n : ℕ) → tally p n ≡ tally q n → (i : ℕ) → i < n → q i ≡ true → p i ≡ true
  tally_same zero e i l h = absurd (omega arith)
  tally_same (suc n) e i l h = grind (arith, nat_tests, tally_more n, f n, tally_same n)

all_pass : (p : ℕ → Bool) (n : ℕ) → n ≤ tally p n → (t : ℕ) → t < n → p t ≡ true
all_pass p zero le t l = absurd (omega arith)
all_pass p (suc n) le t l = grind (arith, nat_tests, tally_le p n, all_pass p n)

module _ {L : Type 0} (m : Meaning L) (ok goal : ℕ → Bool) where
  -- a step that passes on to where X holds
  abbrev onward : (ℕ → Bool) → ℕ → Bool
  onward X t = ok t && some_below (λ u. m.step t u && X u) (states m)

  onward_map : (X Y : ℕ → Bool) → ((u : ℕ) → u < states m → X u ≡ true → Y u ≡ true) → (t : ℕ) → onward X t ≡ true → onward Y t ≡ true
  onward_map X Y f t h =
      let p = and_parts (ok t) (some_below (λ u. m.step t u && X u) (states m)) h in
      let w = (some_decides (λ u. m.step t u && X u) (states m)).0 p.1 in
      let q = and_parts (m.step t w.0) (X w.0) w.2 in
      and_from (ok t) _ p.0 ((some_decides (λ u. m.step t u && Y u) (states m)).1 (w.0, w.1, and_from (m.step t w.0) (Y w.0) q.0 (f w.0 w.1 q.1)))

  abbrev within : ℕ → ℕ → Bool
  within k t = walks_within m ok goal k t

  within_more : (k t : ℕ) → within k t ≡ true → within (suc k) t ≡ true
  within_more zero t h = or_left (goal t) (onward (within zero) t) h
  within_more (suc k) t h =
      ⊎_elim
      (λ g. or_left (goal t) (onward (within (suc k)) t) g)
      (λ g. or_right (goal t) (onward (within (suc k)) t) (onward_map (within k) (within (suc k)) (λ u _. within_more k u) t g))
      (or_cases (goal t) (onward (within k) t) h)

  -- one step more finds nothing more
  abbrev Still : ℕ → Type 0
  Still k = (t : ℕ) → t < states m → within (suc k) t ≡ true → within k t ≡ true

  still_next : (k : ℕ) → Still k → Still (suc k)
  still_next k still t l h =
      ⊎_elim
      (λ g. or_left (goal t) (onward (within k) t) g)
      (λ g. or_right (goal t) (onward (within k) t) (onward_map (within (suc k)) (within k) still t g))
      (or_cases (goal t) (onward (within (suc k)) t) h)

  -- it stands still, or each step has found one more
  grows : (k : ℕ) → Still k ⊎ (k ≤ tally (within k) (states m))
  grows zero = inr (omega arith)
  grows (suc k) =
      ⊎_elim
      (λ still. inl (still_next k still))
      (λ le. ⊎_elim
      (λ e. inl (still_next k (tally_same (within k) (within (suc k)) (within_more k) (states m) e)))
      (λ ne. inr (omega (arith, tally_more (within k) (within (suc k)) (within_more k) (states m))))
      (cases_eq (tally (within k) (states m)) (tally (within (suc k)) (states m))))
      (grows k)

  still_all : Still (states m)
  still_all = ⊎_elim (λ still. still) (λ le t l h. all_pass (within (states m)) (states m) le t l) (grows (states m))

  within_goal : (k t : ℕ) → goal t ≡ true → within k t ≡ true
  within_goal zero t h = h
  within_goal (suc k) t h = or_left (goal t) (onward (within k) t) h

  -- what is found is a walk of so many steps at most
  within_sound : Bounded m → (k t : ℕ) → within k t ≡ true → (w : Walk (Step m) (λ u. T (ok u)) (λ u. T (goal u)) t) × (steps w ≤ k)
  within_sound b zero t h = (stop (true_holds (goal t) h), omega arith)
  within_sound b (suc k) t h =
      ⊎_elim
      (λ g. (stop (true_holds (goal t) g), omega arith))
      (λ g.
      let p = and_parts (ok t) (some_below (λ u. m.step t u && within k u) (states m)) g in
      let w = (some_decides (λ u. m.step t u && within k u) (states m)).0 p.1 in
      let q = and_parts (m.step t w.0) (within k w.0) w.2 in
      let rest = within_sound b k w.0 q.1 in
      (go (true_holds (ok t) p.0) (b.inside t w.0 (true_holds (m.step t w.0) q.0)) rest.0, omega (arith, rest.1)))
      (or_cases (goal t) (onward (within k) t) h)

  walks_complete : {t : ℕ} → Walk (Step m) (λ u. T (ok u)) (λ u. T (goal u)) t → walks m ok goal t ≡ true
  walks_complete {t} (stop q) = within_goal (states m) t (holds_true (goal t) q)
  walks_complete {t} (go {u = u} p e w) =
      let there : (m.step t u && within (states m) u) ≡ true = and_from (m.step t u) (within (states m) u) (holds_true (m.step t u) e.there) (walks_complete w) in
      still_all t e.from_state (or_right (goal t) (onward (within (states m)) t)
      (and_from (ok t) _ (holds_true (ok t) p) ((some_decides (λ v. m.step t v && within (states m) v) (states m)).1 (u, e.to_state, there))))

  pub walks_decides : Bounded m → (t : ℕ) → Decides (walks m ok goal t) (Walk (Step m) (λ u. T (ok u)) (λ u. T (goal u)) t)
  walks_decides b t = (λ h. (within_sound b (states m) t h).0, walks_complete)

  pub shortest_few : Bounded m → {t : ℕ} (w : Walk (Step m) (λ u. T (ok u)) (λ u. T (goal u)) t) → Shortest w → steps w ≤ states m
  shortest_few b {t} w shortest = let short = within_sound b (states m) t (walks_complete w) in omega (arith, shortest short.0, short.1)
