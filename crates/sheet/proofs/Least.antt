-- The least number that passes. Assumes nothing.
use Rattle.std.proofs.Common.{◌≡◌, ℕ, zero, suc, ◌<◌, ◌≤◌, Bool, true, false, ltb, Some, None, Option, sym, refl, ap, ◌∙◌, arith}
use Rattle.std.specs.Option.{MatchOption, unwrap_or}
use Rattle.std.proofs.lemmas.Bool.{cond-true, cond-false, lt-ltb, le-ltb}
use Rattle.sheet.specs.Verdicts.{least, below}

pub least_is : (p : ℕ → Bool) (n v : ℕ) → v < n → p v ≡ true → ((w : ℕ) → w < v → p w ≡ false) → least p n ≡ v
least_is p zero v l h f = absurd (omega arith)
least_is p (suc n) zero l h f = cond-true (p zero) zero (suc (least (λ i. p (suc i)) n)) h
least_is p (suc n) (suc v) l h f =
    cond-false (p zero) zero (suc (least (λ i. p (suc i)) n)) (f zero (omega arith)) ∙ ap suc (least_is (λ i. p (suc i)) n v (omega arith) h (λ w k. f (suc w) (omega arith)))

pub least_none : (p : ℕ → Bool) (n : ℕ) → ((w : ℕ) → w < n → p w ≡ false) → least p n ≡ n
least_none p zero f = refl
least_none p (suc n) f =
    cond-false (p zero) zero (suc (least (λ i. p (suc i)) n)) (f zero (omega arith)) ∙ ap suc (least_none (λ i. p (suc i)) n (λ w k. f (suc w) (omega arith)))

pub below_is : (p : ℕ → Bool) (n v : ℕ) → v < n → p v ≡ true → ((w : ℕ) → w < v → p w ≡ false) → Some v ≡ below n (least p n)
below_is p n v l h f = sym (cond-true (ltb v n) (Some v) None (lt-ltb v n l)) ∙ ap (below n) (sym (least_is p n v l h f))

pub below_none : (p : ℕ → Bool) (n : ℕ) → ((w : ℕ) → w < n → p w ≡ false) → None ≡ below n (least p n)
below_none p n f = sym (cond-false (ltb n n) (Some n) None (le-ltb n n (omega arith))) ∙ ap (below n) (sym (least_none p n f))

-- the first that passes, or n, as `find` over a range says it
pub least_from_find : (p : ℕ → Bool) (n : ℕ) (r : Option ℕ) →
    MatchOption r ((k : ℕ) → 0 ≤ k → k < n → p k ≡ false) (λ v. (0 ≤ v) × (v < n) × (p v ≡ true) × ((k : ℕ) → 0 ≤ k → k < v → p k ≡ false)) → unwrap_or r n ≡ least p n
least_from_find p n (Some v) found = sym (least_is p n v found.1 found.2 (λ w. found.3 w (omega arith)))
least_from_find p n None none = sym (least_none p n (λ w. none w (omega arith)))
