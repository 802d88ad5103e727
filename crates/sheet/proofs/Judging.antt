-- Whether a step is answered, from what the search reaches, and the least step that is not. Assumes nothing.
use Rattle.std.proofs.Common.{◌≡◌, ℕ, ◌<◌, ◌≤◌, Bool, true, false, not, ◌&&◌, T, Decides, List, IsSomeAnd, Some, None, Option, refl, sym, ap, ◌∙◌, subst, ⊎_elim, arith}
use Rattle.std.specs.Option.{MatchOption}
use Rattle.std.proofs.lemmas.Bool.{cases_lt, false≢true}
use Rattle.std.proofs.lemmas.Bool.Decides.{Decides-like, same_from_decides}
use Rattle.model.specs.Machines.{Meaning, Bounded, Step, states}
use Rattle.model.proofs.Tests.{true_holds}
use Rattle.until.specs.Rows.{row_of}
use Rattle.until.specs.Walks.{Walk, stop}
use Rattle.until.specs.Searches.{is_marked, Marked, Reached, Meets}
use Rattle.until.proofs.Walks.{walk_map}
use Rattle.until.proofs.RowBytes.{row_is_marked}
use Rattle.until.proofs.Reach.{meets_decides}
use Rattle.until.proofs.Decided.{walks_decides}
use Rattle.sheet.specs.Memory.{stands}
use Rattle.sheet.specs.Verdicts.{least, below, answered, unanswered}
use Rattle.sheet.proofs.Least.{below_is, below_none}

-- what follows from b fails no more than b
and_not : (a b c : Bool) → false ≡ (a && not b) → (b ≡ true → c ≡ true) → (a && not c) ≡ false
and_not false b c none follows = refl
and_not true true c none follows = ap not (follows refl)
and_not true false c none follows = absurd (false≢true none)

module _ {L : Type 0} (m : Meaning L) (bounded : Bounded m) (pairs : List ℕ) (s t : ℕ) (low : t < states m) where
  -- walks over rows are walks over what stands
  pub rows_decide : (u : ℕ) → Decides (answered m pairs s u t) (Walk (Step m) (Marked (row_of (states m) pairs s)) (Marked (row_of (states m) pairs u)) t)
  rows_decide u =
      let row = row_is_marked (states m) pairs in
      Decides-like (answered m pairs s u t)
      (walk_map m (λ v l. subst T (sym (row s v l))) (λ v l. subst T (sym (row u v l))) low)
      (walk_map m (λ v l. subst T (row s v l)) (λ v l. subst T (row u v l)) low)
      (walks_decides m (stands (states m) pairs s) (stands (states m) pairs u) bounded t)

  -- a step that is there is unanswered where no state that is reached is marked in the goal
  pub step_unanswered : (ends : List Bool) (u : ℕ) {n : ℕ} {goal : List ℕ} {b : Bool} → Reached m (row_of n pairs s) t ends → n ≡ states m → goal ≡ row_of n pairs u →
      Decides b (Meets ends goal) → true ≡ m.step s u → not b ≡ unanswered m pairs s t u
  step_unanswered ends u {n} {goal} {b} reached same is met step =
      let row = λ (v : ℕ). ap (λ k. row_of k pairs v) same in
      let by_walk =
      Decides-like b (λ w. w.1) (λ w. (low, w))
      (meets_decides m (row_of (states m) pairs s) t ends (row_of (states m) pairs u) b (subst (λ r. Reached m r t ends) (row s) reached) (subst (λ r. Decides b (Meets ends r)) (is ∙ row u) met)) in
      ap (λ x. x && not b) step ∙ ap (λ x. m.step s u && not x) (same_from_decides b (answered m pairs s u t) by_walk (rows_decide u))

  -- a step that standing still answers, or that is not there, is not unanswered
  pub still_answered : (n u : ℕ) → n ≡ states m → false ≡ (m.step s u && not (is_marked (row_of n pairs u) t)) → unanswered m pairs s t u ≡ false
  still_answered n u same none =
      and_not (m.step s u) (is_marked (row_of (states m) pairs u) t) _ (none ∙ ap (λ k. m.step s u && not (is_marked (row_of k pairs u) t)) same)
      (λ e. (rows_decide u).1 (stop (true_holds _ e)))

-- the first number from low to n that passes, as `find` over that range gives it
abbrev pub FoundFrom : (ℕ → Bool) → ℕ → ℕ → Option ℕ → Type 0
FoundFrom p low n r = MatchOption r ((i : ℕ) → low ≤ i → i < n → p i ≡ false) (λ v. (low ≤ v) × (v < n) × (p v ≡ true) × ((i : ℕ) → low ≤ i → i < v → p i ≡ false))

-- it is the first of all where none below low passes
pub found_from : (p : ℕ → Bool) (r : Option ℕ) {low : ℕ} (n : ℕ) → ((i : ℕ) → i < low → p i ≡ false) → FoundFrom p low n r → FoundFrom p 0 n r
found_from p None {low} n passed none = λ i z l. ⊎_elim (passed i) (λ h. none i h l) (cases_lt i low)
found_from p (Some v) {low} n passed found =
    (omega arith, found.1, found.2, λ i z l. ⊎_elim (passed i) (λ h. found.3 i h l) (cases_lt i low))

-- the least number that passes, as it is found, and then as it is stored
pub below_found : (p : ℕ → Bool) (r q : Option ℕ) {n k : ℕ} → n ≡ k → FoundFrom p 0 n r →
    {Stored : ℕ → ℕ → Type 0} → MatchOption r (q ≡ None) (λ v. IsSomeAnd q (Stored v)) → ((v w : ℕ) → v < n → Stored v w → w ≡ v) → q ≡ below k (least p k)
below_found p None q same none is stored = is ∙ below_none p _ (λ i l. none i (omega arith) (omega (arith, l, same)))
below_found p (Some v) None same found is stored = absurd is
below_found p (Some v) (Some w) same found is stored = ap Some (stored v w found.1 is) ∙ below_is p _ v (omega (arith, found.1, same)) found.2 (λ i. found.3 i (omega arith))
