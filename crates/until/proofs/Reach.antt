-- What is reached, from the steps that the search counted, and the test for it. Assumes nothing.
use Rattle.std.proofs.Common.{◌≡◌, ℕ, zero, suc, ◌+◌, ◌<◌, ◌≤◌, Bool, false, ltb, List, Option, length, get_or, replicate, Decides, sym, refl, ◌∙◌, subst, ⊎_elim, arith}
use Rattle.std.specs.Array.{IsFromFnResultFrom}
use Rattle.std.specs.Option.{is_some}
use denote.Param.Members.{Mut, Called}
use Rattle.std.proofs.lemmas.List.{get_or_past}
use Rattle.std.proofs.lemmas.Bool.{cases_eq, cases_lt, false≢true}
use Rattle.std.proofs.lemmas.Bool.Decides.{same_from_decides, Decides-and, Decides-ltb}
use Rattle.model.specs.Machines.{Meaning, Bounded, Step, states}
use Rattle.model.proofs.Tests.{holds_true, true_holds}
use Rattle.until.specs.declared.search.Visit.{Visit}
use Rattle.until.specs.Searches.{is_marked, Marked, WalkFromState, walk_exists, Reached, Meets}
use Rattle.until.specs.Explored.{Found}
use Rattle.until.proofs.Walks.{walk_there, walk_end}
use Rattle.until.proofs.Decided.{walks_decides}

-- what calls at each number below n made, where each leaves the closure as it was and gives h of its number
pub made_by : {F B : Type 0} (g : Mut F (ℕ × Unit {0}) B) (h : ℕ → B) (f : F) (ys : List B) → ((k : ℕ) (y : B) (q : F) → Called g f (k, tt) y q → (q ≡ f) × (y ≡ h k))
    → (i n : ℕ) → IsFromFnResultFrom g f ys i n → (k : ℕ) (d : B) → i ≤ k → k < i + n → get_or ys k d ≡ h k
made_by g h f ys calls i zero from k d low high = absurd (omega arith)
made_by g h f ys calls i (suc n) from k d low high =
    let call = calls i from.1 from.0 from.3 in
    let rest : IsFromFnResultFrom g f ys (i + 1) n = subst (λ q. IsFromFnResultFrom g q ys (i + 1) n) call.0 from.4 in
    ⊎_elim
    (λ (e : k ≡ i). let here = from.2.1 d in rw e (cc (here, call.1)))
    (λ ne. made_by g h f ys calls (i + 1) n rest k d (omega arith) (omega arith))
    (cases_eq k i)

pub none_marked : (n u : ℕ) → get_or (replicate n false) u false ≡ false
none_marked zero u = refl
none_marked (suc n) zero = refl
none_marked (suc n) (suc u) = none_marked n u

-- from a number that is no state nothing is reached
pub nothing_reached : {L : Type 0} (m : Meaning L) (row : List ℕ) (s : ℕ) (reached : List Bool) → states m ≤ s → ((v : ℕ) → get_or reached v false ≡ false) → Reached m row s reached
nothing_reached m row s reached no_state none u = (λ e. absurd (false≢true (sym (none u) ∙ e)), λ r. absurd (omega (arith, r.0)))

-- among the first k, which are all the states, those are reached that have a visit
pub found_reached : {L : Type 0} (m : Meaning L) (row : List ℕ) (s : ℕ) (reached : List Bool) {visit : ℕ → Option Visit} {k : ℕ} → Found (states m) (Step m) (Marked row) s visit → states m ≤ k
    → length reached ≡ k → ((u : ℕ) → u < k → get_or reached u false ≡ is_some (visit u))
    → Reached m row s reached
found_reached m row s reached {k = k} found fits long each u = (
  λ e. ⊎_elim
      (λ l. let r = found.walks u (sym (each u l) ∙ e) in (r.0, r.1))
      (λ l. absurd (false≢true (sym (get_or_past reached u false (omega arith)) ∙ e)))
      (cases_lt u k),
  λ r. let there = (found.least u r.0 r.1).0 in each u (omega (arith, found.within u there)) ∙ there,
)

-- a walk to a marked state is there where one that is reached is marked
pub meets_decides : {L : Type 0} (m : Meaning L) (row : List ℕ) (s : ℕ) (ends : List Bool) (goal : List ℕ) (r : Bool) → Reached m row s ends → Decides r (Meets ends goal) → Decides r (WalkFromState m row (Marked goal) s)
meets_decides m row s ends goal r reached meets = (
  λ e.
      let end = meets.0 e in
      let walk = (reached end.0).0 (holds_true _ end.1) in
      (walk.0, walk_there end.2 walk.1),
  λ w.
      let end = walk_end w.1 in
      meets.1 (end.0, true_holds _ ((reached end.0).1 (w.0, end.2)), end.1),
)

-- an answer that tells whether there is a walk is the test for one
pub exists_test : {L : Type 0} {m : Meaning L} → Bounded m → (row goal : List ℕ) (s : ℕ) (r : Bool) → Decides r (WalkFromState m row (Marked goal) s) → r ≡ walk_exists m row goal s
exists_test {m = m} b row goal s r means =
    same_from_decides r _ means (Decides-and (ltb s (states m)) _ (Decides-ltb s (states m)) (walks_decides m (is_marked row) (is_marked goal) b s))
