-- What the breadth-first search keeps for each state. Assumes nothing.
use Rattle.std.specs.Prelude.{◌≡◌, ℕ, ◌+◌, ◌<◌, ◌≤◌, List, Some, None, Option, IsSome, MatchOption, slice_index_or}
use Rattle.model.specs.Machines.{Meaning, states, Step}
use Rattle.until.specs.declared.search.Visit.{Visit}
use Rattle.until.specs.Walks.{Walk, steps}
use Rattle.until.specs.Searches.{Marked}

-- A walk from s, by steps of S over states that are ok, that ends at u.
abbrev pub To : (ℕ → ℕ → Type 0) → (ℕ → Type 0) → ℕ → ℕ → Type 0
To S ok s u = Walk S ok (λ v. v ≡ u) s

-- The steps of a visit and the state before, and 0 where there is no visit.
abbrev pub steps_of : Option Visit → ℕ
steps_of (Some v) = v.steps
steps_of None = 0

abbrev pub before_of : Option Visit → ℕ
before_of (Some v) = v.before
before_of None = 0

-- A state has a visit exactly where a walk from s ends there: the fewest steps of one, and the state before it on such
-- a walk. Both ends are among n states, and the fewest steps are fewer than n.
pub record Found (n : ℕ) (S : ℕ → ℕ → Type 0) (ok : ℕ → Type 0) (s : ℕ) (visit : ℕ → Option Visit) : Type 0 where
  pub within : (u : ℕ) → IsSome (visit u) → u < n
  pub walks : (u : ℕ) → IsSome (visit u) → (s < n) × (w : To S ok s u) × (steps w ≡ steps_of (visit u))
  pub least : (u : ℕ) → s < n → (w : To S ok s u) → IsSome (visit u) × (steps_of (visit u) ≤ steps w)
  pub few : (u : ℕ) → IsSome (visit u) → steps_of (visit u) < n
  pub back : (u k : ℕ) → IsSome (visit u) → steps_of (visit u) ≡ k + 1 →
      let b = before_of (visit u) in IsSome (visit b) × (steps_of (visit b) ≡ k) × ok b × S b u

abbrev pub visit : List (Option Visit) → ℕ → Option Visit
visit found u = slice_index_or found u None

-- The list holds that of the walks of m over the marked states of a row.
abbrev pub Explores : {L : Type 0} → Meaning L → List ℕ → ℕ → List (Option Visit) → Type 0
Explores m row s found = Found (states m) (Step m) (Marked row) s (visit found)

-- The state u is a goal and reached, and no goal that is reached is nearer.
pub record Closest (goal : ℕ → Type 0) (visit : ℕ → Option Visit) (u : ℕ) : Type 0 where
  pub is_goal : goal u
  pub near : IsSome (visit u)
  pub least : (v : ℕ) → goal v → IsSome (visit v) → steps_of (visit u) ≤ steps_of (visit v)

-- The closest goal with its steps, or none where none is reached.
abbrev pub Chosen : (ℕ → Type 0) → (ℕ → Option Visit) → Option (ℕ × ℕ) → Type 0
Chosen goal visit o = MatchOption o ((v : ℕ) → goal v → IsSome (visit v) → ⊥) (λ p. Closest goal visit p.0 × (p.1 ≡ steps_of (visit p.0)))
