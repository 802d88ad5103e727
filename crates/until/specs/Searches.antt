-- What a search over a row of bytes answers. Assumes nothing.
use Rattle.std.specs.Prelude.{◌≡◌, ℕ, ◌<◌, Bool, false, cond, not, ◌&&◌, T, List, ◌++◌, length, drop, Some, None, Decides, Option, Result, ◌==◌, nat_lt, slice_index, slice_index_or}
use Rattle.model.specs.declared.refusal.Refusal.{Refusal}
use Rattle.model.specs.Machines.{Meaning, states, Step}
use Rattle.model.specs.Refusals.{Checked}
use Rattle.until.specs.Walks.{Walk, visited, Shortest}
use Rattle.until.specs.Decided.{walks}

-- The byte of u is not zero. A number past the row is not marked.
abbrev pub is_marked : List ℕ → ℕ → Bool
is_marked row u = not (slice_index row u == 0)

abbrev pub Marked : List ℕ → ℕ → Type 0
Marked row u = T (is_marked row u)

-- Some state that the list says yes of is marked.
abbrev pub Meets : List Bool → List ℕ → Type 0
Meets ends goal = (u : ℕ) × T (slice_index_or ends u false) × Marked goal u

module _ {L : Type 0} (m : Meaning L) (row : List ℕ) where
  -- A walk from s over marked states to one where Q holds.
  abbrev pub WalkOver : (ℕ → Type 0) → ℕ → Type 0
  WalkOver Q s = Walk (Step m) (Marked row) Q s

  -- The same from a state: a number that is none has no walk, not even one of no steps.
  abbrev pub WalkFromState : (ℕ → Type 0) → ℕ → Type 0
  WalkFromState Q s = (s < states m) × WalkOver Q s

  -- The same as a test that computes, for a goal that is marked.
  abbrev pub walk_exists : List ℕ → ℕ → Bool
  walk_exists goal s = nat_lt s (states m) && walks m (is_marked row) (is_marked goal) s

  -- The list says of every u whether such a walk from s ends there.
  abbrev pub Reached : ℕ → List Bool → Type 0
  Reached s reached = (u : ℕ) → Decides (slice_index_or reached u false) (WalkFromState (λ v. v ≡ u) s)

  -- The memory begins with the k states of a shortest walk to a marked goal, and is as before past them.
  pub record Written (goal : List ℕ) (s : ℕ) (before after : List ℕ) (k : ℕ) : Type 0 where
    pub from_state : s < states m
    pub walk : WalkOver (Marked goal) s
    pub shortest : Shortest walk
    pub counted : k ≡ length (visited walk)
    pub memory : after ≡ visited walk ++ drop k before

  -- Such a walk is written, or there is none and the memory is as before.
  abbrev pub WrittenIfAny : List ℕ → ℕ → List ℕ → List ℕ → Option ℕ → Type 0
  WrittenIfAny goal s before after (Some k) = Written goal s before after k
  WrittenIfAny goal s before after None = (WalkFromState (Marked goal) s → ⊥) × (after ≡ before)

  -- Why the search for a walk in so much memory is refused, if it is: it needs a place for each state.
  abbrev pub walk_refusal : ℕ → Option ℕ
  walk_refusal room = cond (nat_lt room (states m)) (Some 6) None

  -- What the search for a shortest walk answers, and what its memory then holds.
  abbrev pub SearchAnswers : List ℕ → ℕ → List ℕ → Result (Option ℕ) Refusal → List ℕ → Type 0
  SearchAnswers goal s before r after = Checked (walk_refusal (length before)) (after ≡ before) (WrittenIfAny goal s before after) r
