-- Walks: zero or more steps, one condition at every state before the last, another at the last. Assumes nothing.
use Rattle.std.specs.Prelude.{ℕ, suc, ◌≤◌, List, [], ◌∷◌}

-- A walk by the steps of S from a state, with P at every state before its last, and Q at its last.
pub data Walk (S : ℕ → ℕ → Type 0) (P Q : ℕ → Type 0) : ℕ → Type 0 where
  stop : {t : ℕ} → Q t → Walk S P Q t
  go : {t u : ℕ} → P t → S t u → Walk S P Q u → Walk S P Q t

module _ {S : ℕ → ℕ → Type 0} {P Q : ℕ → Type 0} where
  -- How many steps it has.
  abbrev pub steps : {t : ℕ} → Walk S P Q t → ℕ
  steps (stop q) = 0
  steps (go p e w) = suc (steps w)

  -- Its states in turn.
  abbrev pub visited : {t : ℕ} → Walk S P Q t → List ℕ
  visited (stop {t = t} q) = t ∷ []
  visited (go {t = t} p e w) = t ∷ visited w

  -- No such walk from the same state has fewer steps.
  abbrev pub Shortest : {t : ℕ} → Walk S P Q t → Type 0
  Shortest {t} w = (v : Walk S P Q t) → steps w ≤ steps v
