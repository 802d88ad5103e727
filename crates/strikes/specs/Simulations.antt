-- Divergence-blind stuttering simulations. Assumes nothing.
use Rattle.std.specs.Prelude.{ℕ, ◌<◌, Bool, true, T, Some, None, Option}
use Rattle.model.specs.Machines.{Meaning, states, label_of, Step}
use Rattle.until.specs.Walks.{Walk}
use Rattle.until.specs.Formulas.{meets}

-- The first label, where there is one, is at most the second.
abbrev pub under : {L : Type 0} → (L → L → Bool) → Option L → Option L → Bool
under at_most None b = true
under at_most (Some a) b = meets at_most a b

module _ {L : Type 0} (at_most : L → L → Bool) (m : Meaning L) where
  -- The label of s is at most that of t.
  abbrev pub LabelsAgree : ℕ → ℕ → Type 0
  LabelsAgree s t = T (under at_most (label_of m s) (label_of m t))

  -- The step from s to u is answered from t: some walk from t has R s at every state before its last, and R u at its last.
  abbrev pub Answered : (ℕ → ℕ → Type 0) → ℕ → ℕ → ℕ → Type 0
  Answered R s u t = Walk (Step m) (R s) (R u) t

  -- R is a simulation: where it relates s to t, their labels agree and each step of s is answered from t.
  abbrev pub Simulation : (ℕ → ℕ → Type 0) → Type 0
  Simulation R =
      (s t : ℕ) → s < states m → t < states m → R s t → LabelsAgree s t × ((u : ℕ) → Step m s u → Answered R s u t)
