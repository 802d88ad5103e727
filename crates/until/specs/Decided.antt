-- Walks as a test that computes. Assumes nothing.
use Rattle.std.specs.Prelude.{ℕ, zero, suc, Bool, false, ◌&&◌, ◌||◌, T, Decides}
use Rattle.model.specs.Machines.{Meaning, states, Step}
use Rattle.until.specs.Walks.{Walk}

-- p holds at some number below n.
abbrev pub some_below : (ℕ → Bool) → ℕ → Bool
some_below p zero = false
some_below p (suc n) = p n || some_below p n

module _ {L : Type 0} (m : Meaning L) (ok goal : ℕ → Bool) where
  -- Some walk of at most k steps from t is ok before its last state and ends at a goal.
  abbrev pub walks_within : ℕ → ℕ → Bool
  walks_within zero t = goal t
  walks_within (suc k) t = goal t || (ok t && some_below (λ u. m.step t u && walks_within k u) (states m))

  -- Some such walk at all: one that visits no state twice has at most as many steps as there are states.
  abbrev pub walks : ℕ → Bool
  walks t = walks_within (states m) t

-- The test passes exactly where there is a walk.
abbrev pub WalksDecide : {L : Type 0} → Meaning L → Type 0
WalksDecide m = (ok goal : ℕ → Bool) (t : ℕ) → Decides (walks m ok goal t) (Walk (Step m) (λ u. T (ok u)) (λ u. T (goal u)) t)
