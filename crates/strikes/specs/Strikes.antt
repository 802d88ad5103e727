-- Lists of strikes, the newest first. Assumes nothing.
use Rattle.std.specs.Prelude.{ℕ, ◌<◌, Bool, false, not, ◌&&◌, ◌||◌, T, List, [], ◌∷◌, ◌==◌}
use Rattle.model.specs.Machines.{Meaning, states, Step}
use Rattle.strikes.specs.declared.strike.Ground.{Ground}
use Rattle.strikes.specs.declared.strike.Ground.TheVariants.{ByLabel, ByStep}
use Rattle.strikes.specs.declared.strike.Strike.{Strike}
use Rattle.strikes.specs.Simulations.{LabelsAgree, Answered}

-- k strikes the pair (s, t).
abbrev pub names : Strike → ℕ → ℕ → Bool
names k s t = k.first == s && k.second == t

-- Some strike of the list is of the pair.
abbrev pub struck : List Strike → ℕ → ℕ → Bool
struck [] s t = false
struck (k ∷ ks) s t = names k s t || struck ks s t

-- None is.
abbrev pub Standing : List Strike → ℕ → ℕ → Type 0
Standing ks s t = T (not (struck ks s t))

module _ {L : Type 0} (at_most : L → L → Bool) (m : Meaning L) where
  -- The pair (s, t) may be struck on a ground, where the pairs of R stand.
  abbrev pub Grounded : (ℕ → ℕ → Type 0) → ℕ → ℕ → Ground → Type 0
  Grounded R s t ByLabel = LabelsAgree at_most m s t → ⊥
  Grounded R s t (ByStep u) = Step m s u × (Answered at_most m R s u t → ⊥)

  -- k strikes a standing pair of states on a ground.
  pub record Fair (R : ℕ → ℕ → Type 0) (k : Strike) : Type 0 where
    pub first_state : k.first < states m
    pub second_state : k.second < states m
    pub stands : R k.first k.second
    pub grounded : Grounded R k.first k.second k.ground

  -- Each strike was fair when it was made.
  abbrev pub Lawful : List Strike → Type 0
  Lawful [] = Unit {0}
  Lawful (k ∷ ks) = Fair (Standing ks) k × Lawful ks

  -- No standing pair of states has a ground.
  abbrev pub Stable : List Strike → Type 0
  Stable ks = (s t : ℕ) → s < states m → t < states m → Standing ks s t → (g : Ground) → Grounded (Standing ks) s t g → ⊥
