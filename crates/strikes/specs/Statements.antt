-- What is proved of strikes, formulas and simulations. Assumes nothing.
use Rattle.std.specs.Prelude.{ℕ, ◌<◌, Bool, T, ◌↔◌, List, ◌∷◌, ◌++◌}
use Rattle.model.specs.Machines.{Meaning, Bounded, states}
use Rattle.until.specs.Formulas.{Formula, Holds}
use Rattle.strikes.specs.declared.strike.Strike.{Strike}
use Rattle.strikes.specs.Simulations.{Simulation}
use Rattle.strikes.specs.Strikes.{Standing, Lawful, Stable}
use Rattle.strikes.specs.Told.{formula_of}

module _ {L : Type 0} (at_most : L → L → Bool) where
  -- Every formula of s holds at t.
  abbrev pub Entails : Meaning L → ℕ → ℕ → Type 0
  Entails m s t = (F : Formula L) → Holds at_most m F s → Holds at_most m F t

  -- The same formulas hold at s and at t.
  abbrev pub Same : Meaning L → ℕ → ℕ → Type 0
  Same m s t = (F : Formula L) → Holds at_most m F s ↔ Holds at_most m F t

  -- The formula of each strike of a lawful list holds at its first state and fails at its second.
  abbrev pub StrikesTell : Type 0
  StrikesTell =
      (m : Meaning L) (later : List Strike) (k : Strike) (earlier : List Strike) → Lawful at_most m (later ++ (k ∷ earlier)) →
      Holds at_most m (formula_of m earlier k) k.first × (Holds at_most m (formula_of m earlier k) k.second → ⊥)

  -- After a lawful and stable list, a pair stands exactly when every formula of its first state holds at its second.
  abbrev pub StandingIsEntailment : Type 0
  StandingIsEntailment =
      (m : Meaning L) → Bounded m → (ks : List Strike) → Lawful at_most m ks → Stable at_most m ks →
      (s t : ℕ) → s < states m → t < states m → Standing ks s t ↔ Entails m s t

  -- After a lawful and stable list, a pair stands both ways exactly when the same formulas hold at its states.
  abbrev pub AlikeIsSame : Type 0
  AlikeIsSame =
      (m : Meaning L) → Bounded m → (ks : List Strike) → Lawful at_most m ks → Stable at_most m ks →
      (s t : ℕ) → s < states m → t < states m → (Standing ks s t × Standing ks t s) ↔ Same m s t

  -- After a lawful and stable list, what stands is a simulation, and every simulation that is a test is contained in it.
  abbrev pub StandingIsLargest : Type 0
  StandingIsLargest =
      (m : Meaning L) → Bounded m → (ks : List Strike) → Lawful at_most m ks → Stable at_most m ks →
      Simulation at_most m (Standing ks) ×
      ((r : ℕ → ℕ → Bool) → Simulation at_most m (λ s t. T (r s t)) → (s t : ℕ) → s < states m → t < states m → T (r s t) → Standing ks s t)
