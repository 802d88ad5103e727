-- Where no standing pair has a ground, what stands is a simulation. Assumes nothing.
use Rattle.std.proofs.Common.{ℕ, ◌<◌, Bool, not, List, ⊎_elim}
use Rattle.std.proofs.lemmas.Bool.{cases_Bool}
use Rattle.std.proofs.lemmas.Bool.Decides.{not_from_Decides}
use Rattle.model.specs.Machines.{Meaning, Bounded, states, label_of, Step}
use Rattle.model.proofs.Tests.{true_holds, false_fails}
use Rattle.until.specs.Decided.{walks}
use Rattle.until.proofs.Decided.{walks_decides}
use Rattle.strikes.specs.declared.strike.Ground.TheVariants.{ByLabel, ByStep}
use Rattle.strikes.specs.declared.strike.Strike.{Strike}
use Rattle.strikes.specs.Simulations.{under, LabelsAgree, Answered, Simulation}
use Rattle.strikes.specs.Strikes.{struck, Standing, Stable}

module _ {L : Type 0} (at_most : L → L → Bool) (m : Meaning L) (bounded : Bounded m) (ks : List Strike) (stable : Stable at_most m ks) where
  labels_agree : (s t : ℕ) → s < states m → t < states m → Standing ks s t → LabelsAgree at_most m s t
  labels_agree s t hs ht stands =
      ⊎_elim
      (true_holds (under at_most (label_of m s) (label_of m t)))
      (λ e. absurd (stable s t hs ht stands ByLabel (false_fails (under at_most (label_of m s) (label_of m t)) e)))
      (cases_Bool (under at_most (label_of m s) (label_of m t)))

  step_answered : (s t : ℕ) → s < states m → t < states m → Standing ks s t → (u : ℕ) → Step m s u → Answered at_most m (Standing ks) s u t
  step_answered s t hs ht stands u step =
      let ok : ℕ → Bool = λ v. not (struck ks s v) in
      let goal : ℕ → Bool = λ v. not (struck ks u v) in
      let decides = walks_decides m ok goal bounded t in
      ⊎_elim
      decides.0
      (λ e. absurd (stable s t hs ht stands (ByStep u) (step, not_from_Decides (walks m ok goal t) decides e)))
      (cases_Bool (walks m ok goal t))

  pub stable_simulation : Simulation at_most m (Standing ks)
  stable_simulation s t hs ht stands = (labels_agree s t hs ht stands, step_answered s t hs ht stands)
