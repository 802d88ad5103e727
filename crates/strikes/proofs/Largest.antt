-- Every simulation stands after a lawful list. Assumes nothing.
use Rattle.std.proofs.Common.{ℕ, ◌<◌, Bool, T, List, [], ◌∷◌, sym, subst₂}
use Rattle.model.specs.Machines.{Meaning, states}
use Rattle.until.proofs.Walks.{walk_map}
use Rattle.strikes.specs.declared.strike.Ground.{Ground}
use Rattle.strikes.specs.declared.strike.Ground.TheVariants.{ByLabel, ByStep}
use Rattle.strikes.specs.declared.strike.Strike.{Strike}
use Rattle.strikes.specs.Simulations.{Simulation}
use Rattle.strikes.specs.Strikes.{Standing, Grounded, Lawful}
use Rattle.strikes.specs.Statements.{StandingIsLargest}
use Rattle.strikes.proofs.Telling.{standing_more}
use Rattle.strikes.proofs.Stability.{stable_simulation}

module _ {L : Type 0} (at_most : L → L → Bool) (m : Meaning L) (R : ℕ → ℕ → Type 0) (sim : Simulation at_most m R) where
  not_grounded : (U : ℕ → ℕ → Type 0) → ((s t : ℕ) → s < states m → t < states m → R s t → U s t) →
      (s t : ℕ) → s < states m → t < states m → R s t → (g : Ground) → Grounded at_most m U s t g → ⊥
  not_grounded U sub s t hs ht r ByLabel bad = bad (sim s t hs ht r).0
  not_grounded U sub s t hs ht r (ByStep u) e =
      e.1 (walk_map m (λ v hv. sub s v hs hv) (λ v hv. sub u v e.0.to_state hv) ht ((sim s t hs ht r).1 u e.0))

  pub simulation_stands : (ks : List Strike) → Lawful at_most m ks → (s t : ℕ) → s < states m → t < states m → R s t → Standing ks s t
  simulation_stands [] law s t hs ht r = tt
  simulation_stands (k ∷ ks) law s t hs ht r =
      standing_more k ks s t (simulation_stands ks law.1 s t hs ht r)
      (λ e d. not_grounded (Standing ks) (simulation_stands ks law.1) k.first k.second
      law.0.first_state law.0.second_state (subst₂ R (sym e) (sym d) r) k.ground law.0.grounded)

pub standing_is_largest : {L : Type 0} (at_most : L → L → Bool) → StandingIsLargest at_most
standing_is_largest at_most m bounded ks law stable =
    (stable_simulation at_most m bounded ks stable, λ r sim s t hs ht h. simulation_stands at_most m (λ a b. T (r a b)) sim ks law s t hs ht h)
