-- The places of a machine's steps, and the grid that is marked at them. Assumes nothing.
use Rattle.std.proofs.Common.{◌≡◌, ℕ, ◌*◌, ◌<◌, ⊎_elim, false, List, arith}
use Rattle.std.proofs.lemmas.Bool.{cases_Bool}
use Rattle.std.proofs.lemmas.Nat.{mul-add-lt, div-mul-add, mod-mul-add}
use Rattle.std.proofs.lemmas.Bool.Decides.{nat_tests}
use Rattle.model.specs.Machines.{are_states, Meaning, Bounded, states, tabled}
use Rattle.text.specs.Readings.{grid}
use Rattle.text.proofs.Places.{among_picked, picked}
use Rattle.text.proofs.Grids.{grid_step}
use Rattle.text.proofs.StepTexts.{step_at}

abbrev pub machine_places : {L : Type 0} → Meaning L → List ℕ
machine_places m = picked (step_at m.step (states m)) (states m * states m)

module _ {L : Type 0} (m : Meaning L) (bounded : Bounded m) (s t : ℕ) where
  steps_inside : s < states m → t < states m → (tabled m.labels (grid (states m) (machine_places m))).step s t ≡ m.step s t
  steps_inside hs ht =
      let n = states m in
      rw (grid_step m.labels (machine_places m) s t hs ht, among_picked, div-mul-add s n t ht, mod-mul-add s n t ht)
      (grind (arith, nat_tests, mul-add-lt s n t n hs ht))

  none_outside : (s < states m → t < states m → ⊥) → m.step s t ≡ false
  none_outside out = grind (arith, bounded.inside s t)

  -- The grid that is marked at the places of a machine's steps has its steps.
  pub same_steps : (tabled m.labels (grid (states m) (machine_places m))).step s t ≡ m.step s t
  same_steps =
      ⊎_elim
      (λ e. steps_inside (grind (arith, nat_tests)) (grind (arith, nat_tests)))
      (λ e. rw (e, none_outside (λ hs ht. grind (arith, nat_tests))))
      (cases_Bool (are_states (states m) s t))
