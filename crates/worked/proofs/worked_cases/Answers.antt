use mathlib.Core.Path.{refl}
use Prim.Native.Nat.{ℕ, zero, suc}
use native.Mathlib.Omega.{arith}
use Rattle.model.specs.Machines.{Step}
use Rattle.model.specs.Orders.{flags_at_most}
use Rattle.until.specs.Walks.{stop, go}
use Rattle.until.specs.Formulas.{Holds}
use Rattle.worked.specs.Cases.{two_beside_one, one_until_two}
use Rattle.worked.proofs.worked_cases.Goals as goal

-- the label 1 alone has no step
no_step : (u : ℕ) → Step two_beside_one 2 u → ⊥
no_step zero e = e.there
no_step (suc zero) e = e.there
no_step (suc (suc zero)) e = e.there
no_step (suc (suc (suc u))) e = omega (arith, e.to_state)

stuck : Holds flags_at_most two_beside_one one_until_two 2 → ⊥
stuck (stop q) = q
stuck (go {u = u} p e w) = no_step u e

pub returns : goal.returns
returns c = record {
  flags_1_3 = tt;
  flags_3_1 = λ h. h;
  turned_3_1 = tt;
  exact_1_3 = λ h. h;
  band_wide_narrow = tt;
  band_narrow_wide = λ h. h;
  until_at_0 = go {u = 1} tt (record { from_state = omega arith; to_state = omega arith; there = tt }) (stop tt);
  until_at_1 = stop tt;
  until_at_2 = stuck;
  settled_made = refl;
  settled_passes = refl;
  settled_pairs = refl;
  settled_strikes = refl;
  settled_formula = refl;
  class_of_0 = refl;
  class_of_1 = refl;
  class_of_2 = refl;
  class_of_3 = refl;
  class_of_4 = refl;
  one_made = refl;
  one_passes = refl;
  one_class = refl;
  trace_1_1_2 = tt;
  trace_1_4_2 = λ h. h;
}
