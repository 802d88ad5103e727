-- Rows that fit have places in memory, and how they are stored one after the other. Assumes nothing.
use Rattle.std.proofs.Common.{◌≡◌, ℕ, ◌*◌, ◌≤◌, Result, Ok, Err, true, refl, ◌∙◌, subst, arith, rules, cond}
use Rattle.std.proofs.lemmas.Nat.{mul-le}
use Rattle.text.specs.declared.fault.Side.{Side}
use Rattle.text.specs.declared.fault.Place.{Place}
use Rattle.text.specs.declared.fault.Refused.{Refused}
use Rattle.text.specs.declared.row.Row.{Row}
use Rattle.text.specs.declared.row.Row.TheVariants.{Header, Label, Step}
use Rattle.text.specs.declared.row.Due.{Due}
use Rattle.text.specs.declared.row.Due.TheVariants.{Label as LabelDue, Step as StepDue}
use Rattle.text.specs.InOrder.{Within, Fits, Storable}
use Rattle.text.specs.Rows.{same_side}
use Rattle.text.specs.Readings.{Rows, also_row, SideMemory, side_memory}
use Rattle.text.specs.Filling.{labels_with, steps_with, labels_stored, steps_stored, with_row, stored}

square_within : (n : ℕ) → n ≤ 64 → n * n ≤ 4096
square_within n h = mul-le n n 64 64 h h

module _ {L : Type 0} where
  pub storable : (due : Due) (r : Row L) → Within due → Fits due r → Storable r
  storable due (Header form n) w f = square_within n (omega (arith, f.1))
  storable (LabelDue at s) (Label k l) w f = omega (arith, w.0, w.1, f)
  storable (StepDue at place) (Step q) w f = let h = square_within at.count w.0 in omega (arith, f.1, h)
  storable due r w f = search rules

  -- What is stored so far and what is left give what all rows give.
  abbrev pub StoredOf : Side → SideMemory L → SideMemory L → Result (Rows L) (Refused Place) → Result (Rows L) (Refused Place) → Type 0
  StoredOf side memory now all (Err e) = all ≡ Err e
  StoredOf side memory now all (Ok rest) = (rs : Rows L) × (all ≡ Ok rs) × (stored side rs memory ≡ stored side rest now)

  module _ (side : Side) (memory : SideMemory L) where
    pub stored_start : (all : Result (Rows L) (Refused Place)) → StoredOf side memory memory all all
    stored_start (Err e) = refl
    stored_start (Ok rs) = (rs, refl, refl)

    module _ (now : SideMemory L) (all before after : Result (Rows L) (Refused Place)) (at : Side) (r : Row L) (s : StoredOf side memory now all before) (e : before ≡ also_row (at, r) after) where
      next : StoredOf side memory now all (also_row (at, r) after)
      next = subst (StoredOf side memory now all) e s

      pub stored_row : same_side side at ≡ true → StoredOf side memory (with_row r now) all after
      stored_row here = by after next
        where
          by : (after : Result (Rows L) (Refused Place)) → StoredOf side memory now all (also_row (at, r) after) → StoredOf side memory (with_row r now) all after
          by (Err e) s = s
          by (Ok rest) s = (s.0, s.1, s.2 ∙ (λ i. side_memory (labels_stored side rest (cond (here i) (labels_with r now.labels) now.labels)) (steps_stored side rest (cond (here i) (steps_with r now.steps) now.steps))))
