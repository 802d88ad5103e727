-- The steps of a grid have the text of its places. Assumes nothing.
use Rattle.std.proofs.Common.{◌≡◌, ℕ, ◌*◌, ◌/◌, ◌%◌, ◌<◌, ⊎_elim, List, length, sym, ap, ◌∙◌, div-add-mod'}
use Rattle.std.proofs.lemmas.Bool.{cases_lt, le-ltb, lt-ltb}
use Rattle.std.proofs.lemmas.Nat.{div_below, mod_below}
use Rattle.model.specs.Machines.{tabled}
use Rattle.text.specs.Readings.{grid}
use Rattle.text.specs.Writings.{step_lines}
use Rattle.text.proofs.Places.{Rising, among, among_past, among_picked, picked, rising_picked, same_places}
use Rattle.text.proofs.Grids.{grid_step}
use Rattle.text.proofs.StepTexts.{step_text, step_at, steps_text}

module _ {L : Type 0} (ls : List L) (places : List ℕ) (some : 0 < length ls) (rising : Rising 0 places (length ls * length ls)) where
  -- The steps of the grid are at its places.
  among_steps : (i : ℕ) → among i (picked (step_at (tabled ls (grid (length ls) places)).step (length ls)) (length ls * length ls)) ≡ among i places
  among_steps i =
      let n = length ls in
      ⊎_elim
      (λ low. rw (among_picked, lt-ltb i (n * n) low, grid_step ls places (i / n) (i % n) (div_below i n n some low) (mod_below i n some), div-add-mod' i n))
      (λ past. rw (among_picked, le-ltb i (n * n) past, among_past i 0 places (n * n) rising past))
      (cases_lt i (n * n))

  pub grid_text : step_text (length ls) places ≡ step_lines (tabled ls (grid (length ls) places)).step (length ls) (length ls)
  grid_text =
      let n = length ls in
      let m = tabled ls (grid n places) in
      ap (step_text n) (sym (same_places 0 (picked (step_at m.step n) (n * n)) places (n * n) (rising_picked (step_at m.step n) (n * n)) rising among_steps))
      ∙ steps_text m.step n n
