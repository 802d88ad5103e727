-- The machine of a grid that is marked at places has their steps. Assumes nothing.
use Rattle.std.proofs.Common.{◌≡◌, ℕ, ◌+◌, ◌*◌, ◌<◌, ◌≤◌, cond, not, ◌&&◌, List, [], ◌∷◌, length, get_or, set, replicate, eqb, ltb, leb, refl, ap, ◌∙◌, arith, length-set}
use Rattle.std.proofs.lemmas.Bool.{cond-true, and_from, eq-eqb, le-leb, lt-ltb}
use Rattle.std.proofs.lemmas.List.{length-replicate, get_or-replicate}
use Rattle.std.proofs.lemmas.Nat.{mul-add-lt}
use Rattle.std.proofs.lemmas.Bool.Decides.{nat_tests}
use Rattle.std.proofs.lemmas.Grind.{common_steps}
use Rattle.model.specs.Machines.{state_bound, is_sized, tabled, table_meaning}
use Rattle.text.specs.Readings.{marked_at, grid}
use Rattle.text.proofs.Places.{among}

pub length-marked : (bytes places : List ℕ) → length (marked_at bytes places) ≡ length bytes
length-marked bytes [] = refl
length-marked bytes (q ∷ qs) = length-marked (set bytes q 1) qs ∙ length-set bytes q 1

marked_there : (bytes places : List ℕ) (i : ℕ) → i < length bytes → get_or (marked_at bytes places) i 0 ≡ cond (among i places) 1 (get_or bytes i 0)
marked_there bytes [] i low = refl
marked_there bytes (q ∷ qs) i low = grind (arith, nat_tests, common_steps, marked_there (set bytes q 1) qs i (omega (arith, length-set bytes q 1)))

grid_there : (n : ℕ) (places : List ℕ) (i : ℕ) → i < n * n → not (eqb (get_or (grid n places) i 0) 0) ≡ among i places
grid_there n places i low =
    let empty : get_or (replicate {A = ℕ} (n * n) 0) i 0 ≡ 0 = get_or-replicate (n * n) i 0 0 low in
    rw (marked_there (replicate (n * n) 0) places i (omega (arith, length-replicate {A = ℕ} (n * n) 0)), empty) (grind (arith, nat_tests))

module _ {L : Type 0} (ls : List L) (places : List ℕ) where
  -- With a number of states that a table may have, the grid is the machine's table.
  pub grid_fits : 0 < length ls → length ls ≤ state_bound → table_meaning ls (grid (length ls) places) ≡ tabled ls (grid (length ls) places)
  grid_fits some few =
      let square : length (grid (length ls) places) ≡ length ls * length ls = length-marked (replicate (length ls * length ls) 0) places ∙ length-replicate {A = ℕ} (length ls * length ls) 0 in
      cond-true _ _ _ (and_from (is_sized (length ls)) _ (and_from (leb 1 (length ls)) _ (le-leb 1 (length ls) some) (le-leb (length ls) state_bound few)) (eq-eqb _ _ square))

  pub grid_step : (s t : ℕ) → s < length ls → t < length ls → (tabled ls (grid (length ls) places)).step s t ≡ among (s * length ls + t) places
  grid_step s t hs ht =
      ap (λ b. b && not (eqb (get_or (grid (length ls) places) (s * length ls + t) 0) 0)) (and_from (ltb s (length ls)) _ (lt-ltb s (length ls) hs) (lt-ltb t (length ls) ht))
      ∙ grid_there (length ls) places (s * length ls + t) (mul-add-lt s (length ls) t (length ls) hs ht)
