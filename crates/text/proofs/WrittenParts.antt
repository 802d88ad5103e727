-- A machine is written where its labels can be, where it has states and not too many, and where there is room. Assumes nothing.
use Rattle.std.proofs.Common.{◌≡◌, ℕ, ◌<◌, ◌≤◌, true, false, List, length, Option, Some, None, Ok, ℤ, refl, subst, nat_lt, arith}
use Rattle.std.proofs.lemmas.Bool.Decides.{nat_tests}
use Rattle.std.proofs.lemmas.Bool.{le-ltb}
use Rattle.model.specs.Machines.{Meaning, states, state_bound, is_sized}
use Rattle.text.specs.Writings.{all_spelled, machine_lines, written_by, written}

module _ {L : Type 0} (spelled : L → Option (List ℤ)) (m : Meaning L) where
  -- What a machine has that is written so.
  pub record Wrote (labels : Option (List (List ℤ))) (text : List ℕ) : Type 0 where
    pub numbers : List (List ℤ)
    pub spelled_so : labels ≡ Some numbers
    pub some : 0 < states m
    pub few : states m ≤ state_bound
    pub is : machine_lines m numbers ≡ text

  wrote_by : (labels : Option (List (List ℤ))) (room : ℕ) (text : List ℕ) → written_by m labels room ≡ Ok text → Wrote labels text
  wrote_by None room text h = absurd (cc)
  wrote_by (Some numbers) room text h = record {
    numbers = numbers;
    spelled_so = refl;
    some = grind (arith, nat_tests);
    few = grind (arith, nat_tests);
    is = grind arith;
  }

  pub wrote : (room : ℕ) (text : List ℕ) → written spelled m room ≡ Ok text → Wrote (all_spelled spelled m.labels) text
  wrote room text h = wrote_by (all_spelled spelled m.labels) room text h

  -- Its text is written into just that room.
  pub is_written : (text : List ℕ) → Wrote (all_spelled spelled m.labels) text → written spelled m (length text) ≡ Ok text
  is_written text w =
      let counted : is_sized (states m) ≡ true = grind (arith, nat_tests, w.some, w.few) in
      let lines = machine_lines m w.numbers in
      let fits : nat_lt (length lines) (length lines) ≡ false = le-ltb (length lines) (length lines) (omega arith) in
      subst (λ x. written spelled m (length x) ≡ Ok x) w.is (rw (w.spelled_so, counted, fits) refl)
