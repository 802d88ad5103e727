-- A machine's text is written whole, or not at all. Assumes nothing.
use Rattle.std.proofs.Common.{◌≡◌, ℕ, ◌<◌, ◌≤◌, true, false, List, length, Option, Some, None, Result, Ok, Err, IfSome, MatchResult, option_map, nat_lt, ℤ, refl, ap, ◌∙◌, arith}
use Rattle.std.proofs.lemmas.Bool.{lt-ltb, le-ltb}
use Rattle.model.specs.Machines.{Meaning, states, is_sized}
use Rattle.model.specs.Memory.{over}
use Rattle.text.specs.declared.fault.Fault.{Fault}
use Rattle.text.specs.declared.fault.Fault.TheVariants.{ShortMemory}
use Rattle.text.specs.Writings.{all_spelled, machine_lines, written_by, WritesMachine}
use Rattle.text.specs.Laying.{laid}
use Rattle.text.proofs.Laying.{laid_all}

module _ {L : Type 0} (spelled : L → Option (List ℤ)) (m : Meaning L) where
  abbrev pub text_length : Option (List (List ℤ)) → Option ℕ
  text_length labels = option_map (λ numbers. length (machine_lines m numbers)) labels

  abbrev WritesOf : Option (List (List ℤ)) → List ℕ → Result ℕ Fault → List ℕ → Type 0
  WritesOf labels out r after =
      MatchResult (written_by m labels (length out)) (λ text. (r ≡ Ok (length text)) × (after ≡ over text out)) (λ fault. (r ≡ Err fault) × (after ≡ out))

  -- Memory is too short for it.
  pub not_written : (out : List ℕ) (size : ℕ) → text_length (all_spelled spelled m.labels) ≡ Some size → is_sized (states m) ≡ true → length out < size → WritesMachine spelled m out (Err ShortMemory) out
  not_written out size sized counted short = by (all_spelled spelled m.labels) sized
    where
      by : (labels : Option (List (List ℤ))) → text_length labels ≡ Some size → WritesOf labels out (Err ShortMemory) out
      by None e = absurd (cc)
      by (Some numbers) e =
          let text = machine_lines m numbers in
          let same : length text ≡ size = cc in
          let lacks : nat_lt (length out) (length text) ≡ true = lt-ltb (length out) (length text) (omega arith) in
          rw (counted, lacks) (refl, refl)

  -- Memory has room for it.
  pub written_whole : (out after : List ℕ) (size : ℕ) → text_length (all_spelled spelled m.labels) ≡ Some size → is_sized (states m) ≡ true → size ≤ length out → IfSome (all_spelled spelled m.labels) (λ numbers. after ≡ laid out 0 (machine_lines m numbers)) → WritesMachine spelled m out (Ok size) after
  written_whole out after size sized counted room laid_so = by (all_spelled spelled m.labels) sized laid_so
    where
      by : (labels : Option (List (List ℤ))) → text_length labels ≡ Some size → IfSome labels (λ numbers. after ≡ laid out 0 (machine_lines m numbers)) → WritesOf labels out (Ok size) after
      by None e h = absurd (cc)
      by (Some numbers) e h =
          let text = machine_lines m numbers in
          let same : size ≡ length text = cc in
          let fits : nat_lt (length out) (length text) ≡ false = le-ltb (length out) (length text) (omega arith) in
          rw (counted, fits) (ap Ok same, h ∙ laid_all text out (omega arith))
