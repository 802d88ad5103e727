-- How long the lines of a machine are. Assumes nothing.
use Rattle.std.proofs.Common.{◌≡◌, ℕ, zero, suc, ◌+◌, ◌*◌, ◌≤◌, ◌<◌, Bool, cond, List, [], ◌∷◌, length, All, ℤ, pos, Option, Some, ap, arith, length-append}
use Rattle.std.proofs.lemmas.Bool.{cond_both}
use Rattle.std.proofs.lemmas.Fmt.{length-decimal-le}
use Rattle.std.specs.Fmt.{signed_decimal}
use Rattle.text.specs.Spelling.{Spelling}
use Rattle.text.specs.Writings.{header_line, label_line, step_line, all_spelled, label_lines, step_lines_from, step_lines}
use Rattle.text.proofs.WrittenNumbers.{Small}
use Rattle.text.proofs.FormLength.{items_length}
use Rattle.text.proofs.AllThere.{all_there}

-- A state's number has at most two digits.
state_length : (s : ℕ) → s ≤ 64 → length (signed_decimal (pos s)) ≤ 2
state_length s h = length-decimal-le 2 s (omega arith) (omega arith) (omega arith)

pub header_length : (n : ℕ) → n ≤ 64 → length (header_line n) ≤ 13
header_length n h = let a = state_length n h in simp length-append (omega arith)

label_length : (s : ℕ) (zs : List ℤ) → s ≤ 64 → length zs ≤ 3 → All Small zs → length (label_line s zs) ≤ 47
label_length s zs hs few small =
    let a = state_length s hs in let b = items_length zs small in simp length-append (omega arith)

step_length : (s t : ℕ) → s ≤ 64 → t ≤ 64 → length (step_line s t) ≤ 13
step_length s t hs ht = let a = state_length s hs in let b = state_length t ht in simp length-append (omega arith)

pub row_length : (there : ℕ → ℕ → Bool) (s t : ℕ) → s < 64 → t ≤ 64 → length (step_lines_from there s t) ≤ 13 * t
row_length there s zero hs ht = omega arith
row_length there s (suc t) hs ht =
    let one : length (cond (there s t) (step_line s t) []) ≤ 13 =
    cond_both (there s t) (step_line s t) [] (λ x. length x ≤ 13) (λ _. step_length s t (omega arith) (omega arith)) (λ _. omega arith) in
    omega (arith, length-append (step_lines_from there s t) (cond (there s t) (step_line s t) []), row_length there s t hs (omega arith), one)

pub steps_length : (there : ℕ → ℕ → Bool) (n s : ℕ) → n ≤ 64 → s ≤ 64 → length (step_lines there n s) ≤ 832 * s
steps_length there n zero hn hs = omega arith
steps_length there n (suc s) hn hs =
    omega (arith, length-append (step_lines there n s) (step_lines_from there s n), steps_length there n s hn (omega arith), row_length there s n (omega arith) hn)

module _ {L : Type 0} (spelled : L → Option (List ℤ)) (understood : List ℤ → Option L) (laws : Spelling spelled understood) where
  pub labels_length : (s : ℕ) (ls : List L) (numbers : List (List ℤ)) → s + length ls ≤ 64 → all_spelled spelled ls ≡ Some numbers → length (label_lines s numbers) ≤ 58 * length ls
  labels_length s [] numbers few e = let none : [] ≡ numbers = cc in omega (arith, ap (λ x. length (label_lines s x)) none)
  labels_length s (l ∷ ls) numbers few e =
      let f = all_there (spelled l) (all_spelled spelled ls) numbers e in
      omega (
        arith,
        ap (λ x. length (label_lines s x)) f.are,
        length-append (label_line s f.first) (label_lines (s + 1) f.others),
        label_length s f.first (omega arith) (laws.few f.first l f.first_so) (laws.small f.first l f.first_so),
        labels_length (s + 1) ls f.others (omega arith) f.others_so,
      )
