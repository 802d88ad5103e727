-- Numbers read from items, one after the other. Assumes nothing.
use Rattle.std.proofs.Common.{◌≡◌, ◌≤◌, ◌+◌, ℕ, List, [], ◌∷◌, ◌++◌, length, Option, Some, None, ℤ, refl, ap, sym, arith}
use Rattle.std.proofs.lemmas.List.{append_assoc, length-append}
use Rattle.std.proofs.lemmas.Bool.Decides.{nat_tests}
use denote.Ref.{Bor}
use Rattle.text.specs.Lines.{pieces_of}
use Rattle.text.specs.Numbers.{numbers, both, at_most_four}

-- Some numbers in front of others.
abbrev pub after : List ℤ → Option (List ℤ) → Option (List ℤ)
after zs None = None
after zs (Some ys) = Some (zs ++ ys)

-- zs are the first numbers of items, and what is left has the others.
pub record Taken (items rest : Option (Bor (List ℕ))) (zs : List ℤ) : Type 0 where
  pub goes_on : numbers (pieces_of 32 items) ≡ after zs (numbers (pieces_of 32 rest))
  pub few : length zs ≤ 4

-- How many bytes are left, and one more if there is another item.
abbrev pub left : Option (Bor (List ℕ)) → ℕ
left None = 0
left (Some bytes) = length bytes.now + 1

pub too_many : (zs : List ℤ) (z : ℤ) (o : Option (List ℤ)) → length zs ≡ 4 → at_most_four (after zs (both ◌∷◌ (Some z) o)) ≡ None
too_many zs z None e = refl
too_many zs z (Some ys) e = grind (arith, nat_tests, length-append)

pub one_more : (zs : List ℤ) (z : ℤ) (o : Option (List ℤ)) → after zs (both ◌∷◌ (Some z) o) ≡ after (zs ++ z ∷ []) o
one_more zs z None = refl
one_more zs z (Some ys) = ap Some (sym (append_assoc zs (z ∷ []) ys))
