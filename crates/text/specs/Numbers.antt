-- Numbers in decimal. Assumes nothing.
use Rattle.std.specs.Prelude.{ℕ, ◌^◌, Bool, cond, ◌&&◌, List, [], ◌∷◌, ◌++◌, length, Option, Some, None, option_map, ℤ, bytes_eq, nat_le, nat_lt, codes}
use lib.Signed.{mag}
use Rattle.std.specs.Option.{option_zip}
use Rattle.std.specs.Fmt.{signed_decimal}
use Rattle.std.specs.Str.Parse.{signed_digits_value}

-- The number is from −2^32 to 2^32 − 1, as `mag` of a negative one is one less than its size; none that a line takes is outside.
abbrev pub is_small : ℤ → Bool
is_small z = nat_lt (mag z) (2 ^ 32)

-- The number, where these bytes are how it is written.
abbrev pub written_as : List ℕ → ℤ → Option ℤ
written_as bytes z = cond (is_small z && bytes_eq (signed_decimal z) bytes) (Some z) None

-- The number that the bytes write in decimal, if they do: no leading zeros, no plus, no −0.
abbrev pub number : List ℕ → Option ℤ
number bytes = written_as bytes (signed_digits_value 10 bytes)

-- Two joined, where both are there.
abbrev pub both : {A B C : Type 0} → (A → B → C) → Option A → Option B → Option C
both join a b = option_map (λ p. join p.0 p.1) (option_zip a b)

-- The numbers that the words write, if all do.
abbrev pub numbers : List (List ℕ) → Option (List ℤ)
numbers [] = Some []
numbers (word ∷ words) = both ◌∷◌ (number word) (numbers words)

-- The same, where there are at most four.
abbrev pub at_most_four : Option (List ℤ) → Option (List ℤ)
at_most_four None = None
at_most_four (Some zs) = cond (nat_le (length zs) 4) (Some zs) None

-- Numbers as items: a space and the number, one after the other.
abbrev pub items : List ℤ → List ℕ
items [] = []
items (z ∷ zs) = codes " " ++ (signed_decimal z ++ items zs)
