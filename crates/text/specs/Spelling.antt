-- Labels as numbers: how the labels of an order stand in a text. Assumes nothing.
use Rattle.std.specs.Prelude.{◌≡◌, ℕ, ◌^◌, ◌≤◌, Bool, cond, ◌&&◌, T, List, [], ◌∷◌, ◌++◌, length, Option, Some, None, ℤ, pos, negsuc, int_le, nat_lt, All}
use Rattle.std.specs.Option.{option_zip}
use Rattle.model.specs.declared.flags.FlagSet.{FlagSet}
use Rattle.model.specs.declared.band.Span.{Span}
use Rattle.text.specs.Numbers.{is_small, both}

-- What a kind of label owes: the numbers that write a label are those that it is read from, at most three, and small.
pub record Spelling {L : Type 0} (spelled : L → Option (List ℤ)) (understood : List ℤ → Option L) : Type 0 where
  pub back : (zs : List ℤ) (l : L) → understood zs ≡ Some l → spelled l ≡ Some zs
  pub forth : (zs : List ℤ) (l : L) → spelled l ≡ Some zs → understood zs ≡ Some l
  pub few : (zs : List ℤ) (l : L) → spelled l ≡ Some zs → length zs ≤ 3
  pub small : (zs : List ℤ) (l : L) → spelled l ≡ Some zs → All (λ z. T (is_small z)) zs

abbrev pub flag_set : ℕ → FlagSet
flag_set bits = record { bits = bits }

-- A set of flags is one number, from 0 to 4294967295.
abbrev pub flags_spelled : FlagSet → Option (List ℤ)
flags_spelled f = cond (nat_lt f.bits (2 ^ 32)) (Some (pos f.bits ∷ [])) None

abbrev pub flags_of : ℤ → Option FlagSet
flags_of (pos n) = cond (nat_lt n (2 ^ 32)) (Some (flag_set n)) None
flags_of (negsuc n) = None

abbrev pub flags_understood : List ℤ → Option FlagSet
flags_understood [] = None
flags_understood (z ∷ []) = flags_of z
flags_understood (z ∷ y ∷ zs) = None

abbrev pub span : ℤ → ℤ → Span
span low high = record { low = low; high = high }

-- The ends are from −32768 to 32767, and the low is not above the high.
abbrev pub fits : Span → Bool
fits s = int_le (negsuc 32767) s.low && (int_le s.low s.high && int_le s.high (pos 32767))

-- A band is its low and its high.
abbrev pub band_spelled : Span → Option (List ℤ)
band_spelled s = cond (fits s) (Some (s.low ∷ s.high ∷ [])) None

abbrev pub band_understood : List ℤ → Option Span
band_understood [] = None
band_understood (z ∷ []) = None
band_understood (y ∷ z ∷ []) = cond (fits (span y z)) (Some (span y z)) None
band_understood (x ∷ y ∷ z ∷ zs) = None

-- A pair of both is the flags, then the band.
abbrev pub both_spelled : FlagSet × Span → Option (List ℤ)
both_spelled l = both ◌++◌ (flags_spelled l.0) (band_spelled l.1)

abbrev pub both_understood : List ℤ → Option (FlagSet × Span)
both_understood [] = None
both_understood (z ∷ zs) = option_zip (flags_of z) (band_understood zs)
