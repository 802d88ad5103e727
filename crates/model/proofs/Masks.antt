-- `a & b == a` says that each flag of a is in b. Assumes nothing.
use Rattle.std.proofs.Common.{◌≡◌, ℕ, ◌^◌, ◌<◌, not, ◌||◌, eqb, Decides, refl, ap, arith}
use Rattle.std.specs.Int.{bit_at}
use Rattle.std.specs.Int.Bits.{bit_and, and_lt}
use Rattle.std.proofs.lemmas.Nat.Bits.{bit_at_and, bit_at-lt, same_from_bits_below}
use Rattle.std.proofs.lemmas.Bool.Decides.{nat_tests, Decides-below_and, same_from_decides, Decides-eqb, Decides-at, Decides-like}
use Rattle.model.specs.declared.flags.FlagSet.{FlagSet}
use Rattle.model.specs.Orders.{has, within, flags_at_most, Within, flag_count}

-- the test of each flag below k, by what it says of one
within_says : {P : ℕ → Type 0} (a b : FlagSet) → ((i : ℕ) → Decides (not (has a i) || has b i) (P i)) → (k : ℕ) → Decides (within k a b) ((i : ℕ) → i < k → P i)
within_says {P} a b each = Decides-below_and (λ i. not (has a i) || has b i) P (λ k. within k a b) each refl (λ _. refl)

-- the bit of one flag
one_bit : (a b : FlagSet) (i : ℕ) → Decides (not (has a i) || has b i) (bit_at (bit_and a.bits b.bits) i ≡ bit_at a.bits i)
one_bit a b i = grind (arith, nat_tests, bit_at_and a.bits b.bits i, bit_at-lt a.bits i, bit_at-lt b.bits i)

pub masked : (a b : FlagSet) → a.bits < 2 ^ 32 → b.bits < 2 ^ 32 → eqb (bit_and a.bits b.bits) a.bits ≡ flags_at_most a b
masked a b p q =
    same_from_decides _ _
    (Decides-eqb (bit_and a.bits b.bits) a.bits)
    (Decides-like _
    (same_from_bits_below 32 _ _ (and_lt 32 a.bits b.bits p q) p)
    (λ e i _. ap (λ n. bit_at n i) e)
    (within_says a b (one_bit a b) flag_count))

pub mask_means : (a b : FlagSet) → a.bits < 2 ^ 32 → b.bits < 2 ^ 32 → Decides (eqb (bit_and a.bits b.bits) a.bits) (Within a b)
mask_means a b p q = Decides-at _ _ (masked a b p q) (within_says a b (λ i. grind arith) flag_count)
