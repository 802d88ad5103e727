-- A number is read from what it is written as, and from nothing else. Assumes nothing.
use Rattle.std.proofs.Common.{◌≡◌, ℕ, suc, ◌^◌, ◌<◌, cond, ◌&&◌, T, ltb→lt, lt→ltb, List, All, [], ◌∷◌, Some, None, ℤ, pos, negsuc, neg_ℤ, bytes_eq, decimal, refl, sym, ap, subst, ◌∙◌, ne_eqb, arith}
use lib.Signed.{mag}
use Rattle.std.specs.Fmt.{signed_decimal}
use Rattle.std.specs.Str.Parse.{digits_value, signed_digits_value, IsNumeral}
use Rattle.std.proofs.lemmas.Bool.{cond_both, and_parts, and_from}
use Rattle.std.proofs.lemmas.List.Elements.{All-nil, All-cons}
use Rattle.std.proofs.lemmas.Slice.Eq.{bytes_eq-Decides}
use Rattle.std.proofs.lemmas.Fmt.{decimal_is_IsNumeral}
use Rattle.std.proofs.lemmas.Str.Parse.{digit_from_value}
use Rattle.model.proofs.Tests.{holds_true, true_holds}
use Rattle.text.specs.Numbers.{is_small, written_as, number}

-- A number that a line may hold.
abbrev pub Small : ℤ → Type 0
Small z = T (is_small z)

pub small_lt : (z : ℤ) → Small z → mag z < 2 ^ 32
small_lt z small = ltb→lt (mag z) (2 ^ 32) small

pub number_small : (n : ℕ) → n < 2 ^ 32 → Small (pos n)
number_small n low = lt→ltb n (2 ^ 32) low

pub one_small : (z : ℤ) → Small z → All Small (z ∷ [])
one_small z small = All-cons Small z [] small (All-nil Small)

-- Digits have no sign before them.
digits_alone : (ds : List ℕ) → IsNumeral 10 ds → signed_digits_value 10 ds ≡ pos (digits_value 10 ds)
digits_alone [] is = absurd (omega (arith, is.0))
digits_alone (c ∷ cs) is =
    let digit = digit_from_value c is.1.0 in
    rw (ne_eqb c 45 (λ e. omega (arith, digit)), ne_eqb c 43 (λ e. omega (arith, digit)))

value_written : (z : ℤ) → Small z → signed_digits_value 10 (signed_decimal z) ≡ z
value_written (pos n) small =
    let is = decimal_is_IsNumeral n (omega (arith, small_lt (pos n) small)) in
    digits_alone (decimal n) is.0 ∙ ap pos is.1
value_written (negsuc n) small = ap (λ m. neg_ℤ (pos m)) (decimal_is_IsNumeral (suc n) (omega (arith, small_lt (negsuc n) small))).1

pub number_written : (z : ℤ) → Small z → number (signed_decimal z) ≡ Some z
number_written z small =
    ap (written_as (signed_decimal z)) (value_written z small)
    ∙ ap (λ b. cond b (Some z) None) (and_from _ _ (holds_true (is_small z) small) ((bytes_eq-Decides (signed_decimal z) (signed_decimal z)).1 refl))

written_as_is : (bytes : List ℕ) (y z : ℤ) → written_as bytes y ≡ Some z → (bytes ≡ signed_decimal z) × Small z
written_as_is bytes y z =
    cond_both (is_small y && bytes_eq (signed_decimal y) bytes) (Some y) None (λ r. r ≡ Some z → (bytes ≡ signed_decimal z) × Small z)
    (λ passes is. let parts = and_parts (is_small y) _ passes in let same : y ≡ z = cc in
    subst (λ x. (bytes ≡ signed_decimal x) × Small x) same (sym ((bytes_eq-Decides (signed_decimal y) bytes).0 parts.1), true_holds _ parts.0))
    (λ fails is. cc)

pub number_is : (bytes : List ℕ) (z : ℤ) → number bytes ≡ Some z → (bytes ≡ signed_decimal z) × Small z
number_is bytes z is = written_as_is bytes (signed_digits_value 10 bytes) z is
