-- Which bytes write a number, and which number. Assumes nothing.
use Rattle.std.proofs.Common.{◌≡◌, ◌≢◌, ℕ, zero, suc, ◌^◌, ◌<◌, ◌≤◌, Bool, true, false, cond, ◌&&◌, is_le, is_lt, int_cmp, ⊎_elim, List, [], ◌∷◌, length, get_or, Some, None, Ok, Err, Result, ℤ, pos, negsuc, neg_ℤ, refl, ap, sym, ◌∙◌, arith, rules}
use lib.Signed.{mag}
use mir.Syntax.{w64}
use mir.Val.{SFits, of_z, to_z}
use Rattle.std.specs.Bool.{then_some}
use Rattle.std.specs.Result.{result_ok}
use Rattle.std.specs.Fmt.{decimal, signed_decimal}
use Rattle.std.specs.Str.{IsUtf8}
use Rattle.std.specs.Str.Parse.{signed_digits_value, digits_value, AllDigits, IsNumeral, ParsesSigned, without_leading_sign}
use Rattle.std.proofs.lemmas.Int.{to_z-of_z}
use Rattle.std.proofs.lemmas.Fmt.{decimal_digit, decimal-digits_value, first_decimal, parse-signed_decimal, IsAscii-signed}
use Rattle.std.proofs.lemmas.Str.Parse.{numerals_by_value, tells_digits}
use Rattle.std.proofs.lemmas.Str.{IsUtf8-from_ascii}
use Rattle.std.proofs.lemmas.Slice.Eq.{bytes_eq-Decides}
use Rattle.std.proofs.lemmas.Bool.{cond-false, false_from_ne_true, and_parts, ltb-true, ne_eqb, eq-eqb, cases_eq}
use Rattle.std.proofs.lemmas.Bool.Decides.{nat_tests}
use Rattle.text.specs.Numbers.{number, is_small}

-- No number of a line is written so.
abbrev pub Unwritten : List ℕ → Type 0
Unwritten bs = (z : ℤ) → mag z < 2 ^ 32 → signed_decimal z ≡ bs → ⊥

pub no_number : (bs : List ℕ) → Unwritten bs → number bs ≡ None
no_number bs un =
    let z = signed_digits_value 10 bs in
    cond-false _ _ _ (false_from_ne_true _ (λ e. let p = and_parts (is_small z) _ e in un z (ltb-true _ _ p.0) ((bytes_eq-Decides _ bs).0 p.1)))

-- How a number that is written begins.
pub record Begins (bs : List ℕ) : Type 0 where
  pub plus : get_or bs 0 0 ≢ 43
  pub zeros : get_or bs 0 0 ≡ 48 → length bs ≡ 1
  pub negative : get_or bs 0 0 ≡ 45 → get_or bs 1 0 ≢ 48

written_begins : (z : ℤ) → mag z < 2 ^ 32 → Begins (signed_decimal z)
written_begins (pos zero) h = rw (decimal_digit 0 (omega arith)) (record { plus = search rules; zeros = λ _. refl; negative = λ e. search rules })
written_begins (pos (suc n)) h =
    let p : 48 < get_or (decimal (suc n)) 0 0 = first_decimal (suc n) (omega arith) (omega arith) in
    record { plus = omega arith; zeros = λ e. absurd (omega arith); negative = λ e. absurd (omega arith) }
written_begins (negsuc n) h =
    let p : 48 < get_or (decimal (suc n)) 0 0 = first_decimal (suc n) (omega arith) (omega arith) in
    record { plus = omega arith; zeros = λ e. absurd (omega arith); negative = λ _ e. omega arith }

-- What `parse` takes, and no number is written so: a plus, a zero before other digits, and a zero after a minus.
pub plus_none : (bs : List ℕ) → get_or bs 0 0 ≡ 43 → number bs ≡ None
plus_none bs h = no_number bs (λ z small e. (written_begins z small).plus (rw e h))

pub zero_none : (bs : List ℕ) → get_or bs 0 0 ≡ 48 → 2 ≤ length bs → number bs ≡ None
zero_none bs h l = no_number bs (λ z small e. let one : length bs ≡ 1 = rw e at ((written_begins z small).zeros (rw e h)) in omega arith)

pub minus_zero_none : (bs : List ℕ) → get_or bs 0 0 ≡ 45 → get_or bs 1 0 ≡ 48 → number bs ≡ None
minus_zero_none bs h l = no_number bs (λ z small e. (written_begins z small).negative (rw e h) (rw e l))

pub ruleset misspelled = (plus_none, zero_none, minus_zero_none)

-- What is no text, and what `parse` does not take.
pub no_text_none : (bs : List ℕ) → (IsUtf8 bs → ⊥) → number bs ≡ None
no_text_none bs h = no_number bs (λ z small e. h (rw e at (IsUtf8-from_ascii _ (IsAscii-signed z (omega arith)))))

pub unread_none : {E : Type 0} (bs : List ℕ) (r : Result ℤ E) → ParsesSigned w64 10 bs r → result_ok r ≡ None → number bs ≡ None
unread_none bs r p unread =
    no_number bs (λ z small e. let read = parse-signed_decimal w64 z bs r (record { sfits = omega arith }) (omega arith) (sym e) p in cc)

-- The digits of a numeral with no zero in front are what its value is written as.
digits_written : (ds : List ℕ) → IsNumeral 10 ds → (get_or ds 0 0 ≡ 48 → length ds ≡ 1) → digits_value 10 ds < 2 ^ 64 → decimal (digits_value 10 ds) ≡ ds
digits_written ds n one few = decimal-digits_value (numerals_by_value (AllDigits 10) tells_digits) ds n.1 n.0 one few

minus_written : (v : ℕ) (ds : List ℕ) → (v < 2 ^ 64 → decimal v ≡ ds) → get_or ds 0 0 ≢ 48 → SFits w64 (neg_ℤ (pos v)) → signed_decimal (neg_ℤ (pos v)) ≡ 45 ∷ ds
minus_written zero ds h nonzero fits = absurd (nonzero (rw (← (h (omega arith))) (rw (decimal_digit 0 (omega arith)))))
minus_written (suc k) ds h nonzero fits = ap (λ xs. 45 ∷ xs) (h (omega (arith, fits.sfits)))

spelled_back : (bs : List ℕ) → Begins bs → IsNumeral 10 (without_leading_sign bs) → SFits w64 (signed_digits_value 10 bs) → signed_decimal (signed_digits_value 10 bs) ≡ bs
spelled_back [] b n fits = absurd (omega (arith, n.0))
spelled_back (c ∷ cs) b n fits = ⊎_elim negative plain (cases_eq c 45)
  where
    negative : c ≡ 45 → signed_decimal (signed_digits_value 10 (c ∷ cs)) ≡ c ∷ cs
    negative e =
        let t = eq-eqb c 45 e in
        let digits = digits_written cs (rw t at n) (λ z. absurd (b.negative e z)) in
        rw (t, e) (minus_written _ cs digits (b.negative e) (rw t at fits))

    plain : (c ≡ 45 → ⊥) → signed_decimal (signed_digits_value 10 (c ∷ cs)) ≡ c ∷ cs
    plain other =
        let e = ne_eqb c 45 other in
        let p = ne_eqb c 43 b.plus in
        rw (e, p) (digits_written (c ∷ cs) (rw (e, p) at n) b.zeros (let f = rw (e, p) at fits in omega (arith, f.sfits)))

-- The range of the code is that of a small number.
small_range : (z : ℤ) → is_small z ≡ (is_le (int_cmp (negsuc 4294967295) z) && is_lt (int_cmp z (pos 4294967296)))
small_range (pos n) = grind (arith, nat_tests)
small_range (negsuc n) = grind (arith, nat_tests)

kept : (small same : Bool) (z : ℤ) → same ≡ true → then_some small z ≡ cond (small && same) (Some z) None
kept true same z e = rw e
kept false same z e = refl

-- What `parse` reads, where the bytes begin as a number that is written, if it is in the range.
pub read_number : {E : Type 0} (bs : List ℕ) (r : Result ℤ E) (z : ℤ) (inside : Bool) → ParsesSigned w64 10 bs r → result_ok r ≡ Some z → Begins bs →
    (let y = to_z w64 (of_z w64 z) in inside ≡ (is_le (int_cmp (negsuc 4294967295) y) && is_lt (int_cmp y (pos 4294967296))) → then_some inside y ≡ number bs)
read_number bs (Ok y) z inside p read b range =
    let v = signed_digits_value 10 bs in
    let same = (bytes_eq-Decides (signed_decimal v) bs).1 (spelled_back bs b p.0.0 p.0.1) in
    let fits : SFits w64 v = p.0.1 in
    let e : z ≡ v = cc in
    let small : inside ≡ is_small v = rw (e, to_z-of_z) at range ∙ sym (small_range v) in
    rw (small, e, to_z-of_z) (kept (is_small v) _ v same)
read_number bs (Err f) z inside p read b range = cc
