-- The bytes of words. Assumes nothing.
use Rattle.std.proofs.Common.{◌≡◌, ℕ, suc, ◌+◌, ◌-◌, ◌<◌, ◌≤◌, true, false, eqb, List, [], ◌∷◌, length, All, ℤ, pos, negsuc, decimal, refl, subst, eqb-true, arith}
use Rattle.std.specs.Fmt.{signed_decimal}
use Rattle.std.specs.List.{list_all}
use Rattle.std.specs.Str.Parse.{AllDigits}
use Rattle.std.proofs.lemmas.Bool.{agree_below_at, false_from_ne_true}
use Rattle.std.proofs.lemmas.List.Elements.{All-nil, All-cons, All-weaker}
use Rattle.std.proofs.lemmas.List.Sums.{AllPass-from_list_all}
use Rattle.std.proofs.lemmas.Fmt.{decimal_is_IsNumeral}
use Rattle.std.proofs.lemmas.Str.Parse.{digit_from_value}
use Rattle.text.specs.declared.word.Word.{Word}
use Rattle.text.specs.declared.word.Word.TheVariants.{Flags}
use Rattle.text.specs.Lines.{sort_of, is_word}
use Rattle.text.specs.Words.{letters_of}
use Rattle.text.proofs.WrittenNumbers.{Small, small_lt}
use Rattle.text.proofs.Pieces.{Lacks}

abbrev pub InWord : ℕ → Type 0
InWord b = is_word (sort_of b) ≡ true

-- Digits and a minus may stand in a word.
digit_in_word : (b : ℕ) → 48 ≤ b → b ≤ 57 → InWord b
digit_in_word b low high =
    let is : 48 + (b - 48) ≡ b = omega arith in
    subst InWord is (agree_below_at (λ k. is_word (sort_of (48 + k))) (λ k. true) 10 (b - 48) refl (omega arith))

digits_in_word : (ds : List ℕ) → AllDigits 10 ds → All InWord ds
digits_in_word [] digits = All-nil InWord
digits_in_word (c ∷ cs) digits =
    let digit = digit_from_value c digits.0 in
    All-cons InWord c cs (digit_in_word c digit.0 digit.1) (digits_in_word cs digits.1)

pub number_in_word : (z : ℤ) → Small z → All InWord (signed_decimal z)
number_in_word (pos n) small = digits_in_word (decimal n) (decimal_is_IsNumeral n (omega (arith, small_lt (pos n) small))).0.1
number_in_word (negsuc n) small = All-cons InWord 45 (decimal (suc n)) refl (digits_in_word (decimal (suc n)) (decimal_is_IsNumeral (suc n) (omega (arith, small_lt (negsuc n) small))).0.1)

pub number_begins : (z : ℤ) → Small z → 0 < length (signed_decimal z)
number_begins (pos n) small = (decimal_is_IsNumeral n (omega (arith, small_lt (pos n) small))).0.0
number_begins (negsuc n) small = omega arith

spelled_in_word : (w : Word) → list_all (λ b. is_word (sort_of b)) (letters_of w) ≡ true
spelled_in_word Flags = refl
spelled_in_word w = refl

pub letters_in_word : (w : Word) → All InWord (letters_of w)
letters_in_word w = AllPass-from_list_all (λ b. is_word (sort_of b)) (letters_of w) (spelled_in_word w)

-- A space and a newline may not.
pub not_in_word : (stop : ℕ) → is_word (sort_of stop) ≡ false → (bytes : List ℕ) → All InWord bytes → Lacks stop bytes
not_in_word stop is bytes all = All-weaker InWord (λ b. eqb b stop ≡ false) (λ b in_word. false_from_ne_true (eqb b stop) (λ yes. let same = eqb-true b stop yes in cc)) bytes all
