-- What the tests of a call find. Assumes nothing.
use Rattle.std.proofs.Common.{◌≡◌, ℕ, Bool, cond, List, [], ◌∷◌, ◌++◌, Some, refl, arith}
use Rattle.std.proofs.lemmas.Bool.Decides.{nat_tests}
use Rattle.std.specs.Option.{option_or}
use Rattle.model.specs.Refusals.{cause}
use Rattle.sheet.specs.declared.sheet.Sheet.{Sheet}
use Rattle.sheet.specs.Causes.{any_outside, number_tests}

-- tests, and then more of them
pub cause_append : (tests more : List (Bool × ℕ)) → cause (tests ++ more) ≡ option_or (cause tests) (cause more)
cause_append [] more = refl
cause_append (test ∷ tests) more = let later = cause_append tests more in grind (arith, nat_tests)

-- the numbers that a call is given, each tested in its turn, and together
pub numbers_cause : (sheet : Sheet) (numbers : List ℕ) (more : List (Bool × ℕ)) → cause (number_tests sheet numbers ++ more) ≡ cond (any_outside sheet numbers) (Some 7) (cause more)
numbers_cause sheet [] more = refl
numbers_cause sheet (s ∷ ss) more = let later = numbers_cause sheet ss more in grind (arith, nat_tests)
