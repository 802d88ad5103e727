-- What is joined, where it is there: two, or the first of a list and the others. Assumes nothing.
use Rattle.std.proofs.Common.{◌≡◌, List, ◌∷◌, Option, Some, None, refl}
use Rattle.text.specs.Numbers.{both}

pub record AllThere {A : Type 0} (o : Option A) (rest : Option (List A)) (xs : List A) : Type 0 where
  pub first : A
  pub others : List A
  pub first_so : o ≡ Some first
  pub others_so : rest ≡ Some others
  pub are : xs ≡ first ∷ others

pub all_there : {A : Type 0} (o : Option A) (rest : Option (List A)) (xs : List A) → both ◌∷◌ o rest ≡ Some xs → AllThere o rest xs
all_there None rest xs is = cc
all_there (Some x) None xs is = cc
all_there (Some x) (Some others) xs is = record { first = x; others = others; first_so = refl; others_so = refl; are = cc }

pub record BothParts {A B C : Type 0} (join : A → B → C) (a : Option A) (b : Option B) (c : C) : Type 0 where
  pub first : A
  pub second : B
  pub first_so : a ≡ Some first
  pub second_so : b ≡ Some second
  pub are : join first second ≡ c

pub both_parts : {A B C : Type 0} (join : A → B → C) (a : Option A) (b : Option B) (c : C) → both join a b ≡ Some c → BothParts join a b c
both_parts join None b c is = cc
both_parts join (Some x) None c is = cc
both_parts join (Some x) (Some y) c is = record { first = x; second = y; first_so = refl; second_so = refl; are = cc }
