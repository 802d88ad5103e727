-- Numbers are read from what they are written as, and from nothing else. Assumes nothing.
use Rattle.std.proofs.Common.{◌≡◌, ℕ, List, [], ◌∷◌, map, All, Some, ℤ, refl, sym, ap₂, subst}
use Rattle.std.specs.Fmt.{signed_decimal}
use Rattle.std.proofs.lemmas.List.Elements.{All-nil, All-cons, All-head, All-tail}
use Rattle.text.specs.Numbers.{number, numbers}
use Rattle.text.proofs.WrittenNumbers.{Small, number_written, number_is}
use Rattle.text.proofs.AllThere.{all_there}

pub numbers_written : (zs : List ℤ) → All Small zs → numbers (map signed_decimal zs) ≡ Some zs
numbers_written [] small = refl
numbers_written (z ∷ zs) small =
    let first = number_written z (All-head Small z zs small) in
    let others = numbers_written zs (All-tail Small z zs small) in
    rw (first, others)

abbrev NumbersWritten : List (List ℕ) → List ℤ → Type 0
NumbersWritten words zs = (words ≡ map signed_decimal zs) × All Small zs

pub numbers_are : (words : List (List ℕ)) (zs : List ℤ) → numbers words ≡ Some zs → (words ≡ map signed_decimal zs) × All Small zs
numbers_are [] zs is = let none : [] ≡ zs = cc in subst (NumbersWritten []) none (refl, All-nil Small)
numbers_are (word ∷ words) zs is =
    let all = all_there (number word) (numbers words) zs is in
    let first = number_is word all.first all.first_so in
    let others = numbers_are words all.others all.others_so in
    subst (NumbersWritten (word ∷ words)) (sym all.are) (ap₂ (λ f l. f ∷ l) first.0 others.0, All-cons Small all.first all.others first.1 others.1)
