-- How long forms are. Assumes nothing.
use Rattle.std.proofs.Common.{◌+◌, ◌*◌, ◌≤◌, List, [], ◌∷◌, ◌++◌, length, All, ℤ, codes, length-append, arith}
use Rattle.std.specs.Fmt.{signed_decimal}
use Rattle.std.proofs.lemmas.Fmt.{length_signed_le}
use Rattle.std.proofs.lemmas.List.Elements.{All-head, All-tail}
use Rattle.text.specs.declared.word.Word.{Word}
use Rattle.text.specs.declared.word.Word.TheVariants.{Flags}
use Rattle.text.specs.Numbers.{items}
use Rattle.text.specs.Words.{letters_of}
use Rattle.text.specs.Writings.{form}
use Rattle.text.proofs.WrittenNumbers.{Small, small_lt}

number_length : (z : ℤ) → Small z → length (signed_decimal z) ≤ 11
number_length z small = let low = small_lt z small in length_signed_le 10 z (omega arith) (omega arith)

pub items_length : (zs : List ℤ) → All Small zs → length (items zs) ≤ 12 * length zs
items_length [] small = omega arith
items_length (z ∷ zs) small =
    let first = number_length z (All-head Small z zs small) in
    let others = items_length zs (All-tail Small z zs small) in
    omega (arith, length-append (signed_decimal z) (items zs))

letters_length : (w : Word) → length (letters_of w) ≤ 7
letters_length Flags = omega arith
letters_length w = omega arith

pub form_length : (w : Word) (zs : List ℤ) → All Small zs → length (form w zs) ≤ 9 + 12 * length zs
form_length w zs small =
    omega (arith, letters_length w, items_length zs small, length-append (letters_of w) (items zs ++ codes ")"), length-append (items zs) (codes ")"))
