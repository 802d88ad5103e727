-- A word is found by its letters, and by no others. Assumes nothing.
use Rattle.std.proofs.Common.{◌≡◌, ℕ, Bool, true, List, [], ◌∷◌, Some, bytes_eq, refl, sym, ap, ◌∙◌}
use Rattle.std.specs.List.{find}
use Rattle.std.proofs.lemmas.Bool.{cond_both}
use Rattle.std.proofs.lemmas.Slice.Eq.{bytes_eq-Decides}
use Rattle.text.specs.declared.word.Word.{Word}
use Rattle.text.specs.declared.word.Word.TheVariants.{Flags}
use Rattle.text.specs.Words.{letters_of, all_words, word_of}

pub word_found : (w : Word) → word_of (letters_of w) ≡ Some w
word_found Flags = refl
word_found w = refl

pub found_passes : {A : Type 0} (test : A → Bool) (xs : List A) (x : A) → find test xs ≡ Some x → test x ≡ true
found_passes test [] x is = cc
found_passes test (y ∷ ys) x is =
    cond_both (test y) (Some y) (find test ys) (λ r. r ≡ Some x → test x ≡ true)
    (λ yes is. let same : x ≡ y = cc in ap test same ∙ yes)
    (λ no is. found_passes test ys x is)
    is

pub word_is : (bytes : List ℕ) (w : Word) → word_of bytes ≡ Some w → bytes ≡ letters_of w
word_is bytes w is = sym ((bytes_eq-Decides (letters_of w) bytes).0 (found_passes (λ v. bytes_eq (letters_of v) bytes) all_words w is))
