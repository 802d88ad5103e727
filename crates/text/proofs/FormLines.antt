-- Forms as lines: what a line of a word and numbers is cut into, and which line gives them back. Assumes nothing.
use Rattle.std.proofs.Common.{◌≡◌, ℕ, ◌≤◌, true, List, [], ◌∷◌, ◌++◌, drop, length, All, Some, ℤ, codes, refl, ap, ap₂, ◌∙◌, append_assoc, le-leb, arith}
use Rattle.std.proofs.lemmas.Bool.{and_from}
use Rattle.text.specs.declared.form.Sort.TheVariants.{Letter}
use Rattle.text.specs.declared.word.Word.{Word}
use Rattle.text.specs.declared.word.Word.TheVariants.{Flags}
use Rattle.text.specs.Lines.{newline, space, pieces, is_form, is_line, line_bound, inside, words, first_word}
use Rattle.text.specs.Numbers.{numbers, items}
use Rattle.text.specs.Words.{letters_of, word_of}
use Rattle.text.specs.Writings.{form}
use Rattle.text.proofs.Closing.{items_close}
use Rattle.text.proofs.FormPieces.{joined_items}
use Rattle.text.proofs.LineBytes.{line_in_brackets, line_lacks}
use Rattle.text.proofs.Pieces.{some_pieces, first_and_others, pieces_front, pieces_joined}
use Rattle.text.proofs.WrittenNumbers.{Small}
use Rattle.text.proofs.NumberLists.{numbers_are}
use Rattle.text.proofs.WordsFound.{word_is}
use Rattle.text.proofs.FormLength.{form_length}

form_is_form : (w : Word) (zs : List ℤ) → All Small zs → is_form (form w zs) ≡ true
form_is_form Flags zs small = items_close zs small Letter refl
form_is_form w zs small = items_close zs small Letter refl

pub form_is_line : (w : Word) (zs : List ℤ) → length zs ≤ 4 → All Small zs → is_line (form w zs) ≡ true
form_is_line w zs few small =
    let short : length (form w zs) ≤ line_bound = omega (arith, form_length w zs small) in
    and_from _ _ (le-leb (length (form w zs)) line_bound short) (form_is_form w zs small)

pub line_is_form : (l : List ℕ) (w : Word) (zs : List ℤ) → is_line l ≡ true → word_of (first_word l) ≡ Some w → numbers (drop 1 (words l)) ≡ Some zs → l ≡ form w zs
line_is_form l w zs line found read =
    let cut = first_and_others (words l) (some_pieces space (inside l)) in
    let parts = ap₂ (λ f o. f ∷ o) (word_is (first_word l) w found) (numbers_are (drop 1 (words l)) zs read).0 in
    let within = pieces_joined space (inside l) _ (cut ∙ parts) ∙ joined_items (letters_of w) zs in
    line_in_brackets l line ∙ ap (λ f. 40 ∷ (f ++ 41 ∷ [])) within ∙ ap (λ f. 40 ∷ f) (append_assoc (letters_of w) (items zs) (codes ")"))

-- A line is one piece of a text.
pub line_has_no_newline : (l rest : List ℕ) → is_line l ≡ true → pieces newline (l ++ newline ∷ rest) ≡ l ∷ pieces newline rest
line_has_no_newline l rest line = pieces_front newline l rest (line_lacks l line)
