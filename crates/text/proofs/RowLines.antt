-- A line that says a row is the form of that row, and the form says the row, on the same side. Assumes nothing.
use Rattle.std.proofs.Common.{◌≡◌, ℕ, ◌≤◌, true, List, length, Option, Some, None, Ok, ℤ, All, drop, refl, ap, ◌∙◌, arith}
use Rattle.text.specs.declared.word.Word.{Word}
use Rattle.text.specs.declared.row.Shape.{Shape}
use Rattle.text.specs.declared.row.Row.{Row}
use Rattle.text.specs.declared.row.Due.{Due}
use Rattle.text.specs.Lines.{first_piece, is_line, words, first_word}
use Rattle.text.specs.Numbers.{numbers}
use Rattle.text.specs.Words.{word_of}
use Rattle.text.specs.Rows.{knows, is_due, side_at, side_of_line, row, row_with, row_by, row_of}
use Rattle.text.specs.Writings.{form}
use Rattle.text.proofs.NumberLists.{numbers_written}
use Rattle.text.proofs.WordsFound.{word_found}
use Rattle.text.proofs.FormPieces.{form_pieces}
use Rattle.text.proofs.FormLines.{form_is_line, line_is_form}
use Rattle.text.proofs.WrittenNumbers.{Small}

side_of_word : (due : Due) (l : List ℕ) (w : Word) → is_line l ≡ true → word_of (first_word l) ≡ Some w → side_of_line due l ≡ side_at due w
side_of_word due l w line found = rw (line, found)

first_of_form : (w : Word) (zs : List ℤ) → All Small zs → word_of (first_word (form w zs)) ≡ Some w
first_of_form w zs small = ap (λ ps. word_of (first_piece ps)) (form_pieces w zs small) ∙ word_found w

-- The form of a word is on the side where the word comes.
pub form_side : (due : Due) (w : Word) (zs : List ℤ) → length zs ≤ 4 → All Small zs → side_of_line due (form w zs) ≡ side_at due w
form_side due w zs few small = side_of_word due (form w zs) w (form_is_line w zs few small) (first_of_form w zs small)

module _ {L : Type 0} (understood : List ℤ → Option L) (shape : Shape) where
  -- The line is the form of a word that is due, which says the row with these numbers.
  pub record SaysRow (due : Due) (l : List ℕ) (r : Row L) : Type 0 where
    pub word : Word
    pub numbers : List ℤ
    pub known : knows shape word ≡ true
    pub may_come : is_due due word ≡ true
    pub says : row understood due word numbers ≡ Ok r
    pub is : l ≡ form word numbers
    pub on : side_of_line due l ≡ side_at due word

  module _ (due : Due) (l : List ℕ) (r : Row L) (line : is_line l ≡ true) where
    said_with : (w : Word) → word_of (first_word l) ≡ Some w → knows shape w ≡ true → is_due due w ≡ true → (zs : Option (List ℤ)) → numbers (drop 1 (words l)) ≡ zs → row_with understood due w zs ≡ Ok r → SaysRow due l r
    said_with w e known may None n h = cc
    said_with w e known may (Some zs) n h = record { word = w; numbers = zs; known = known; may_come = may; says = h; is = line_is_form l w zs line e n; on = side_of_word due l w line e }

    said_by : (o : Option Word) → word_of (first_word l) ≡ o → row_by understood shape due o (drop 1 (words l)) ≡ Ok r → SaysRow due l r
    said_by None e h = cc
    said_by (Some w) e h =
        let known : knows shape w ≡ true = grind arith in
        let may : is_due due w ≡ true = grind arith in
        said_with w e known may (numbers (drop 1 (words l))) refl (grind arith)

  pub row_said : (due : Due) (l : List ℕ) (r : Row L) → row_of understood shape due l ≡ Ok r → SaysRow due l r
  row_said due l r h = let line : is_line l ≡ true = grind arith in said_by due l r line (word_of (first_word l)) refl (grind arith)

  pub form_says : (due : Due) (w : Word) (zs : List ℤ) → length zs ≤ 4 → All Small zs → knows shape w ≡ true → is_due due w ≡ true → row_of understood shape due (form w zs) ≡ row understood due w zs
  form_says due w zs few small known may =
      rw (form_is_line w zs few small, form_pieces w zs small, word_found w, known, may, numbers_written zs small)
