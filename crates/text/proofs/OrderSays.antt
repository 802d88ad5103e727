-- What the first line of a text of two machines says, once its parts are known. Assumes nothing.
use Rattle.std.proofs.Common.{◌≡◌, ℕ, ◌<◌, length, arith, true, List, [], ◌∷◌, Some, ok_or, refl, ap, ◌∙◌}
use Rattle.std.proofs.lemmas.Bool.{cond-true}
use Rattle.text.specs.declared.fault.Fault.TheVariants.{WrongItems}
use Rattle.text.specs.declared.word.Word.{Word}
use Rattle.text.specs.Lines.{newline, pieces, is_line, inside, first_word}
use Rattle.text.specs.Words.{word_of}
use Rattle.text.specs.OrderLines.{is_order_word, order_named}
use Rattle.text.specs.Readings.{order_of, order_by, first_line}
use Rattle.text.proofs.Pieces.{some_pieces}

pub order_says : (line : List ℕ) (w : Word) → is_line line ≡ true → word_of (first_word line) ≡ Some w → is_order_word w ≡ true → order_of line ≡ ok_or (order_named (inside line)) WrongItems
order_says line w is found may = cond-true _ _ _ is ∙ ap (order_by line) found ∙ cond-true _ _ _ may

pub line_then : (line piece : List ℕ) (more : List (List ℕ)) → first_line (line ∷ piece ∷ more) ≡ order_of line
line_then [] piece more = refl
line_then (b ∷ bs) piece more = refl

first_of : (line : List ℕ) (ps : List (List ℕ)) → 0 < length ps → first_line (line ∷ ps) ≡ order_of line
first_of line [] h = absurd (omega arith)
first_of line (piece ∷ more) h = line_then line piece more

-- A line that a newline ends is what the order is read from.
pub line_first : (text line rest : List ℕ) → pieces newline text ≡ line ∷ pieces newline rest → first_line (pieces newline text) ≡ order_of line
line_first text line rest cut = ap first_line cut ∙ first_of line (pieces newline rest) (some_pieces newline rest)
