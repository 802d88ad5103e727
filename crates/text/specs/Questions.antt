-- Texts of an order, a machine and a formula, cut into their parts. Assumes nothing.
use Rattle.std.specs.Prelude.{ℕ, ◌+◌, Bool, cond, ◌&&◌, List, [], ◌∷◌, length, take, drop, Option, Some, None, option_map, Result, Err, nat_lt}
use Rattle.std.specs.Option.{option_map_or}
use Rattle.std.specs.Result.{result_map_both}
use Rattle.text.specs.declared.fault.Fault.{Fault}
use Rattle.text.specs.declared.fault.Fault.TheVariants.{TooLong}
use Rattle.text.specs.declared.order.TextOrder.{TextOrder}
use Rattle.text.specs.declared.question.Before.{Before}
use Rattle.text.specs.declared.question.Parts.{Parts}
use Rattle.text.specs.Lines.{newline, pieces, first_piece, is_line, first_word}
use Rattle.text.specs.Readings.{text_bound, first_line}
use Rattle.text.specs.FormulaTexts.{is_formula_word}

-- A line whose word formulas begin with.
abbrev pub is_formula_line : List ℕ → Bool
is_formula_line line = is_line line && is_formula_word (first_word line)

-- What comes before the first line of a formula: so many lines, or all where there is no such line, and so many bytes where
-- there is one.
abbrev pub before : ℕ → Option ℕ → Before
before lines bytes = record { lines = lines; bytes = bytes }

-- The same with a line more, which comes first.
abbrev pub line_before : List ℕ → Before → Before
line_before line b = before (b.lines + 1) (option_map (λ k. length line + 1 + k) b.bytes)

-- The same of a text in these pieces. No newline ends the last piece, which is no line.
abbrev pub before_formula : List (List ℕ) → Before
before_formula [] = before 0 None
before_formula (last ∷ []) = before 0 None
before_formula (line ∷ piece ∷ more) =
    cond (is_formula_line line) (before 0 (Some 0)) (line_before line (before_formula (piece ∷ more)))

-- A text cut into its parts: the order, the text of the machine, and that of the formula, if there is one.
pub record Question : Type 0 where
  pub order : TextOrder
  pub machine : List ℕ
  pub formula : Option (List ℕ)
  -- The lines before the formula's first, or all where there is none, with that of the order.
  pub lines : ℕ

-- The text after the line of the order, cut before the first line of a formula.
abbrev pub cut_at : TextOrder → List ℕ → Before → Question
cut_at order rest b = record {
  order = order;
  machine = option_map_or (λ n. take n rest) b.bytes rest;
  formula = option_map (λ n. drop n rest) b.bytes;
  lines = b.lines + 1;
}

-- The bytes after the first line.
abbrev pub after_line : List ℕ → List ℕ
after_line text = drop (length (first_piece (pieces newline text)) + 1) text

abbrev pub cut_after : List ℕ → TextOrder → Question
cut_after rest order = cut_at order rest (before_formula (pieces newline rest))

-- A text cut into its parts, or what is wrong with it in its first line.
abbrev pub question : List ℕ → Result Question Fault
question text =
    cond (nat_lt text_bound (length text)) (Err TooLong)
    (result_map_both (cut_after (after_line text)) (λ fault. fault) (first_line (pieces newline text)))

-- The parts that memory holds.
abbrev pub held_parts : Parts → Question
held_parts p = record {
  order = p.order;
  machine = p.machine.now;
  formula = option_map (λ bytes. bytes.now) p.formula;
  lines = p.lines;
}
