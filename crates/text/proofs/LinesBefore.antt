-- What comes before the first line of a formula, line by line. Assumes nothing.
use Rattle.std.proofs.Common.{◌≡◌, ℕ, suc, ◌+◌, ◌-◌, ◌<◌, ◌≤◌, true, false, cond, List, [], ◌∷◌, length, Option, Some, None, option_map, refl, ap, ◌∙◌, arith}
use Rattle.std.proofs.lemmas.Bool.{cond-true, cond-false}
use Rattle.std.proofs.lemmas.List.{length-append}
use Rattle.text.specs.declared.question.Before.{Before}
use Rattle.text.specs.Lines.{pieces}
use Rattle.text.specs.Questions.{is_formula_line, before, line_before, before_formula}
use Rattle.text.proofs.Pieces.{some_pieces, pieces_of_two}

-- The same with so many lines more before it, and so many bytes.
abbrev pub later : ℕ → ℕ → Before → Before
later lines bytes b = before (lines + b.lines) (option_map (λ k. bytes + k) b.bytes)

later_line : (lines bytes : ℕ) (line : List ℕ) (n : ℕ) (o : Option ℕ) → later lines bytes (line_before line (before n o)) ≡ later (lines + 1) (bytes + (length line + 1)) (before n o)
later_line lines bytes line n None = ap (λ k. before k None) (omega arith)
later_line lines bytes line n (Some k) = (λ i. before (p i) (Some (q i)))
  where
    p : lines + (n + 1) ≡ lines + 1 + n
    p = omega arith

    q : bytes + (length line + 1 + k) ≡ bytes + (length line + 1) + k
    q = omega arith

module _ (text left line rest : List ℕ) (lines : ℕ) (cut : pieces 10 left ≡ line ∷ pieces 10 rest) where
  abbrev start : ℕ
  start = length text - length left

  line_first : (ps : List (List ℕ)) → 0 < length ps → before_formula (line ∷ ps) ≡ cond (is_formula_line line) (before 0 (Some 0)) (line_before line (before_formula ps))
  line_first [] some = absurd (omega arith)
  line_first (p ∷ ps) some = refl

  first : before_formula (pieces 10 left) ≡ cond (is_formula_line line) (before 0 (Some 0)) (line_before line (before_formula (pieces 10 rest)))
  first = ap before_formula cut ∙ line_first (pieces 10 rest) (some_pieces 10 rest)

  pub before_found : is_formula_line line ≡ true → later lines start (before_formula (pieces 10 left)) ≡ before lines (Some start)
  before_found is = ap (later lines start) (first ∙ cond-true _ _ _ is) ∙ (λ i. before (p i) (Some (q i)))
    where
      p : lines + 0 ≡ lines
      p = omega arith

      q : start + 0 ≡ start
      q = omega arith

  pub before_after : is_formula_line line ≡ false → length left ≤ length text →
      later lines start (before_formula (pieces 10 left)) ≡ later (lines + 1) (length text - length rest) (before_formula (pieces 10 rest))
  before_after other within =
      let b = before_formula (pieces 10 rest) in
      ap (later lines start) (first ∙ cond-false _ _ _ other) ∙ later_line lines start line b.lines b.bytes ∙ ap (λ k. later (lines + 1) k b) bytes
    where
      sizes : length left ≡ length line + suc (length rest)
      sizes = ap length (pieces_of_two 10 left line rest cut) ∙ length-append line (10 ∷ rest)

      bytes : start + (length line + 1) ≡ length text - length rest
      bytes = omega (arith, sizes, within)

pub before_none : (text line : List ℕ) (lines bytes : ℕ) → pieces 10 text ≡ line ∷ [] → later lines bytes (before_formula (pieces 10 text)) ≡ before lines None
before_none text line lines bytes cut = ap (λ ps. later lines bytes (before_formula ps)) cut ∙ ap (λ k. before k None) (omega arith)

pub before_start : (text : List ℕ) → before_formula (pieces 10 text) ≡ later 0 (length text - length text) (before_formula (pieces 10 text))
before_start text = from (before_formula (pieces 10 text)).lines (before_formula (pieces 10 text)).bytes
  where
    from : (n : ℕ) (o : Option ℕ) → before n o ≡ later 0 (length text - length text) (before n o)
    from n None = ap (λ k. before k None) (omega arith)
    from n (Some k) = (λ i. before (p i) (Some (q i)))
      where
        p : n ≡ 0 + n
        p = omega arith

        q : k ≡ length text - length text + k
        q = omega arith
