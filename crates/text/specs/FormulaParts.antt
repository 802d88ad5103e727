-- Formulas whose labels are bytes, and where they stand in front of others. Assumes nothing.
use Rattle.std.specs.Prelude.{◌≡◌, ℕ, suc, ◌+◌, ◌*◌, ◌≤◌, ◌<◌, ◌==◌, max, false, List, [], ◌∷◌, ◌++◌, length, map, All, Option, Some, None, option_map, option_and_then, Result, Err, MatchResult, IsOkAnd, IsSomeAnd, MatchOption, ok_or, ℤ, codes}
use denote.Ref.{Bor}
use Rattle.until.specs.Formulas.{Formula, truth, at, and, until}
use Rattle.until.specs.declared.formula.Line.{Line}
use Rattle.until.specs.declared.formula.Line.TheVariants.{True, At, And, Until}
use Rattle.text.specs.Lines.{newline, space, pieces}
use Rattle.text.specs.Numbers.{both, numbers}
use Rattle.arrayvec.specs.ArrayVec.{ArrayVec}
use Rattle.text.specs.declared.fault.Fault.{Fault}
use Rattle.text.specs.declared.fault.Fault.TheVariants.{WrongItems}
use Rattle.text.specs.declared.fault.Refused.{Refused}
use Rattle.text.specs.FormulaTexts.{letters_by, flat, line_checked, line_in, Writes, alone}

-- The line with its label changed so.
abbrev pub line_with : {A B : Type 0} → (A → B) → Line A → Line B
line_with f True = True
line_with f (At a) = At (f a)
line_with f (And i j) = And i j
line_with f (Until i j) = Until i j

abbrev pub shown : List (Line (Bor (List ℕ))) → List (Line (List ℕ))
shown lines = map (line_with (λ b. b.now)) lines

-- How a formula is written whose labels are the bytes after a space.
abbrev pub bytes_of : Formula (List ℕ) → List ℕ
bytes_of F = letters_by (λ bytes. codes " " ++ bytes) F

-- The bytes of a label: some, and no closing bracket.
pub record Label (bytes : List ℕ) : Type 0 where
  pub any : 0 < length bytes
  pub unclosed : All (λ b. (b == 41) ≡ false) bytes

-- A label stands with its closing bracket in front of the rest of some bytes.
pub record LabelFront (bytes label rest : List ℕ) : Type 0 where
  pub labelled : Label label
  pub is : bytes ≡ label ++ 41 ∷ rest

-- All labels are such bytes.
abbrev pub Labelled : Formula (List ℕ) → Type 0
Labelled truth = Unit {0}
Labelled (at bytes) = Label bytes
Labelled (and F G) = Labelled F × Labelled G
Labelled (until F G) = Labelled F × Labelled G

-- How deep its brackets are nested.
abbrev pub nesting : {L : Type 0} → Formula L → ℕ
nesting truth = 1
nesting (at a) = 1
nesting (and F G) = suc (max (nesting F) (nesting G))
nesting (until F G) = suc (max (nesting F) (nesting G))

-- A formula stands in front of the rest of some bytes.
pub record Front (bytes : List ℕ) (F : Formula (List ℕ)) (rest : List ℕ) : Type 0 where
  pub labelled : Labelled F
  pub is : bytes ≡ bytes_of F ++ rest

-- A formula stands in front, and its lines come after those before.
pub record Reads (bytes rest : List ℕ) (before after : List (Line (List ℕ))) : Type 0 where
  pub formula : Formula (List ℕ)
  pub front : Front bytes formula rest
  pub lines : after ≡ before ++ flat (length before) formula

-- No formula of so many brackets at most, one in the other, stands in front of bytes that begin so.
abbrev pub NoFront : ℕ → List ℕ → List ℕ → Type 0
NoFront depth bytes next = (F : Formula (List ℕ)) (rest : List ℕ) → nesting F ≤ depth → Front bytes F (next ++ rest) → ⊥

-- Room for the lines of what stands in front: 13 times a formula's lines are at most twice its bytes and 1, and 1040 is 13 times
-- the places.
abbrev pub HasRoom : List (Line (Bor (List ℕ))) → List ℕ → Type 0
HasRoom lines bytes = 13 * length lines + 2 * length bytes ≤ 1040

module _ {L : Type 0} (understood : List ℤ → Option L) where
  -- The label whose numbers the bytes are, with a space between them.
  abbrev pub label_of : List ℕ → Option L
  label_of bytes = option_and_then understood (numbers (pieces space bytes))

  abbrev pub line_of : Line (List ℕ) → Option (Line L)
  line_of True = Some True
  line_of (At bytes) = option_map At (label_of bytes)
  line_of (And i j) = Some (And i j)
  line_of (Until i j) = Some (Until i j)

  -- The lines with their labels understood, where each is.
  abbrev pub lines_of : List (Line (List ℕ)) → Option (List (Line L))
  lines_of [] = Some []
  lines_of (l ∷ ls) = both ◌∷◌ (line_of l) (lines_of ls)

module _ {L : Type 0} (understood : List ℤ → Option L) where
  -- Lines of bytes whose labels are understood as those of the formula.
  abbrev pub AreLinesOf : Formula L → ArrayVec (Line (Bor (List ℕ))) → Type 0
  AreLinesOf F lines = lines_of understood (shown lines.items) ≡ Some (flat 0 F)

  -- The lines of the formula that is said, or why none is.
  abbrev pub Gives : {E : Type 0} → Result (Formula L) E → Result (ArrayVec (Line (Bor (List ℕ)))) E → Type 0
  Gives said r = MatchResult said (λ F. IsOkAnd r (AreLinesOf F)) (λ e. r ≡ Err e)

  -- The lines of the formula that a line writes, or none.
  pub record ReadsItems (line : List ℕ) (r : Option (ArrayVec (Line (Bor (List ℕ))))) : Type 0 where
    pub formula : Option (Formula L)
    pub writes : Writes understood line formula
    pub gives : MatchOption formula (r ≡ None) (λ F. IsSomeAnd r (AreLinesOf F))

  -- The same with a fault where there is none, or why the line is refused before.
  abbrev pub ReadsLine : List ℕ → Result (ArrayVec (Line (Bor (List ℕ)))) Fault → Type 0
  ReadsLine line r =
      MatchResult (line_checked line)
      (λ _. (F : Option (Formula L)) × Writes understood line F × Gives (ok_or F WrongItems) r)
      (λ fault. r ≡ Err fault)

  -- The lines of the formula that a text says, or why it says none.
  abbrev pub ReadsText : List ℕ → Result (ArrayVec (Line (Bor (List ℕ)))) (Refused ℕ) → Type 0
  ReadsText text r =
      MatchResult (line_in (pieces newline text))
      (λ line. (F : Option (Formula L)) × Writes understood line F × Gives (alone understood F (pieces newline text)) r)
      (λ e. r ≡ Err e)
