-- Formulas in texts: how one is written, its numbered lines, and what reading one leaves in memory. Assumes nothing.
use Rattle.std.specs.Prelude.{◌≡◌, ℕ, ◌+◌, ◌-◌, max, Bool, cond, ◌||◌, List, [], ◌∷◌, ◌++◌, length, Option, Some, None, option_map, Result, Ok, Err, MatchResult, nat_lt, ℤ, bytes_eq, codes}
use Rattle.std.specs.Result.{result_map_both}
use Rattle.model.specs.Memory.{over}
use Rattle.until.specs.Formulas.{Formula, truth, at, and, until}
use Rattle.until.specs.declared.formula.Line.{Line}
use Rattle.until.specs.declared.formula.Line.TheVariants.{True, At, And, Until}
use Rattle.text.specs.declared.fault.Fault.{Fault}
use Rattle.text.specs.declared.fault.Fault.TheVariants.{NoForm, UnknownWord, WrongItems, OutOfOrder, TooDeep}
use Rattle.text.specs.declared.fault.Refused.{Refused}
use Rattle.text.specs.Faults.{refused_at}
use Rattle.text.specs.Lines.{newline, pieces, sort_of, depth_after, is_line, first_word}
use Rattle.text.specs.Numbers.{both, items}
use Rattle.text.specs.Readings.{unless_refused}

-- How a formula is written, where its labels are written so.
abbrev pub letters_by : {L : Type 0} → (L → List ℕ) → Formula L → List ℕ
letters_by label truth = codes "(true)"
letters_by label (at a) = codes "(at" ++ (label a ++ codes ")")
letters_by label (and F G) = codes "(and " ++ (letters_by label F ++ (codes " " ++ (letters_by label G ++ codes ")")))
letters_by label (until F G) = codes "(until " ++ (letters_by label F ++ (codes " " ++ (letters_by label G ++ codes ")")))

-- How a formula whose labels are numbers is written.
abbrev pub letters : Formula (List ℤ) → List ℕ
letters F = letters_by items F

-- The formula with its labels read, where each is read.
abbrev pub formula_by : {A L : Type 0} → (A → Option L) → Formula A → Option (Formula L)
formula_by label truth = Some truth
formula_by label (at a) = option_map at (label a)
formula_by label (and F G) = both and (formula_by label F) (formula_by label G)
formula_by label (until F G) = both until (formula_by label F) (formula_by label G)

module _ {L : Type 0} where
  -- How many numbered lines a formula has.
  abbrev pub size : Formula L → ℕ
  size truth = 1
  size (at a) = 1
  size (and F G) = size F + size G + 1
  size (until F G) = size F + size G + 1

  -- The number of its own line, which is its last, where the first is line k.
  abbrev pub own : ℕ → Formula L → ℕ
  own k F = k + size F - 1

  -- Its lines from line k on: those of its parts, the first before the second, and then its own.
  abbrev pub flat : ℕ → Formula L → List (Line L)
  flat k truth = True ∷ []
  flat k (at a) = At a ∷ []
  flat k (and F G) = flat k F ++ (flat (k + size F) G ++ And (own k F) (own (k + size F) G) ∷ [])
  flat k (until F G) = flat k F ++ (flat (k + size F) G ++ Until (own k F) (own (k + size F) G) ∷ [])

-- The deepest that the brackets of a line may be nested, and the memory that reading a formula needs.
abbrev pub nesting_bound : ℕ
nesting_bound = 32

abbrev pub formula_places : ℕ
formula_places = 80

-- The most brackets that are open at once, where so many are open before.
abbrev pub deepest : ℕ → List ℕ → ℕ
deepest depth [] = depth
deepest depth (b ∷ bs) = max depth (deepest (depth_after (sort_of b) depth) bs)

-- The words that formulas begin with.
abbrev pub is_formula_word : List ℕ → Bool
is_formula_word word =
    bytes_eq word (codes "true") || (bytes_eq word (codes "at") || (bytes_eq word (codes "and") || bytes_eq word (codes "until")))

-- What a line of a formula is refused for before its items are looked at.
abbrev pub line_checked : List ℕ → Result (Unit {0}) Fault
line_checked line =
    cond (is_line line) (cond (nat_lt nesting_bound (deepest 0 line)) (Err TooDeep)
    (cond (is_formula_word (first_word line)) (Ok tt) (Err UnknownWord))) (Err NoForm)

-- The line, unless it has a fault, which gains its place: line 1.
abbrev pub placed_first : List ℕ → Result (Unit {0}) Fault → Result (List ℕ) (Refused ℕ)
placed_first line checked = result_map_both (λ _. line) (λ fault. refused_at fault 1) checked

-- The line whose items are looked at, or why a text in these pieces is refused before.
abbrev pub line_in : List (List ℕ) → Result (List ℕ) (Refused ℕ)
line_in [] = Err (refused_at OutOfOrder 1)
line_in ([] ∷ []) = Err (refused_at OutOfOrder 1)
line_in ((b ∷ bs) ∷ []) = Err (refused_at NoForm 1)
line_in (line ∷ piece ∷ more) = placed_first line (line_checked line)

module _ {L : Type 0} (understood : List ℤ → Option L) where
  -- The label that numbers write. In a formula they are at least one.
  abbrev pub formula_label : List ℤ → Option L
  formula_label [] = None
  formula_label (z ∷ zs) = understood (z ∷ zs)

  -- The formula that a line writes, or none: the line is not how a formula is written whose labels are all understood.
  abbrev pub Writes : List ℕ → Option (Formula L) → Type 0
  Writes line None = (F : Formula (List ℤ)) → letters F ≡ line → formula_by formula_label F ≡ None
  Writes line (Some G) = (F : Formula (List ℤ)) × (letters F ≡ line) × (formula_by formula_label F ≡ Some G)

  -- What a text in these pieces says whose first line writes this formula or none: nothing may come after the newline.
  abbrev pub alone : Option (Formula L) → List (List ℕ) → Result (Formula L) (Refused ℕ)
  alone None ps = Err (refused_at WrongItems 1)
  alone (Some F) (line ∷ [] ∷ []) = Ok F
  alone (Some F) ps = Err (refused_at OutOfOrder 2)

  -- What a text says, or why it is refused where there is memory for so many lines.
  abbrev pub FormulaSaid : List ℕ → ℕ → Result (Formula L) (Refused ℕ) → Type 0
  FormulaSaid text room said =
      MatchResult (unless_refused text 1 (nat_lt room formula_places) (line_in (pieces newline text)))
      (λ line. (F : Option (Formula L)) × Writes line F × (said ≡ alone F (pieces newline text)))
      (λ e. said ≡ Err e)

  -- Reading a formula answers how many lines it has, which memory then begins with; a refusal leaves memory.
  pub record ReadsFormula (text : List ℕ) (memory : List (Line L)) (r : Result ℕ (Refused ℕ)) (after : List (Line L)) : Type 0 where
    pub said : Result (Formula L) (Refused ℕ)
    pub says : FormulaSaid text (length memory) said
    pub answers : MatchResult said (λ F. (r ≡ Ok (size F)) × (after ≡ over (flat 0 F) memory)) (λ e. (r ≡ Err e) × (after ≡ memory))

  -- No text says two things, so that reading one has one answer.
  abbrev pub SaysOne : Type 0
  SaysOne = (text : List ℕ) (room : ℕ) (s t : Result (Formula L) (Refused ℕ)) →
      FormulaSaid text room s → FormulaSaid text room t → s ≡ t
