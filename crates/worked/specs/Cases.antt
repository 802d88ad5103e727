-- Cases worked by hand, as one statement about the definitions. Assumes nothing.
use Rattle.std.specs.Prelude.{◌≡◌, List, [], ◌∷◌, Bool, ℕ, ◌*◌, T, ℤ, pos, negsuc, take, replicate}
use Rattle.model.specs.declared.flags.FlagSet.{FlagSet}
use Rattle.model.specs.declared.band.Span.{Span}
use Rattle.model.specs.Orders.{flags_at_most, band_at_most, turned_at_most, exact_at_most}
use Rattle.model.specs.Machines.{Meaning, states, table_meaning, trace_meaning, beside_meaning}
use Rattle.until.specs.Formulas.{Formula, at, and, until, Holds}
use Rattle.strikes.specs.Told.{formula_of}
use Rattle.strikes.specs.declared.strike.Ground.TheVariants.{ByLabel, ByStep}
use Rattle.strikes.specs.declared.strike.Strike.{Strike}
use Rattle.sheet.specs.Memory.{Memory, memory, stands}
use Rattle.sheet.specs.Verdicts.{setting, strike, settled}
use Rattle.sheet.specs.Calls.{class_of}

abbrev pub label : ℕ → FlagSet
label bits = record { bits = bits }

-- From low to high; negsuc 2 is −3.
abbrev pub span : ℤ → ℤ → Span
span low high = record { low = low; high = high }

-- Labels 1 and 2 with a step from the first to the second.
abbrev pub two : Meaning FlagSet
two = table_meaning (label 1 ∷ label 2 ∷ []) (0 ∷ 1 ∷ 0 ∷ 0 ∷ [])

-- The label 1 alone.
abbrev pub one : Meaning FlagSet
one = table_meaning (label 1 ∷ []) (0 ∷ [])

-- Labels 1, 1 and 2 with a step from each to the next.
abbrev pub three : Meaning FlagSet
three = table_meaning (label 1 ∷ label 1 ∷ label 2 ∷ []) (0 ∷ 1 ∷ 0 ∷ 0 ∷ 0 ∷ 1 ∷ 0 ∷ 0 ∷ 0 ∷ [])

-- Labels 1 and 2 with a step from the first to the second, beside the label 1 alone.
abbrev pub two_beside_one : Meaning FlagSet
two_beside_one = beside_meaning (table_meaning (label 1 ∷ label 2 ∷ []) (0 ∷ 1 ∷ 0 ∷ 0 ∷ [])) (table_meaning (label 1 ∷ []) (0 ∷ []))

abbrev pub two_beside_three : Meaning FlagSet
two_beside_three = beside_meaning two three

-- A trace of three labels beside the two: their first states are 0 and 3.
abbrev pub trace_beside_two : ℕ → ℕ → ℕ → Meaning FlagSet
trace_beside_two a b c = beside_meaning (trace_meaning (label a ∷ label b ∷ label c ∷ [])) two

-- (until (at 1) (at 2))
abbrev pub one_until_two : Formula FlagSet
one_until_two = until (at (label 1)) (at (label 2))

-- What a place for a record holds before any strike.
abbrev pub blank : Strike
blank = strike 0 0 ByLabel

-- Memory where every pair stands and nothing is struck.
abbrev pub begun : ℕ → Memory
begun n = memory (replicate (n * n) 1) (replicate (n * n) blank) 0

-- The memory once the machine is settled, and the passes taken.
abbrev pub settled_on : Meaning FlagSet → Memory × ℕ
settled_on m = settled (setting flags_at_most m) (begun (states m))

abbrev pub strikes_on : Meaning FlagSet → List Strike
strikes_on m = take (settled_on m).0.made (settled_on m).0.records

abbrev pub class_on : Meaning FlagSet → ℕ → ℕ
class_on m s = class_of (states m) (settled_on m).0.pairs s

abbrev pub stands_on : Meaning FlagSet → ℕ → ℕ → Bool
stands_on m s t = stands (states m) (settled_on m).0.pairs s t

pub record WorkedByHand : Type 0 where
  pub flags_1_3 : T (flags_at_most (label 1) (label 3))
  pub flags_3_1 : T (flags_at_most (label 3) (label 1)) → ⊥
  pub turned_3_1 : T (turned_at_most flags_at_most (label 3) (label 1))
  pub exact_1_3 : T (exact_at_most flags_at_most (label 1) (label 3)) → ⊥
  pub band_wide_narrow : T (band_at_most (span (negsuc 2) (pos 12)) (span (pos 0) (pos 12)))
  pub band_narrow_wide : T (band_at_most (span (pos 0) (pos 12)) (span (negsuc 2) (pos 12))) → ⊥
  pub until_at_0 : Holds flags_at_most two_beside_one one_until_two 0
  pub until_at_1 : Holds flags_at_most two_beside_one one_until_two 1
  pub until_at_2 : Holds flags_at_most two_beside_one one_until_two 2 → ⊥
  -- five strikes in three passes; (0, 0), (1, 1), (2, 2) and (2, 0) stand
  pub settled_made : (settled_on two_beside_one).0.made ≡ 5
  pub settled_passes : (settled_on two_beside_one).1 ≡ 3
  pub settled_pairs : (settled_on two_beside_one).0.pairs ≡ 1 ∷ 0 ∷ 0 ∷ 0 ∷ 1 ∷ 0 ∷ 1 ∷ 0 ∷ 1 ∷ []
  pub settled_strikes : strikes_on two_beside_one ≡ strike 0 1 ByLabel ∷ strike 1 0 ByLabel ∷ strike 1 2 ByLabel ∷ strike 2 1 ByLabel ∷ strike 0 2 (ByStep 1) ∷ []
  -- the last strike's formula, by the four before it
  pub settled_formula : formula_of two_beside_one (strike 2 1 ByLabel ∷ strike 1 2 ByLabel ∷ strike 1 0 ByLabel ∷ strike 0 1 ByLabel ∷ []) (strike 0 2 (ByStep 1)) ≡ until (at (label 1)) (and (at (label 2)) (at (label 2)))
  -- a label twice in a row is as once
  pub class_of_0 : class_on two_beside_three 0 ≡ 0
  pub class_of_1 : class_on two_beside_three 1 ≡ 1
  pub class_of_2 : class_on two_beside_three 2 ≡ 0
  pub class_of_3 : class_on two_beside_three 3 ≡ 0
  pub class_of_4 : class_on two_beside_three 4 ≡ 1
  -- one state: nothing to strike
  pub one_made : (settled_on one).0.made ≡ 0
  pub one_passes : (settled_on one).1 ≡ 1
  pub one_class : class_on one 0 ≡ 0
  -- the trace 1, 1, 2 is below the two, and 1, 4, 2 is not
  pub trace_1_1_2 : T (stands_on (trace_beside_two 1 1 2) 0 3)
  pub trace_1_4_2 : T (stands_on (trace_beside_two 1 4 2) 0 3) → ⊥
