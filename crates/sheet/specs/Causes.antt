-- The tests of each call on a sheet, in rising order of their numbers, as lists that its checks share. Assumes nothing.
use Rattle.std.specs.Prelude.{ℕ, ◌*◌, Bool, not, List, [], ◌∷◌, ◌++◌, length, is_some, ◌==◌, nat_lt}
use Rattle.std.specs.List.{list_any}
use Rattle.model.specs.Machines.{Meaning, states}
use Rattle.strikes.specs.declared.strike.Strike.{Strike}
use Rattle.sheet.specs.declared.sheet.Sheet.{Sheet}
use Rattle.sheet.specs.Memory.{stands}
use Rattle.sheet.specs.Verdicts.{answered}
use Rattle.sheet.specs.Pages.{Page, short_pairs, short_records, outside, unlike, record_of}

-- One of the numbers is no state of the sheet.
abbrev pub any_outside : Sheet → List ℕ → Bool
any_outside sheet numbers = list_any (outside sheet) numbers

-- Whether it is no state, asked of each number in turn.
abbrev pub number_tests : Sheet → List ℕ → List (Bool × ℕ)
number_tests sheet [] = []
number_tests sheet (s ∷ ss) = (outside sheet s, 7) ∷ number_tests sheet ss

-- What every call tests of its sheet beside memory, with the numbers that it is given, on a machine of n states.
abbrev pub own_tests : ℕ → Sheet → List ℕ → List ℕ → List (Bool × ℕ)
own_tests n sheet pairs numbers = number_tests sheet numbers ++ (unlike n sheet pairs, 8) ∷ []

abbrev pub sheet_tests : ℕ → Sheet → List ℕ → List ℕ → List (Bool × ℕ)
sheet_tests n sheet pairs numbers = (short_pairs sheet pairs, 6) ∷ own_tests n sheet pairs numbers

-- What a call that has strike memory tests.
abbrev pub page_tests : ℕ → Page → List ℕ → List (Bool × ℕ)
page_tests n p numbers = (short_pairs p.sheet p.pairs, 6) ∷ (short_records p.sheet p.records, 6) ∷ own_tests n p.sheet p.pairs numbers

-- What a call that needs a settled sheet tests.
abbrev pub settled_tests : ℕ → Sheet → List ℕ → List ℕ → List (Bool × ℕ)
settled_tests n sheet pairs numbers = sheet_tests n sheet pairs numbers ++ (not sheet.settled, 9) ∷ []

abbrev pub begin_tests : ℕ → List ℕ → List Strike → List (Bool × ℕ)
begin_tests n pairs records = ((n == 0), 5) ∷ (nat_lt (length pairs) (n * n), 6) ∷ (nat_lt (length records) (n * n), 6) ∷ []

abbrev pub try_tests : ℕ → Page → ℕ → ℕ → List (Bool × ℕ)
try_tests n p s t = page_tests n p (s ∷ t ∷ [])

abbrev pub sweep_tests : ℕ → Page → ℕ → List (Bool × ℕ)
sweep_tests n p s = page_tests n p (s ∷ [])

abbrev pub settle_tests : ℕ → Page → List (Bool × ℕ)
settle_tests n p = page_tests n p []

abbrev pub class_tests : ℕ → Sheet → List ℕ → ℕ → List (Bool × ℕ)
class_tests n sheet pairs s = settled_tests n sheet pairs (s ∷ [])

abbrev pub below_tests : ℕ → Sheet → List ℕ → ℕ → ℕ → List (Bool × ℕ)
below_tests n sheet pairs s t = settled_tests n sheet pairs (s ∷ t ∷ [])

-- The pair stands, or it has no record.
abbrev pub record_tests : ℕ → Page → ℕ → ℕ → List (Bool × ℕ)
record_tests n p s t = (stands n p.pairs s t, 10) ∷ (not (is_some (record_of p s t)), 10) ∷ []

abbrev pub reason_tests : ℕ → Page → ℕ → ℕ → List (Bool × ℕ)
reason_tests n p s t = page_tests n p (s ∷ t ∷ []) ++ record_tests n p s t

-- The pair is struck; there is no such step, or no walk that answers it.
abbrev pub step_tests : {L : Type 0} → Meaning L → List ℕ → ℕ → ℕ → ℕ → List (Bool × ℕ)
step_tests m pairs s t u = (not (stands (states m) pairs s t), 10) ∷ (not (m.step s u), 11) ∷ (not (answered m pairs s u t), 11) ∷ []

-- What an answer tests before its step: also that there is a place for each state of a walk.
abbrev pub walk_tests : ℕ → Sheet → List ℕ → ℕ → List ℕ → List (Bool × ℕ)
walk_tests n sheet pairs room numbers =
    (short_pairs sheet pairs, 6) ∷ (nat_lt room sheet.count, 6) ∷ own_tests n sheet pairs numbers ++ (not sheet.settled, 9) ∷ []

abbrev pub answer_tests : {L : Type 0} → Meaning L → Sheet → List ℕ → ℕ → ℕ → ℕ → ℕ → List (Bool × ℕ)
answer_tests m sheet pairs room s t u = walk_tests (states m) sheet pairs room (s ∷ t ∷ u ∷ []) ++ step_tests m pairs s t u
