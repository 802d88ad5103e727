-- Refusals: the number and the words of each cause, and what a call that checks first answers. Assumes nothing.
use Rattle.std.specs.Prelude.{◌≡◌, ℕ, Bool, cond, List, [], ◌∷◌, Some, None, Ok, Err, Option, Result, codes}
use Rattle.model.specs.declared.refusal.Refusal.{Refusal}
use Rattle.model.specs.declared.refusal.Refusal.TheVariants.{NoStates, ShortMemory, NoSuchState, OtherSheet, NotSettled, OtherPair, NoSuchStep, LineNotEarlier}

abbrev pub number_of : Refusal → ℕ
number_of NoStates = 5
number_of ShortMemory = 6
number_of NoSuchState = 7
number_of OtherSheet = 8
number_of NotSettled = 9
number_of OtherPair = 10
number_of NoSuchStep = 11
number_of LineNotEarlier = 12

-- What a refusal is printed as.
abbrev pub words_of : Refusal → List ℕ
words_of NoStates = codes "no states"
words_of ShortMemory = codes "memory too short"
words_of NoSuchState = codes "no such state"
words_of OtherSheet = codes "not a sheet of this machine"
words_of NotSettled = codes "sheet not settled"
words_of OtherPair = codes "pair struck where it should stand, or the other way round"
words_of NoSuchStep = codes "no such step, or no walk that answers it"
words_of LineNotEarlier = codes "line names a line that is not earlier"

-- The answer is a refusal with this number.
abbrev pub Refused : {A : Type 0} → ℕ → Result A Refusal → Type 0
Refused k (Ok a) = ⊥
Refused k (Err e) = number_of e ≡ k

-- The answer is good, and Good is true of it.
abbrev pub Answered : {A : Type 0} → (A → Type 0) → Result A Refusal → Type 0
Answered Good (Ok a) = Good a
Answered Good (Err e) = ⊥

-- Where the checks find a cause, the call is refused by its number and leaves all as it was; else it answers.
pub record Checked {A : Type 0} (cause : Option ℕ) (Unchanged : Type 0) (Good : A → Type 0) (r : Result A Refusal) : Type 0 where
  pub refused : (k : ℕ) → cause ≡ Some k → Refused k r × Unchanged
  pub answered : cause ≡ None → Answered Good r

-- The number of the first test that finds a cause, if any does.
abbrev pub cause : List (Bool × ℕ) → Option ℕ
cause [] = None
cause (test ∷ tests) = cond test.0 (Some test.1) (cause tests)

-- A call that only checks: it is refused by the first test that finds a cause, and passes where none does.
abbrev pub Passes : List (Bool × ℕ) → Result (Unit {0}) Refusal → Type 0
Passes tests r = Checked (cause tests) (Unit {0}) (λ _. Unit {0}) r
