-- What a call answers, once it is known what its checks found. Assumes nothing.
use Rattle.std.proofs.Common.{◌≡◌, ℕ, ◌≤◌, Bool, true, false, cond, ltb, List, [], ◌∷◌, ◌++◌, IsErrAnd, Some, None, Ok, Err, Option, Result, refl, rules}
use Rattle.model.specs.declared.refusal.Refusal.{Refusal}
use Rattle.model.specs.Refusals.{Refused, Answered, Checked, cause, Passes}

module _ {A : Type 0} {cause : Option ℕ} {Unchanged : Type 0} {Good : A → Type 0} {r : Result A Refusal} where
  pub when_answered : cause ≡ None → Answered Good r → Checked cause Unchanged Good r
  when_answered e good = search rules

  pub when_refused : (k : ℕ) → cause ≡ Some k → Refused k r → Unchanged → Checked cause Unchanged Good r
  when_refused k e no_answer same = search rules

-- A check of room that passes leaves the rest of the checks.
pub room_enough : (room size k : ℕ) (rest : Option ℕ) → size ≤ room → cond (ltb room size) (Some k) rest ≡ rest
room_enough room size k rest h = search rules

-- What a refusal and a good answer say of the checks.
module _ {A : Type 0} {Unchanged : Type 0} {Good : A → Type 0} where
  pub refused_at : (found : Option ℕ) (e : Refusal) → Checked found Unchanged Good (Err e) → Unchanged × (found ≡ None → ⊥)
  refused_at (Some k) e c = search (rules, c.refused k refl)
  refused_at None e c = search rules

  pub answered_at : (found : Option ℕ) (a : A) → Checked found Unchanged Good (Ok a) → Good a × (found ≡ None)
  answered_at (Some k) a c = search rules
  answered_at None a c = search rules

-- A list of tests whose first finds a cause.
pub finds : (b : Bool) (k : ℕ) (rest : List (Bool × ℕ)) → b ≡ true → cause ((b, k) ∷ rest) ≡ Some k
finds b k rest e = search rules

-- The second of two tests may be left out where it passes.
pub passes_behind : (a b : Bool) (j k : ℕ) (rest : List (Bool × ℕ)) → b ≡ false → cause ((a, j) ∷ (b, k) ∷ rest) ≡ cause ((a, j) ∷ rest)
passes_behind a b j k rest e = search rules

-- No test finds a cause.
abbrev pub Clear : List (Bool × ℕ) → Type 0
Clear [] = Unit {0}
Clear (test ∷ tests) = (test.0 ≡ false) × Clear tests

pub none_clear : (tests : List (Bool × ℕ)) → cause tests ≡ None → Clear tests
none_clear [] e = tt
none_clear (test ∷ tests) e = search (rules, none_clear tests)

pub clear_none : (tests : List (Bool × ℕ)) → Clear tests → cause tests ≡ None
clear_none [] c = refl
clear_none (test ∷ tests) c = search (rules, clear_none tests)

-- Tests that pass leave the finding to those after them, and a cause that is found stays.
none_append : (tests more : List (Bool × ℕ)) → Clear tests → cause (tests ++ more) ≡ cause more
none_append [] more c = refl
none_append (test ∷ tests) more c = search (rules, none_append tests more)

some_append : (tests more : List (Bool × ℕ)) (k : ℕ) → cause tests ≡ Some k → cause (tests ++ more) ≡ Some k
some_append [] more k e = search rules
some_append (test ∷ tests) more k e = search (rules, some_append tests more k)

pub clear_parts : (tests more : List (Bool × ℕ)) → Clear (tests ++ more) → Clear tests × Clear more
clear_parts [] more c = (tt, c)
clear_parts (test ∷ tests) more c = search (rules, clear_parts tests more)

pub clear_append : (tests more : List (Bool × ℕ)) → Clear tests → Clear more → Clear (tests ++ more)
clear_append [] more c d = d
clear_append (test ∷ tests) more c d = (c.0, clear_append tests more c.1 d)

module _ {A : Type 0} {Unchanged : Type 0} {Good : A → Type 0} where
  -- What is checked after it.
  pub then_check : (tests more : List (Bool × ℕ)) (r : Result A Refusal) → Clear tests → Checked (cause more) Unchanged Good r → Checked (cause (tests ++ more)) Unchanged Good r
  then_check tests more r clear checked = search (rules, none_append tests more clear)

  -- A check that refused, handed on by `?`, with other checks after it.
  pub stopped : (tests more : List (Bool × ℕ)) (r : Result (Unit {0}) Refusal) (e : Refusal) (out : Result A Refusal) → Passes tests r → r ≡ Err e → IsErrAnd out (λ d. d ≡ e) → Unchanged → Checked (cause (tests ++ more)) Unchanged Good out
  stopped tests more r e out checked is handed same = by_cause (cause tests) refl
    where
      by_cause : (found : Option ℕ) → cause tests ≡ found → Checked (cause (tests ++ more)) Unchanged Good out
      by_cause (Some k) found = search (rules, checked.refused k, some_append tests more k)
      by_cause None found = search (rules, checked.answered)
