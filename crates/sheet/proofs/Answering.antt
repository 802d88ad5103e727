-- What the search for a shortest walk says of a step that is to be answered. Assumes nothing.
use Rattle.std.proofs.Common.{◌≡◌, ℕ, ◌<◌, ◌≤◌, false, true, not, ltb, List, [], ◌∷◌, ◌++◌, length, Some, None, Ok, Option, Result, sym, refl, subst}
use Rattle.std.specs.Option.{ok_or}
use Rattle.std.proofs.lemmas.Bool.{not_from_true, not_from_false, false_from_ne_true}
use Rattle.model.specs.declared.refusal.Refusal.{Refusal}
use Rattle.model.specs.declared.refusal.Refusal.TheVariants.{NoSuchStep}
use Rattle.model.specs.Machines.{Meaning, Bounded, states}
use Rattle.model.specs.Refusals.{Answered, Checked, cause}
use Rattle.model.proofs.Checks.{when_answered, when_refused, room_enough, finds, passes_behind, clear_none, then_check}
use Rattle.until.specs.Rows.{row_of}
use Rattle.until.specs.Searches.{Written, WrittenIfAny, SearchAnswers}
use Rattle.sheet.specs.declared.sheet.Sheet.{Sheet}
use Rattle.sheet.specs.Memory.{stands}
use Rattle.sheet.specs.Verdicts.{answered}
use Rattle.sheet.specs.Pages.{short_pairs}
use Rattle.sheet.specs.Causes.{own_tests, settled_tests, step_tests}
use Rattle.sheet.specs.Calls.{WritesWalk, Answers}
use Rattle.sheet.proofs.Judging.{rows_decide}

module _ {L : Type 0} (m : Meaning L) (bounded : Bounded m) (pairs : List ℕ) (s t u : ℕ) (low : t < states m) (walk after : List ℕ)
    (stood : stands (states m) pairs s t ≡ true) (step : m.step s u ≡ true) where
  last_test : (o : Option ℕ) → WrittenIfAny m (row_of (states m) pairs s) (row_of (states m) pairs u) t walk after o → WritesWalk m pairs s t u walk (ok_or o NoSuchStep) after
  last_test o found =
      then_check ((not (stands (states m) pairs s t), 10) ∷ (not (m.step s u), 11) ∷ []) ((not (answered m pairs s u t), 11) ∷ []) (ok_or o NoSuchStep)
      (not_from_true _ stood, (not_from_true _ step, tt)) (by_walk o found)
    where
      by_walk : (o : Option ℕ) → WrittenIfAny m (row_of (states m) pairs s) (row_of (states m) pairs u) t walk after o →
          Checked (cause ((not (answered m pairs s u t), 11) ∷ [])) (after ≡ walk) (Written m (row_of (states m) pairs s) (row_of (states m) pairs u) t walk after) (ok_or o NoSuchStep)
      by_walk (Some k) found = when_answered (clear_none ((not (answered m pairs s u t), 11) ∷ []) (not_from_true _ ((rows_decide m bounded pairs s t low u).1 found.walk), tt)) found
      by_walk None found = when_refused 11 (finds (not (answered m pairs s u t)) 11 [] (not_from_false _ (false_from_ne_true _ (λ e. found.0 (low, (rows_decide m bounded pairs s t low u).0 e))))) refl found.1

  pub search_answers : (row goal : List ℕ) (r : Result (Option ℕ) Refusal) (o : Option ℕ) → row ≡ row_of (states m) pairs s → goal ≡ row_of (states m) pairs u →
      SearchAnswers m row goal t walk r after → states m ≤ length walk → r ≡ Ok o → WritesWalk m pairs s t u walk (ok_or o NoSuchStep) after
  search_answers row goal r o row_is goal_is search room is =
      last_test o (subst (λ x. WrittenIfAny m x (row_of (states m) pairs u) t walk after o) row_is (subst (λ x. WrittenIfAny m row x t walk after o) goal_is
      (subst (λ x. Answered (WrittenIfAny m row goal t walk after) x) is (search.answered (room_enough (length walk) (states m) 6 None room)))))

-- walk memory that is long enough is tested no more
pub past_walk : {L : Type 0} (m : Meaning L) (sheet : Sheet) (pairs : List ℕ) (s t u : ℕ) (walk after : List ℕ) (out : Result ℕ Refusal) → ltb (length walk) sheet.count ≡ false
    → Checked (cause (settled_tests (states m) sheet pairs (s ∷ t ∷ u ∷ []) ++ step_tests m pairs s t u)) (after ≡ walk) (Written m (row_of (states m) pairs s) (row_of (states m) pairs u) t walk after) out
    → Answers m sheet pairs s t u walk out after
past_walk m sheet pairs s t u walk after out long checked =
    let rest = own_tests (states m) sheet pairs (s ∷ t ∷ u ∷ []) ++ (not sheet.settled, 9) ∷ [] ++ step_tests m pairs s t u in
    subst (λ found. Checked found (after ≡ walk) (Written m (row_of (states m) pairs s) (row_of (states m) pairs u) t walk after) out)
    (sym (passes_behind (short_pairs sheet pairs) (ltb (length walk) sheet.count) 6 6 rest long)) checked
