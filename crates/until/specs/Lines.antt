-- Formulas as numbered lines, and their evaluation. Assumes nothing.
use Rattle.std.specs.Prelude.{◌≡◌, ℕ, suc, ◌+◌, ◌*◌, ◌<◌, Bool, true, cond, ◌&&◌, ◌⊎◌, List, [], ◌∷◌, ◌++◌, length, drop, Some, None, Option, Result, nat_lt, slice_index, slice_index_or}
use Rattle.model.specs.declared.refusal.Refusal.{Refusal}
use Rattle.model.specs.Machines.{Meaning, states}
use Rattle.model.specs.Refusals.{Checked}
use Rattle.until.specs.declared.formula.Line.{Line}
use Rattle.until.specs.declared.formula.Line.TheVariants.{True, At, And, Until}
use Rattle.until.specs.Formulas.{Formula, truth, at, and, until, Holds}

-- The byte is 1 where P holds, and 0 where it does not.
abbrev pub Says : ℕ → Type 0 → Type 0
Says byte P = ((byte ≡ 1) × P) ⊎ ((byte ≡ 0) × (P → ⊥))

module _ {L : Type 0} where
  -- The formula of a line, where those of the lines before it are known. A number that is no earlier line stands for
  -- (true), and evaluating is refused.
  abbrev pub formula_of : List (Formula L) → Line L → Formula L
  formula_of fs True = truth
  formula_of fs (At a) = at a
  formula_of fs (And i j) = and (slice_index_or fs i truth) (slice_index_or fs j truth)
  formula_of fs (Until i j) = until (slice_index_or fs i truth) (slice_index_or fs j truth)

  -- The formulas of the lines in turn, after those of the lines before them.
  abbrev pub formulas_from : List (Formula L) → List (Line L) → List (Formula L)
  formulas_from fs [] = fs
  formulas_from fs (l ∷ ls) = formulas_from (fs ++ formula_of fs l ∷ []) ls

  abbrev pub formulas : List (Line L) → List (Formula L)
  formulas ls = formulas_from [] ls

  -- The formula that line k denotes.
  abbrev pub denoted : List (Line L) → ℕ → Formula L
  denoted ls k = slice_index_or (formulas ls) k truth

  -- Line k names lines before it only.
  abbrev pub names_earlier : ℕ → Line L → Bool
  names_earlier k True = true
  names_earlier k (At a) = true
  names_earlier k (And i j) = nat_lt i k && nat_lt j k
  names_earlier k (Until i j) = nat_lt i k && nat_lt j k

  -- All lines name lines before them only, where the first is line k.
  abbrev pub all_name_earlier : ℕ → List (Line L) → Bool
  all_name_earlier k [] = true
  all_name_earlier k (l ∷ ls) = names_earlier k l && all_name_earlier (suc k) ls

  -- Why evaluating lines at n states in so much memory is refused, if it is.
  abbrev pub evaluate_refusal : ℕ → List (Line L) → ℕ → Option ℕ
  evaluate_refusal n ls room = cond (nat_lt room (length ls * n)) (Some 6) (cond (all_name_earlier 0 ls) None (Some 12))

  -- The byte of each line and state says whether the line's formula holds there, and the memory past them is as before.
  pub record Evaluated (at_most : L → L → Bool) (m : Meaning L) (ls : List (Line L)) (before bytes : List ℕ) : Type 0 where
    pub said : (k s : ℕ) → k < length ls → s < states m → Says (slice_index bytes (k * states m + s)) (Holds at_most m (denoted ls k) s)
    pub rest : drop (length ls * states m) bytes ≡ drop (length ls * states m) before

  -- What evaluating answers, and what its memory then holds.
  abbrev pub Evaluates : (L → L → Bool) → Meaning L → List (Line L) → List ℕ → Result (Unit {0}) Refusal → List ℕ → Type 0
  Evaluates at_most m ls before r bytes =
      Checked (evaluate_refusal (states m) ls (length before)) (bytes ≡ before) (λ _. Evaluated at_most m ls before bytes) r
