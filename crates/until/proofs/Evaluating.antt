-- Rows filled line by line. Assumes nothing.
use Rattle.std.proofs.Common.{◌≡◌, ℕ, ◌+◌, ◌-◌, ◌*◌, ◌<◌, ◌≤◌, Bool, true, List, length, get_or, take, drop, sym, ◌∙◌, subst, ⊎_elim, arith}
use Rattle.std.proofs.lemmas.Grind.{rows}
use Rattle.std.proofs.lemmas.List.{drop-drop, get_or-take}
use Rattle.std.proofs.lemmas.Bool.{cases_eq}
use Rattle.model.specs.Machines.{Meaning, states}
use Rattle.until.specs.declared.formula.Line.{Line}
use Rattle.until.specs.Formulas.{Holds}
use Rattle.until.specs.Lines.{Says, formulas, denoted, all_name_earlier}
use Rattle.until.specs.Filled.{Filled}
use Rattle.until.proofs.Lines.{line_names}
use Rattle.until.proofs.Denoting.{denotes, says_like, holds_by}

-- what two lists share from a place on, they share from any later one
drop_later : {X : Type 0} (xs ys : List X) (i j : ℕ) → i ≤ j → drop i xs ≡ drop i ys → drop j xs ≡ drop j ys
drop_later xs ys i j h e = grind (arith, drop-drop (j - i) i xs, drop-drop (j - i) i ys)

module _ {L : Type 0} (at_most : L → L → Bool) (m : Meaning L) (lines : List (Line L)) (before : List ℕ) where
  -- The rows of the first k lines are filled.
  pub record Evaluating (bytes : List ℕ) (k : ℕ) : Type 0 where
    pub said : (j s : ℕ) → j < k → s < states m → Says (get_or bytes (j * states m + s) 0) (Holds at_most m (denoted lines j) s)
    pub rest : drop (length lines * states m) bytes ≡ drop (length lines * states m) before

  module _ {bytes bytes' : List ℕ} {k : ℕ} {line : Line L} (ev : Evaluating bytes k) (low : k < length lines) (is : line ≡ get_or lines k line)
      (earlier : all_name_earlier 0 lines ≡ true) (filled : Filled at_most m line k bytes bytes') where
    -- the bytes of the rows before
    front_byte : (j s : ℕ) → j < k → s < states m → get_or (take (k * states m) bytes) (j * states m + s) 0 ≡ get_or bytes (j * states m + s) 0
    front_byte j s l h = grind (arith, rows, get_or-take)

    same_byte : (j s : ℕ) → j < k → s < states m → get_or bytes' (j * states m + s) 0 ≡ get_or bytes (j * states m + s) 0
    same_byte j s l h = let front = filled.front in grind (arith, rows, get_or-take)

    -- the new row
    here : (s : ℕ) → s < states m → Says (get_or bytes' (k * states m + s) 0) (Holds at_most m (denoted lines k) s)
    here s h =
        let names = line_names lines k line earlier low is in
        let by = holds_by at_most m (formulas lines) (take (k * states m) bytes) k
        (λ j u l low. subst (λ b. Says b (Holds at_most m (denoted lines j) u)) (sym (front_byte j u l low)) (ev.said j u l low)) line names s h in
        subst (λ F. Says (get_or bytes' (k * states m + s) 0) (Holds at_most m F s)) (sym (denotes lines k line low is names))
        (says_like _ by.0 by.1 (filled.said s h))

    pub evaluating_more : Evaluating bytes' (k + 1)
    evaluating_more = record {
      said = λ j s l h.
          ⊎_elim
          (λ e. subst (λ i. Says (get_or bytes' (i * states m + s) 0) (Holds at_most m (denoted lines i) s)) (sym e) (here s h))
          (λ ne.
          let old : j < k = omega arith in
          subst (λ b. Says b (Holds at_most m (denoted lines j) s)) (sym (same_byte j s old h)) (ev.said j s old h))
          (cases_eq j k);
      rest = drop_later bytes' bytes (k * states m + states m) (length lines * states m) (grind (arith, rows)) filled.rest ∙ ev.rest;
    }
