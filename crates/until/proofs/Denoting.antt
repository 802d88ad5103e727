-- The formulas that lines denote, and rows that say where they hold. Assumes nothing.
use Rattle.std.proofs.Common.{◌≡◌, ℕ, zero, suc, ◌+◌, ◌*◌, ◌<◌, Bool, true, not, T, eqb, ltb, ◌&&◌, List, [], ◌∷◌, ◌++◌, length, get_or, sym, refl, subst, inl, inr, ⊎_elim, arith}
use Rattle.std.proofs.lemmas.Bool.{and_parts, ltb-true}
use Rattle.std.proofs.lemmas.Grind.{common_steps}
use Rattle.model.specs.Machines.{Meaning, states}
use Rattle.until.specs.declared.formula.Line.{Line}
use Rattle.until.specs.declared.formula.Line.TheVariants.{True, At, And, Until}
use Rattle.until.specs.Searches.{Marked}
use Rattle.until.specs.Formulas.{Formula, truth, Holds}
use Rattle.until.specs.Lines.{Says, formula_of, formulas_from, formulas, denoted, names_earlier}
use Rattle.until.specs.Rows.{row_of}
use Rattle.until.specs.Filled.{HoldsBy}
use Rattle.until.proofs.Walks.{walk_map}
use Rattle.until.proofs.RowBytes.{row_byte}

pub two_earlier : (i j k : ℕ) → (ltb i k && ltb j k) ≡ true → (i < k) × (j < k)
two_earlier i j k e = let both = and_parts (ltb i k) (ltb j k) e in (ltb-true i k both.0, ltb-true j k both.1)

module _ {L : Type 0} where
  -- formulas stay as they are when those of more lines follow
  formulas_stay : (fs : List (Formula L)) (ls : List (Line L)) (i : ℕ) → i < length fs → get_or (formulas_from fs ls) i truth ≡ get_or fs i truth
  formulas_stay fs [] i h = refl
  formulas_stay fs (l ∷ ls) i h = grind (arith, common_steps, formulas_stay (fs ++ formula_of fs l ∷ []) ls i)

  -- the formula of a line depends on those of earlier lines only
  formula_same : (fs gs : List (Formula L)) (k : ℕ) (l : Line L) → names_earlier k l ≡ true → ((i : ℕ) → i < k → get_or fs i truth ≡ get_or gs i truth) → formula_of fs l ≡ formula_of gs l
  formula_same fs gs k True e same = refl
  formula_same fs gs k (At a) e same = refl
  formula_same fs gs k (And i j) e same = let two = two_earlier i j k e in cc (same i two.0, same j two.1)
  formula_same fs gs k (Until i j) e same = let two = two_earlier i j k e in cc (same i two.0, same j two.1)

  denotes_from : (fs : List (Formula L)) (ls : List (Line L)) (i k : ℕ) (d : Line L) → k ≡ length fs + i → i < length ls → names_earlier k (get_or ls i d) ≡ true → get_or (formulas_from fs ls) k truth ≡ formula_of (formulas_from fs ls) (get_or ls i d)
  denotes_from fs [] i k d at h e = absurd (omega arith)
  denotes_from fs (l ∷ ls) zero k d at h e =
      let first = formulas_stay (fs ++ formula_of fs l ∷ []) ls k in
      let same = formula_same fs (formulas_from fs (l ∷ ls)) k l e (λ i h. sym (formulas_stay fs (l ∷ ls) i (omega arith))) in
      grind (arith, common_steps, first, same)
  denotes_from fs (l ∷ ls) (suc i) k d at h e = grind (arith, common_steps, denotes_from (fs ++ formula_of fs l ∷ []) ls i k d)

  -- a line that names earlier lines denotes its formula over what those denote
  pub denotes : (ls : List (Line L)) (k : ℕ) (line : Line L) → k < length ls → line ≡ get_or ls k line → names_earlier k line ≡ true → denoted ls k ≡ formula_of (formulas ls) line
  denotes ls k line low is e = grind (arith, denotes_from [] ls k k line)

pub says_like : {P Q : Type 0} (byte : ℕ) → (P → Q) → (Q → P) → Says byte P → Says byte Q
says_like byte f g says = ⊎_elim (λ p. inl (p.0, f p.1)) (λ p. inr (p.0, λ q. p.1 (g q))) says

-- a byte that says P is not zero where P holds
says_marked : {P : Type 0} (byte : ℕ) → Says byte P → (T (not (eqb byte 0)) → P) × (P → T (not (eqb byte 0)))
says_marked byte says =
    ⊎_elim
    (λ p. (λ _. p.1, λ _. subst (λ b. T (not (eqb b 0))) (sym p.0) tt))
    (λ p. (λ h. absurd (subst (λ b. T (not (eqb b 0))) p.0 h), λ q. absurd (p.1 q)))
    says

-- the rows of the first k lines say where their formulas hold
module _ {L : Type 0} (at_most : L → L → Bool) (m : Meaning L) (fs : List (Formula L)) (rows : List ℕ) (k : ℕ)
    (said : (i s : ℕ) → i < k → s < states m → Says (get_or rows (i * states m + s) 0) (Holds at_most m (get_or fs i truth) s)) where
  row_marked : (i : ℕ) → i < k → (s : ℕ) → s < states m → (Marked (row_of (states m) rows i) s → Holds at_most m (get_or fs i truth) s) × (Holds at_most m (get_or fs i truth) s → Marked (row_of (states m) rows i) s)
  row_marked i h s low =
      says_marked _ (subst (λ b. Says b (Holds at_most m (get_or fs i truth) s)) (sym (row_byte (states m) rows i s low)) (said i s h low))

  -- what holds by the rows of the lines before is what the line's formula says
  pub holds_by : (l : Line L) → names_earlier k l ≡ true → (s : ℕ) → s < states m → (HoldsBy at_most m rows l s → Holds at_most m (formula_of fs l) s) × (Holds at_most m (formula_of fs l) s → HoldsBy at_most m rows l s)
  holds_by True e s low = (λ h. h, λ h. h)
  holds_by (At a) e s low = (λ h. h, λ h. h)
  holds_by (And i j) e s low =
      let two = two_earlier i j k e in
      let one = row_marked i two.0 s low in
      let other = row_marked j two.1 s low in
      (λ h. (one.0 h.0, other.0 h.1), λ h. (one.1 h.0, other.1 h.1))
  holds_by (Until i j) e s low =
      let two = two_earlier i j k e in (
        walk_map m (λ u l. (row_marked i two.0 u l).0) (λ u l. (row_marked j two.1 u l).0) low,
        walk_map m (λ u l. (row_marked i two.0 u l).1) (λ u l. (row_marked j two.1 u l).1) low,
      )
