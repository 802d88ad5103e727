-- Lines joined by "and". Assumes nothing.
use Rattle.std.proofs.Common.{◌≡◌, ℕ, ◌<◌, Bool, true, false, cond, List, [], ◌∷◌, ◌++◌, length, Some, None, Option, eqb, ltb, lt-ltb, ◌&&◌, refl, ap, sym, subst, ◌∙◌, append-nil, append_assoc, length-append, arith}
use Rattle.std.proofs.lemmas.List.{nil_from_length}
use Rattle.std.proofs.lemmas.Bool.{and_from, eq-eqb, ne_eqb}
use Rattle.until.specs.declared.formula.Line.{Line}
use Rattle.until.specs.declared.formula.Line.TheVariants.{True, And}
use Rattle.until.specs.Formulas.{Formula, and}
use Rattle.until.specs.Lines.{formula_of, formulas, denoted, names_earlier}
use Rattle.strikes.specs.declared.strike.Strike.{Strike}
use Rattle.strikes.specs.Told.{conj}
use Rattle.crosscheck.specs.FormulaLines.{Denotes, Added, Continues, Joined, Beside, formulas_of}
use Rattle.crosscheck.proofs.Lines.{denoted_last, continues_self, continues_add, continues_on, denotes_on}

pub both_earlier : (i j n : ℕ) → i < n → j < n → (ltb i n && ltb j n) ≡ true
both_earlier i j n p q = and_from (ltb i n) (ltb j n) (lt-ltb i n p) (lt-ltb j n q)

module _ {L : Type 0} where
  -- the same line, added to the same lines
  pub added_as : {before ls after : List (Line L)} {k l : Line L} {n : ℕ} → before ≡ ls → k ≡ l → Added before k n after → Added ls l n after
  added_as {before} {ls} {after} {k} {l} {n} e is a = subst (λ ms. Added ms l n after) e (subst (λ x. Added before x n after) is a)

  -- what a line that is added denotes
  pub added_denotes : {ls after : List (Line L)} {l : Line L} {k : ℕ} {F : Formula L} → Added ls l k after → formula_of (formulas ls) l ≡ F → Denotes after k F
  added_denotes {ls} {after} {l} {k} {F} a e =
      let there : length ls < length (ls ++ l ∷ []) = omega (arith, length-append ls (l ∷ [])) in
      let alone : Denotes (ls ++ l ∷ []) (length ls) F = record { there = there; said = denoted_last ls l ∙ e } in
      subst (λ ms. Denotes ms k F) (sym a.lines) (subst (λ n. Denotes (ls ++ l ∷ []) n F) (sym a.place) alone)

  pub added_continues : {ls after : List (Line L)} {l : Line L} {k : ℕ} → Added ls l k after → names_earlier (length ls) l ≡ true → Continues ls after
  added_continues {ls} {after} {l} {k} a e = subst (λ ms. Continues ls ms) (sym a.lines) (continues_add ls l e)

  -- one formula more, before no others
  pub joined_first : (ls : List (Line L)) (line : ℕ) (F : Formula L) (Fs : List (Formula L)) → Denotes ls line F → Joined ls None Fs → Joined ls (Some line) (F ∷ Fs) × Continues ls ls
  joined_first ls line F [] f j = (f, continues_self ls)
  joined_first ls line F (G ∷ Gs) f j = absurd (cc)

  -- one formula more, before others
  pub joined_next : (ls after : List (Line L)) (line i k : ℕ) (F : Formula L) (Fs : List (Formula L)) → Denotes ls line F → Joined ls (Some i) Fs → Added ls (And line i) k after → Joined after (Some k) (F ∷ Fs) × Continues ls after
  joined_next ls after line i k F [] f j a = absurd j
  joined_next ls after line i k F (G ∷ Gs) f j a =
      (added_denotes a (λ e. and (f.said e) (j.said e)), added_continues a (both_earlier line i (length ls) f.there j.there))

  -- the last strike of a list
  pub formulas_last : (ls : List (Line L)) (ts : List (Strike × ℕ)) (t : Strike × ℕ) (v : ℕ) → formulas_of ls (ts ++ t ∷ []) v ≡ formulas_of ls ts v ++ cond (eqb t.0.first v) (denoted ls t.1 ∷ []) []
  formulas_last ls [] t v = refl
  formulas_last ls (s ∷ ts) t v = by_first (eqb s.0.first v) (formulas_last ls ts t v)
    where
      last : List (Formula L)
      last = cond (eqb t.0.first v) (denoted ls t.1 ∷ []) []

      by_first : (b : Bool) → formulas_of ls (ts ++ t ∷ []) v ≡ formulas_of ls ts v ++ last →
          cond b (denoted ls s.1 ∷ formulas_of ls (ts ++ t ∷ []) v) (formulas_of ls (ts ++ t ∷ []) v) ≡ cond b (denoted ls s.1 ∷ formulas_of ls ts v) (formulas_of ls ts v) ++ last
      by_first true e = ap (λ Fs. denoted ls s.1 ∷ Fs) e
      by_first false e = e

  beside_parts : (ls : List (Line L)) (ts : List (Strike × ℕ)) (t : Strike × ℕ) → Beside ls (ts ++ t ∷ []) → Beside ls ts × (t.1 < length ls)
  beside_parts ls [] t b = (tt, b.0)
  beside_parts ls (s ∷ ts) t b = let more = beside_parts ls ts t b.1 in ((b.0, more.0), more.1)

  -- How far strikes are joined: those of `rest` are still to come.
  pub record SoFar (told : List (Strike × ℕ)) (v : ℕ) (before : List (Line L)) (rest : List (Strike × ℕ)) (ls : List (Line L)) (joined : Option ℕ) : Type 0 where
    pub done : List (Formula L)
    pub split : formulas_of before told v ≡ formulas_of before rest v ++ done
    pub so_far : Joined ls joined done
    pub continued : Continues before ls
    pub beside : Beside before rest

  pub so_far_none : (told : List (Strike × ℕ)) (v : ℕ) (ls : List (Line L)) → Beside ls told → SoFar told v ls told ls None
  so_far_none told v ls b = record { done = []; split = sym (append-nil (formulas_of ls told v)); so_far = refl; continued = continues_self ls; beside = b }

  -- the last strike of the rest is another state's
  pub so_far_other : (told : List (Strike × ℕ)) (v : ℕ) (before : List (Line L)) (rest others : List (Strike × ℕ)) (t : Strike × ℕ) (ls : List (Line L)) (joined : Option ℕ) →
      SoFar told v before rest ls joined → rest ≡ others ++ t ∷ [] → (t.0.first ≡ v → ⊥) → SoFar told v before others ls joined
  so_far_other told v before rest others t ls joined s e f = record {
    done = s.done;
    split = s.split ∙ ap (λ ts. formulas_of before ts v ++ s.done) e
        ∙ ap (λ Fs. Fs ++ s.done) (formulas_last before others t v ∙ ap (λ b. formulas_of before others v ++ cond b (denoted before t.1 ∷ []) []) (ne_eqb t.0.first v f) ∙ append-nil (formulas_of before others v));
    so_far = s.so_far;
    continued = s.continued;
    beside = (beside_parts before others t (subst (Beside before) e s.beside)).0;
  }

  -- what is known of the last strike's line
  pub so_far_line : (told : List (Strike × ℕ)) (v : ℕ) (before : List (Line L)) (rest others : List (Strike × ℕ)) (t : Strike × ℕ) (ls : List (Line L)) (joined : Option ℕ) →
      SoFar told v before rest ls joined → rest ≡ others ++ t ∷ [] → Denotes ls t.1 (denoted before t.1)
  so_far_line told v before rest others t ls joined s e =
      denotes_on s.continued (record { there = (beside_parts before others t (subst (Beside before) e s.beside)).1; said = refl })

  -- the last strike of the rest is joined before the others
  pub so_far_own : (told : List (Strike × ℕ)) (v : ℕ) (before : List (Line L)) (rest others : List (Strike × ℕ)) (t : Strike × ℕ) (ls after : List (Line L)) (joined : Option ℕ) (k : ℕ) →
      (s : SoFar told v before rest ls joined) → rest ≡ others ++ t ∷ [] → t.0.first ≡ v → Joined after (Some k) (denoted before t.1 ∷ s.done) × Continues ls after → SoFar told v before others after (Some k)
  so_far_own told v before rest others t ls after joined k s e f j = record {
    done = denoted before t.1 ∷ s.done;
    split = s.split ∙ ap (λ ts. formulas_of before ts v ++ s.done) e
        ∙ ap (λ Fs. Fs ++ s.done) (formulas_last before others t v ∙ ap (λ b. formulas_of before others v ++ cond b (denoted before t.1 ∷ []) []) (eq-eqb t.0.first v f))
        ∙ append_assoc (formulas_of before others v) (denoted before t.1 ∷ []) s.done;
    so_far = j.0;
    continued = continues_on s.continued j.1;
    beside = (beside_parts before others t (subst (Beside before) e s.beside)).0;
  }

  all_done : (told : List (Strike × ℕ)) (v : ℕ) (before : List (Line L)) (rest : List (Strike × ℕ)) (ls : List (Line L)) (joined : Option ℕ) →
      (s : SoFar told v before rest ls joined) → length rest ≡ 0 → formulas_of before told v ≡ s.done
  all_done told v before rest ls joined s e = s.split ∙ ap (λ ts. formulas_of before ts v ++ s.done) (nil_from_length rest e)

  -- all is joined, and there was something to join
  pub joined_all : (told : List (Strike × ℕ)) (v : ℕ) (before : List (Line L)) (rest : List (Strike × ℕ)) (ls : List (Line L)) (joined : Option ℕ) (k : ℕ) →
      SoFar told v before rest ls joined → length rest ≡ 0 → joined ≡ Some k → Denotes ls k (conj (formulas_of before told v)) × Continues before ls
  joined_all told v before rest ls joined k s e is =
      (subst (λ Fs. Denotes ls k (conj Fs)) (sym (all_done told v before rest ls joined s e)) (of_joined s.done (subst (λ j. Joined ls j s.done) is s.so_far)), s.continued)
    where
      of_joined : (Fs : List (Formula L)) → Joined ls (Some k) Fs → Denotes ls k (conj Fs)
      of_joined [] j = absurd j
      of_joined (F ∷ Fs) j = j

  -- there was nothing to join
  pub joined_nothing : (told : List (Strike × ℕ)) (v : ℕ) (before : List (Line L)) (rest : List (Strike × ℕ)) (ls after : List (Line L)) (joined : Option ℕ) (k : ℕ) →
      SoFar told v before rest ls joined → length rest ≡ 0 → joined ≡ None → Added ls True k after → Denotes after k (conj (formulas_of before told v)) × Continues before after
  joined_nothing told v before rest ls after joined k s e is a =
      let none : formulas_of before told v ≡ [] = all_done told v before rest ls joined s e ∙ subst (λ j. Joined ls j s.done) is s.so_far in
      (subst (λ Fs. Denotes after k (conj Fs)) (sym none) (added_denotes a refl), continues_on s.continued (added_continues a refl))
