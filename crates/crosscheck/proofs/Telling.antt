-- Lines that tell the formulas of strikes. Assumes nothing.
use Rattle.std.proofs.Common.{◌≡◌, ℕ, ◌<◌, cond, List, [], ◌∷◌, ◌++◌, length, map, reverse, Some, None, eqb, refl, ap, sym, subst, ◌∙◌}
use Rattle.std.proofs.lemmas.List.{reverse-append, reverse-reverse, map-append}
use Rattle.std.proofs.lemmas.Grind.{reverse_onto}
use Rattle.model.specs.Machines.{Meaning, label_of}
use Rattle.until.specs.declared.formula.Line.{Line}
use Rattle.until.specs.declared.formula.Line.TheVariants.{True, At, Until}
use Rattle.until.specs.Formulas.{until}
use Rattle.strikes.specs.declared.strike.Strike.{Strike}
use Rattle.strikes.specs.declared.strike.Ground.{Ground}
use Rattle.strikes.specs.declared.strike.Ground.TheVariants.{ByLabel, ByStep}
use Rattle.strikes.specs.Told.{conj, told, tell, at_label, formula_of}
use Rattle.crosscheck.specs.FormulaLines.{Denotes, Added, Continues, Beside, formulas_of, Tell, FormulaLines}
use Rattle.crosscheck.proofs.Lines.{continues_self, continues_on, denotes_on}
use Rattle.crosscheck.proofs.Joining.{both_earlier, added_denotes, added_continues, formulas_last}

-- The strikes of a list in which they stand beside lines.
abbrev pub strikes_of : List (Strike × ℕ) → List Strike
strikes_of ts = map (λ t. t.0) ts

-- What joining the formulas of the strikes of v does.
abbrev pub Joins : {L : Type 0} → List (Strike × ℕ) → List (Line L) → ℕ → ℕ → List (Line L) → Type 0
Joins ts before v k after = Beside before ts → Denotes after k (conj (formulas_of before ts v)) × Continues before after

module _ {L : Type 0} where
  beside_last : (ls : List (Line L)) (ts : List (Strike × ℕ)) (t : Strike × ℕ) → Beside ls ts → t.1 < length ls → Beside ls (ts ++ t ∷ [])
  beside_last ls [] t b h = (h, tt)
  beside_last ls (s ∷ ts) t b h = (b.0, beside_last ls ts t b.1 h)

module _ {L : Type 0} (m : Meaning L) where
  tell_on : {a b : List (Line L)} (ts : List (Strike × ℕ)) → Continues a b → Tell m a ts → Tell m b ts
  tell_on [] c t = tt
  tell_on (t ∷ ts) c tell = (denotes_on c tell.0, tell_on ts c tell.1)

  tell_beside : (ls : List (Line L)) (ts : List (Strike × ℕ)) → Tell m ls ts → Beside ls (reverse ts)
  tell_beside ls [] tell = tt
  tell_beside ls (t ∷ ts) tell = subst (Beside ls) (sym (reverse_onto ts t [])) (beside_last ls (reverse ts) t (tell_beside ls ts tell.1) tell.0.there)

  tell_formulas : (ls : List (Line L)) (ts : List (Strike × ℕ)) (v : ℕ) → Tell m ls ts → formulas_of ls (reverse ts) v ≡ told m (strikes_of ts) v
  tell_formulas ls [] v tell = refl
  tell_formulas ls (t ∷ ts) v tell =
      ap (λ us. formulas_of ls us v) (reverse_onto ts t [])
      ∙ formulas_last ls (reverse ts) t v
      ∙ (λ i. tell_formulas ls ts v tell.1 i ++ cond (eqb t.0.first v) (tell.0.said i ∷ []) [])

  -- the same strike, after the same ones
  pub told_as : {ks : List Strike} {ls : List (Line L)} {ts us all : List (Strike × ℕ)} (t : Strike × ℕ) → all ≡ us ++ t ∷ [] → us ≡ ts → FormulaLines m ks ls (ts ++ t ∷ []) → FormulaLines m ks ls all
  told_as {ks} {ls} {ts} {us} {all} t e same f = subst (FormulaLines m ks ls) (sym (e ∙ (λ i. same i ++ t ∷ []))) f

  module _ (strikes : List Strike) (ls : List (Line L)) (ts : List (Strike × ℕ)) (f : FormulaLines m strikes ls ts) where
    pub beside : Beside ls ts
    beside = subst (Beside ls) (reverse-reverse ts) (tell_beside ls (reverse ts) f.tell)

    -- what the lines of the strikes of v say, also once lines are added
    pub said : (after : List (Line L)) (v : ℕ) → Continues ls after → conj (formulas_of after ts v) ≡ conj (told m (strikes_of (reverse ts)) v)
    said after v c =
        ap (λ us. conj (formulas_of after us v)) (sym (reverse-reverse ts)) ∙ ap conj (tell_formulas after (reverse ts) v (tell_on (reverse ts) c f.tell))

    -- the next strike, beside a line of its formula
    pub told_next : (after : List (Line L)) (n : ℕ) (strike : Strike) → Continues ls after → Denotes after n (formula_of m (strikes_of (reverse ts)) strike) → FormulaLines m (strikes ++ strike ∷ []) after (ts ++ (strike, n) ∷ [])
    told_next after n strike c d = record {
      names = map-append (λ t. t.0) ts ((strike, n) ∷ []) ∙ ap (λ ks. ks ++ strike ∷ []) f.names;
      tell = subst (Tell m after) (sym (reverse-append ts ((strike, n) ∷ []))) (d, tell_on (reverse ts) c f.tell);
      earlier = c.earlier f.earlier;
    }

    tells : (after : List (Line L)) (n : ℕ) (strike : Strike) (ground : Ground) → strike.ground ≡ ground → Continues ls after → Denotes after n (tell m (λ v. conj (told m (strikes_of (reverse ts)) v)) strike.first ground) → FormulaLines m (strikes ++ strike ∷ []) after (ts ++ (strike, n) ∷ [])
    tells after n strike ground is c d =
        told_next after n strike c (subst (λ g. Denotes after n (tell m (λ v. conj (told m (strikes_of (reverse ts)) v)) strike.first g)) (sym is) d)

    pub tells_label : (after : List (Line L)) (n : ℕ) (strike : Strike) (a : L) → strike.ground ≡ ByLabel → label_of m strike.first ≡ Some a → Added ls (At a) n after → FormulaLines m (strikes ++ strike ∷ []) after (ts ++ (strike, n) ∷ [])
    tells_label after n strike a is label added = tells after n strike ByLabel is (added_continues added refl) (added_denotes added (ap at_label (sym label)))

    pub tells_no_label : (after : List (Line L)) (n : ℕ) (strike : Strike) → strike.ground ≡ ByLabel → label_of m strike.first ≡ None → Added ls True n after → FormulaLines m (strikes ++ strike ∷ []) after (ts ++ (strike, n) ∷ [])
    tells_no_label after n strike is label added = tells after n strike ByLabel is (added_continues added refl) (added_denotes added (ap at_label (sym label)))

    pub tells_step : (mid last after : List (Line L)) (i j n : ℕ) (strike : Strike) (u : ℕ) → strike.ground ≡ ByStep u → Joins ts ls strike.first i mid → Joins ts mid u j last → Added last (Until i j) n after →
        FormulaLines m (strikes ++ strike ∷ []) after (ts ++ (strike, n) ∷ [])
    tells_step mid last after i j n strike u is one two added =
        let first = one beside in
        let second = two (subst (Beside mid) (reverse-reverse ts) (tell_beside mid (reverse ts) (tell_on (reverse ts) first.1 f.tell))) in
        let left = denotes_on second.1 first.0 in
        tells after n strike (ByStep u) is
        (continues_on (continues_on first.1 second.1) (added_continues added (both_earlier i j (length last) left.there second.0.there)))
        (added_denotes added (λ e. until ((left.said ∙ said ls strike.first (continues_self ls)) e) ((second.0.said ∙ said mid u first.1) e)))
