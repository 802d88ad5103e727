-- What lines denote once more lines are added. Assumes nothing.
use Rattle.std.proofs.Common.{◌≡◌, ℕ, suc, ◌+◌, ◌<◌, true, List, [], ◌∷◌, ◌++◌, length, get_or, refl, ap, sym, ◌∙◌, append-nil, append_assoc, length-append, arith}
use Rattle.std.proofs.lemmas.Bool.{and_parts, and_from}
use Rattle.std.proofs.lemmas.Grind.{common_steps}
use Rattle.until.specs.declared.formula.Line.{Line}
use Rattle.until.specs.Formulas.{Formula, truth}
use Rattle.until.specs.Lines.{formula_of, formulas_from, formulas, denoted, names_earlier, all_name_earlier}
use Rattle.crosscheck.specs.FormulaLines.{Denotes, Continues}

module _ {L : Type 0} where
  formulas_stay : (fs : List (Formula L)) (ls : List (Line L)) (i : ℕ) → i < length fs → get_or (formulas_from fs ls) i truth ≡ get_or fs i truth
  formulas_stay fs [] i h = refl
  formulas_stay fs (l ∷ ls) i h = grind (arith, common_steps, formulas_stay (fs ++ formula_of fs l ∷ []) ls i)

  formulas_append : (fs : List (Formula L)) (ls more : List (Line L)) → formulas_from fs (ls ++ more) ≡ formulas_from (formulas_from fs ls) more
  formulas_append fs [] more = refl
  formulas_append fs (l ∷ ls) more = formulas_append (fs ++ formula_of fs l ∷ []) ls more

  formulas_length : (fs : List (Formula L)) (ls : List (Line L)) → length (formulas_from fs ls) ≡ length fs + length ls
  formulas_length fs [] = omega arith
  formulas_length fs (l ∷ ls) = omega (arith, formulas_length (fs ++ formula_of fs l ∷ []) ls, length-append {A = Formula L})

  -- a line denotes the same once more are added
  pub denoted_stays : (ls more : List (Line L)) (k : ℕ) → k < length ls → denoted (ls ++ more) k ≡ denoted ls k
  denoted_stays ls more k h =
      ap (λ fs. get_or fs k truth) (formulas_append [] ls more) ∙ formulas_stay (formulas ls) more k (omega (arith, formulas_length [] ls))

  -- a line that is added denotes its formula over what those before denote
  pub denoted_last : (ls : List (Line L)) (l : Line L) → denoted (ls ++ l ∷ []) (length ls) ≡ formula_of (formulas ls) l
  denoted_last ls l =
      let appended = formulas_append [] ls (l ∷ []) in
      let many = formulas_length [] ls in
      grind (arith, common_steps, appended, many)

  earlier_last : (k : ℕ) (ls : List (Line L)) (l : Line L) → all_name_earlier k ls ≡ true → names_earlier (k + length ls) l ≡ true → all_name_earlier k (ls ++ l ∷ []) ≡ true
  earlier_last k [] l p q = grind (arith, common_steps)
  earlier_last k (x ∷ ls) l p q =
      let parts = and_parts (names_earlier k x) (all_name_earlier (suc k) ls) p in
      let same : k + length (x ∷ ls) ≡ suc k + length ls = omega arith in
      and_from (names_earlier k x) (all_name_earlier (suc k) (ls ++ l ∷ [])) parts.0
      (earlier_last (suc k) ls l parts.1 (ap (λ n. names_earlier n l) (sym same) ∙ q))

  pub continues_self : (ls : List (Line L)) → Continues ls ls
  continues_self ls = record { more = []; begins = sym (append-nil ls); earlier = λ e. e }

  pub continues_on : {a b c : List (Line L)} → Continues a b → Continues b c → Continues a c
  continues_on {a} {b} {c} p q = record {
    more = p.more ++ q.more;
    begins = q.begins ∙ ap (λ ls. ls ++ q.more) p.begins ∙ append_assoc a p.more q.more;
    earlier = λ e. q.earlier (p.earlier e);
  }

  pub continues_add : (ls : List (Line L)) (l : Line L) → names_earlier (length ls) l ≡ true → Continues ls (ls ++ l ∷ [])
  continues_add ls l e =
      let same : 0 + length ls ≡ length ls = omega arith in
      record { more = l ∷ []; begins = refl; earlier = λ before. earlier_last 0 ls l before (ap (λ n. names_earlier n l) same ∙ e) }

  pub denotes_on : {a b : List (Line L)} {k : ℕ} {F : Formula L} → Continues a b → Denotes a k F → Denotes b k F
  denotes_on {a} {b} {k} {F} c d = record {
    there = omega (arith, ap length c.begins, length-append a c.more, d.there);
    said = ap (λ ls. denoted ls k) c.begins ∙ denoted_stays a c.more k d.there ∙ d.said;
  }
