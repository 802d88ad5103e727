-- The lines of a formula, with labels understood, and what they denote. Assumes nothing.
use Rattle.std.proofs.Common.{◌≡◌, ℕ, suc, ◌+◌, ◌-◌, true, ◌&&◌, ltb, lt-ltb, List, [], ◌∷◌, ◌++◌, length, get_or, Option, Some, None, option_map, is_some, Bor, ℤ, refl, ap, sym, ◌∙◌, append-nil, append_assoc, length-append, add-zero, arith}
use Rattle.std.proofs.lemmas.Bool.{and_parts, and_from}
use Rattle.std.specs.List.{list_all}
use Rattle.std.proofs.lemmas.Grind.{common_steps}
use Rattle.until.specs.declared.formula.Line.{Line}
use Rattle.until.specs.declared.formula.Line.TheVariants.{At, And, Until}
use Rattle.until.specs.Formulas.{Formula, truth, at, and, until}
use Rattle.until.specs.Lines.{formula_of, formulas_from, denoted, names_earlier, all_name_earlier}
use Rattle.text.specs.Numbers.{both}
use Rattle.text.specs.FormulaTexts.{formula_by, size, own, flat}
use Rattle.text.specs.FormulaParts.{line_with, shown, label_of, line_of, lines_of}
use Rattle.text.proofs.FormulaSizes.{size_some, length-flat}
use Rattle.text.proofs.FormulaWritten.{mapped}
use Rattle.text.proofs.AllThere.{both_parts}

-- a formula with its labels read has as many lines
size_by : {A L : Type 0} (f : A → Option L) (F : Formula A) (G : Formula L) → formula_by f F ≡ Some G → size G ≡ size F
size_by f truth G e = let same : truth ≡ G = cc in ap size (sym same)
size_by f (at a) G e = let label = mapped at (f a) G e in ap size (sym label.2)
size_by f (and F G) H e =
    let parts = both_parts and (formula_by f F) (formula_by f G) H e in
    ap size (sym parts.are) ∙ (λ i. size_by f F parts.first parts.first_so i + size_by f G parts.second parts.second_so i + 1)
size_by f (until F G) H e =
    let parts = both_parts until (formula_by f F) (formula_by f G) H e in
    ap size (sym parts.are) ∙ (λ i. size_by f F parts.first parts.first_so i + size_by f G parts.second parts.second_so i + 1)

both_assoc : {A : Type 0} (a : Option A) (b c : Option (List A)) → both ◌∷◌ a (both ◌++◌ b c) ≡ both ◌++◌ (both ◌∷◌ a b) c
both_assoc None b c = refl
both_assoc (Some x) None c = refl
both_assoc (Some x) (Some xs) None = refl
both_assoc (Some x) (Some xs) (Some ys) = refl

nothing_before : {A : Type 0} (xs : Option (List A)) → xs ≡ both ◌++◌ (Some []) xs
nothing_before None = refl
nothing_before (Some xs) = refl

module _ {L : Type 0} (understood : List ℤ → Option L) where
  pub lines_of-append : (xs ys : List (Line (List ℕ))) → lines_of understood (xs ++ ys) ≡ both ◌++◌ (lines_of understood xs) (lines_of understood ys)
  lines_of-append [] ys = nothing_before (lines_of understood ys)
  lines_of-append (x ∷ xs) ys =
      ap (both ◌∷◌ (line_of understood x)) (lines_of-append xs ys) ∙ both_assoc (line_of understood x) (lines_of understood xs) (lines_of understood ys)

  two_lines : (join : Formula L → Formula L → Formula L) (line : ℕ → ℕ → Line L) (k : ℕ) (F G : Formula (List ℕ)) → ((A B : Formula L) → flat k (join A B) ≡ flat k A ++ (flat (k + size A) B ++ line (own k A) (own (k + size A) B) ∷ [])) → (a b : Option (Formula L)) → formula_by (label_of understood) F ≡ a → formula_by (label_of understood) G ≡ b →
      both ◌++◌ (option_map (flat k) a) (both ◌++◌ (option_map (flat (k + size F)) b) (Some (line (own k F) (own (k + size F) G) ∷ []))) ≡ option_map (flat k) (both join a b)
  two_lines join line k F G h None b p q = refl
  two_lines join line k F G h (Some A) None p q = refl
  two_lines join line k F G h (Some A) (Some B) p q =
      let m : size F ≡ size A = sym (size_by (label_of understood) F A p) in
      let n : size G ≡ size B = sym (size_by (label_of understood) G B q) in
      (λ i. Some (flat k A ++ (flat (k + m i) B ++ line (k + m i - 1) (k + m i + n i - 1) ∷ []))) ∙ ap Some (sym (h A B))

  -- reading labels line by line is reading those of the formula
  pub lines_flat : (k : ℕ) (F : Formula (List ℕ)) → lines_of understood (flat k F) ≡ option_map (flat k) (formula_by (label_of understood) F)
  lines_flat k truth = refl
  lines_flat k (at bytes) = one (label_of understood bytes)
    where
      one : (label : Option L) → both ◌∷◌ (option_map At label) (Some []) ≡ option_map (flat k) (option_map at label)
      one None = refl
      one (Some l) = refl
  lines_flat k (and F G) =
      let last : List (Line (List ℕ)) = And (own k F) (own (k + size F) G) ∷ [] in
      lines_of-append (flat k F) (flat (k + size F) G ++ last)
      ∙ ap (both ◌++◌ (lines_of understood (flat k F))) (lines_of-append (flat (k + size F) G) last)
      ∙ (λ i. both ◌++◌ (lines_flat k F i) (both ◌++◌ (lines_flat (k + size F) G i) (lines_of understood last)))
      ∙ two_lines and And k F G (λ A B. refl) (formula_by (label_of understood) F) (formula_by (label_of understood) G) refl refl
  lines_flat k (until F G) =
      let last : List (Line (List ℕ)) = Until (own k F) (own (k + size F) G) ∷ [] in
      lines_of-append (flat k F) (flat (k + size F) G ++ last)
      ∙ ap (both ◌++◌ (lines_of understood (flat k F))) (lines_of-append (flat (k + size F) G) last)
      ∙ (λ i. both ◌++◌ (lines_flat k F i) (both ◌++◌ (lines_flat (k + size F) G i) (lines_of understood last)))
      ∙ two_lines until Until k F G (λ A B. refl) (formula_by (label_of understood) F) (formula_by (label_of understood) G) refl refl

module _ {L : Type 0} where
  -- the formulas of the lines of a formula but for its own
  abbrev before_own : Formula L → List (Formula L)
  before_own truth = []
  before_own (at a) = []
  before_own (and F G) = (before_own F ++ F ∷ []) ++ (before_own G ++ G ∷ [])
  before_own (until F G) = (before_own F ++ F ∷ []) ++ (before_own G ++ G ∷ [])

  length-before_own : (F : Formula L) → length (before_own F) + 1 ≡ size F
  length-before_own truth = refl
  length-before_own (at a) = refl
  length-before_own (and F G) = omega (arith, length-append {A = Formula L}, length-before_own F, length-before_own G)
  length-before_own (until F G) = omega (arith, length-append {A = Formula L}, length-before_own F, length-before_own G)

  formulas_from-append : (fs : List (Formula L)) (xs ys : List (Line L)) → formulas_from fs (xs ++ ys) ≡ formulas_from (formulas_from fs xs) ys
  formulas_from-append fs [] ys = refl
  formulas_from-append fs (x ∷ xs) ys = formulas_from-append (fs ++ formula_of fs x ∷ []) xs ys

  at_own : (fs more : List (Formula L)) (F : Formula L) → get_or (fs ++ ((before_own F ++ F ∷ []) ++ more)) (own (length fs) F) truth ≡ F
  at_own fs more F =
      let n = length-before_own F in
      grind (arith, common_steps, n)

  abbrev Adds : List (Formula L) → List (Line L) → List (Formula L) → Type 0
  Adds fs lines new = formulas_from fs lines ≡ fs ++ new

  adds_two : (fs : List (Formula L)) (F G : Formula L) (line : Line L) (H : Formula L) → Adds fs (flat (length fs) F) (before_own F ++ F ∷ []) → Adds (fs ++ (before_own F ++ F ∷ [])) (flat (length fs + size F) G) (before_own G ++ G ∷ []) →
      formula_of ((fs ++ (before_own F ++ F ∷ [])) ++ (before_own G ++ G ∷ [])) line ≡ H → Adds fs (flat (length fs) F ++ (flat (length fs + size F) G ++ line ∷ [])) (((before_own F ++ F ∷ []) ++ (before_own G ++ G ∷ [])) ++ H ∷ [])
  adds_two fs F G line H one two three =
      formulas_from-append fs (flat (length fs) F) (flat (length fs + size F) G ++ line ∷ [])
      ∙ formulas_from-append (formulas_from fs (flat (length fs) F)) (flat (length fs + size F) G) (line ∷ [])
      ∙ ap (λ gs. formulas_from (formulas_from gs (flat (length fs + size F) G)) (line ∷ [])) one
      ∙ ap (λ gs. formulas_from gs (line ∷ [])) two
      ∙ ap (λ h. ((fs ++ (before_own F ++ F ∷ [])) ++ (before_own G ++ G ∷ [])) ++ h ∷ []) three
      ∙ simp append_assoc

  length_after : (fs : List (Formula L)) (F : Formula L) → length (fs ++ (before_own F ++ F ∷ [])) ≡ length fs + size F
  length_after fs F = omega (arith, length-append {A = Formula L}, length-before_own F)

  own_first : (fs more : List (Formula L)) (F : Formula L) → get_or ((fs ++ (before_own F ++ F ∷ [])) ++ more) (own (length fs) F) truth ≡ F
  own_first fs more F = ap (λ l. get_or l (own (length fs) F) truth) (append_assoc fs (before_own F ++ F ∷ []) more) ∙ at_own fs more F

  own_second : (fs : List (Formula L)) (F G : Formula L) → get_or ((fs ++ (before_own F ++ F ∷ [])) ++ (before_own G ++ G ∷ [])) (own (length fs + size F) G) truth ≡ G
  own_second fs F G =
      let front : List (Formula L) = fs ++ (before_own F ++ F ∷ []) in
      ap (λ l. get_or (front ++ l) (own (length fs + size F) G) truth) (sym (append-nil (before_own G ++ G ∷ [])))
      ∙ ap (λ n. get_or (front ++ ((before_own G ++ G ∷ []) ++ [])) (own n G) truth) (sym (length_after fs F))
      ∙ at_own front [] G

  adds : (fs : List (Formula L)) (F : Formula L) → Adds fs (flat (length fs) F) (before_own F ++ F ∷ [])
  adds fs truth = refl
  adds fs (at a) = refl
  adds fs (and F G) =
      let front : List (Formula L) = fs ++ (before_own F ++ F ∷ []) in
      let two = ap (λ n. formulas_from front (flat n G)) (sym (length_after fs F)) ∙ adds front G in
      adds_two fs F G (And (own (length fs) F) (own (length fs + size F) G)) (and F G) (adds fs F) two
      (λ i. and (own_first fs (before_own G ++ G ∷ []) F i) (own_second fs F G i))
  adds fs (until F G) =
      let front : List (Formula L) = fs ++ (before_own F ++ F ∷ []) in
      let two = ap (λ n. formulas_from front (flat n G)) (sym (length_after fs F)) ∙ adds front G in
      adds_two fs F G (Until (own (length fs) F) (own (length fs + size F) G)) (until F G) (adds fs F) two
      (λ i. until (own_first fs (before_own G ++ G ∷ []) F i) (own_second fs F G i))

  -- the last line of a formula denotes it
  pub denoted_flat : (F : Formula L) → denoted (flat 0 F) (size F - 1) ≡ F
  denoted_flat F = ap (λ fs. get_or fs (size F - 1) truth) (adds [] F) ∙ own_alone
    where
      own_alone : get_or (before_own F ++ F ∷ []) (size F - 1) truth ≡ F
      own_alone = let n = length-before_own F in grind (arith, common_steps, n)

  -- its lines name earlier lines
  earlier-append : (k : ℕ) (xs ys : List (Line L)) → all_name_earlier k xs ≡ true → all_name_earlier (k + length xs) ys ≡ true → all_name_earlier k (xs ++ ys) ≡ true
  earlier-append k [] ys p q = ap (λ n. all_name_earlier n ys) (sym (add-zero k)) ∙ q
  earlier-append k (x ∷ xs) ys p q =
      let parts = and_parts (names_earlier k x) (all_name_earlier (suc k) xs) p in
      let same : suc k + length xs ≡ k + length (x ∷ xs) = omega arith in
      and_from (names_earlier k x) (all_name_earlier (suc k) (xs ++ ys)) parts.0 (earlier-append (suc k) xs ys parts.1 (ap (λ n. all_name_earlier n ys) same ∙ q))

  both_earlier : (k : ℕ) (F G : Formula L) → (ltb (own k F) (k + size F + size G) && ltb (own (k + size F) G) (k + size F + size G)) ≡ true
  both_earlier k F G =
      and_from (ltb (own k F) (k + size F + size G)) (ltb (own (k + size F) G) (k + size F + size G))
      (lt-ltb (own k F) (k + size F + size G) (omega (arith, size_some F, size_some G)))
      (lt-ltb (own (k + size F) G) (k + size F + size G) (omega (arith, size_some G)))

  two_earlier : (k : ℕ) (F G : Formula L) (line : Line L) → all_name_earlier k (flat k F) ≡ true → all_name_earlier (k + size F) (flat (k + size F) G) ≡ true → names_earlier (k + size F + size G) line ≡ true → all_name_earlier k (flat k F ++ (flat (k + size F) G ++ line ∷ [])) ≡ true
  two_earlier k F G line p q r =
      earlier-append k (flat k F) (flat (k + size F) G ++ line ∷ []) p
      (ap (λ n. all_name_earlier (k + n) (flat (k + size F) G ++ line ∷ [])) (length-flat k F)
      ∙ earlier-append (k + size F) (flat (k + size F) G) (line ∷ []) q
      (ap (λ n. names_earlier (k + size F + n) line && true) (length-flat (k + size F) G) ∙ and_from (names_earlier (k + size F + size G) line) true r refl))

  pub earlier_flat : (k : ℕ) (F : Formula L) → all_name_earlier k (flat k F) ≡ true
  earlier_flat k truth = refl
  earlier_flat k (at a) = refl
  earlier_flat k (and F G) = two_earlier k F G (And (own k F) (own (k + size F) G)) (earlier_flat k F) (earlier_flat (k + size F) G) (both_earlier k F G)
  earlier_flat k (until F G) = two_earlier k F G (Until (own k F) (own (k + size F) G)) (earlier_flat k F) (earlier_flat (k + size F) G) (both_earlier k F G)

-- labels are read where each is
module _ {L : Type 0} (understood : List ℤ → Option L) where
  both_there : {A : Type 0} (a : Option A) (b : Option (List A)) → is_some (both ◌∷◌ a b) ≡ (is_some a && is_some b)
  both_there None b = refl
  both_there (Some a) None = refl
  both_there (Some a) (Some b) = refl

  pub each_there : (lines : List (Line (Bor (List ℕ)))) → list_all (λ l. is_some (line_of understood (line_with (λ b. b.now) l))) lines ≡ is_some (lines_of understood (shown lines))
  each_there [] = refl
  each_there (l ∷ ls) =
      ap (λ b. is_some (line_of understood (line_with (λ b. b.now) l)) && b) (each_there ls)
      ∙ sym (both_there (line_of understood (line_with (λ b. b.now) l)) (lines_of understood (shown ls)))
