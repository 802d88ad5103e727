-- The formula that a line writes is the one in front of its bytes. Assumes nothing.
use Rattle.std.proofs.Common.{◌≡◌, ℕ, ◌<◌, ◌≤◌, List, [], ◌∷◌, ◌++◌, length, Option, Some, None, option_map, option_and_then, ℤ, refl, ap, sym, ◌∙◌, append-nil, arith}
use Rattle.until.specs.Formulas.{Formula, truth, at, and, until}
use Rattle.text.specs.Lines.{pieces}
use Rattle.text.specs.Numbers.{both, numbers, items}
use Rattle.text.specs.Spelling.{Spelling}
use Rattle.text.specs.FormulaTexts.{letters, formula_by, formula_label, deepest, Writes}
use Rattle.text.specs.FormulaParts.{bytes_of, Labelled, Front, NoFront, label_of}
use Rattle.text.proofs.AllThere.{both_parts}
use Rattle.text.proofs.FormulaFronts.{same_front}
use Rattle.text.proofs.FormulaDepths.{nesting_deepest}
use Rattle.text.proofs.FormulaLabels.{label_bytes, is_label, items_bytes, understood_small, label_back}

pub mapped : {A B : Type 0} (f : A → B) (o : Option A) (b : B) → option_map f o ≡ Some b → (a : A) × (o ≡ Some a) × (f a ≡ b)
mapped f None b e = cc
mapped f (Some a) b e = (a, refl, cc)

chained : {A B : Type 0} (f : A → Option B) (o : Option A) (b : B) → option_and_then f o ≡ Some b → (a : A) × (o ≡ Some a) × (f a ≡ Some b)
chained f None b e = cc
chained f (Some a) b e = (a, refl, e)

module _ {L : Type 0} {spelled : L → Option (List ℤ)} (understood : List ℤ → Option L) (spelling : Spelling spelled understood) where
  -- the same formula with its labels as bytes
  record AsBytes (N : Formula (List ℤ)) (F : Formula (List ℕ)) (G : Formula L) : Type 0 where
    labelled : Labelled F
    is : bytes_of F ≡ letters N
    same : formula_by (label_of understood) F ≡ Some G

  as_bytes : (N : Formula (List ℤ)) (G : Formula L) → formula_by (formula_label understood) N ≡ Some G → (F : Formula (List ℕ)) × AsBytes N F G
  as_bytes truth G e = (truth, record { labelled = tt; is = refl; same = e })
  as_bytes (at []) G e = cc
  as_bytes (at (z ∷ zs)) G e =
      let label = mapped at (understood (z ∷ zs)) G e in
      let small = understood_small understood spelling (z ∷ zs) label.0 label.1 in
      (at (label_bytes (z ∷ zs)), record { labelled = is_label z zs small; is = refl; same = ap (option_map at) (label_back understood spelling z zs small) ∙ e })
  as_bytes (and M N) G e =
      let parts = both_parts and (formula_by (formula_label understood) M) (formula_by (formula_label understood) N) G e in
      let one = as_bytes M parts.first parts.first_so in
      let two = as_bytes N parts.second parts.second_so in (
        and one.0 two.0,
        record {
          labelled = (one.1.labelled, two.1.labelled);
          is = λ i. 40 ∷ 97 ∷ 110 ∷ 100 ∷ 32 ∷ (one.1.is i ++ (32 ∷ (two.1.is i ++ 41 ∷ [])));
          same = (λ i. both and (one.1.same i) (two.1.same i)) ∙ ap Some parts.are;
        },
      )
  as_bytes (until M N) G e =
      let parts = both_parts until (formula_by (formula_label understood) M) (formula_by (formula_label understood) N) G e in
      let one = as_bytes M parts.first parts.first_so in
      let two = as_bytes N parts.second parts.second_so in (
        until one.0 two.0,
        record {
          labelled = (one.1.labelled, two.1.labelled);
          is = λ i. 40 ∷ 117 ∷ 110 ∷ 116 ∷ 105 ∷ 108 ∷ 32 ∷ (one.1.is i ++ (32 ∷ (two.1.is i ++ 41 ∷ [])));
          same = (λ i. both until (one.1.same i) (two.1.same i)) ∙ ap Some parts.are;
        },
      )

  as_numbers : (F : Formula (List ℕ)) (G : Formula L) → formula_by (label_of understood) F ≡ Some G → (N : Formula (List ℤ)) × (letters N ≡ bytes_of F) × (formula_by (formula_label understood) N ≡ Some G)
  as_numbers truth G e = (truth, refl, e)
  as_numbers (at bytes) G e =
      let label = mapped at (label_of understood bytes) G e in
      let zs = chained understood (numbers (pieces 32 bytes)) label.0 label.1 in
      go zs.0 (items_bytes bytes zs.0 zs.1) (ap (option_map at) zs.2 ∙ ap Some label.2)
    where
      go : (zs : List ℤ) → items zs ≡ 32 ∷ bytes → option_map at (understood zs) ≡ Some G → (N : Formula (List ℤ)) × (letters N ≡ bytes_of (at bytes)) × (formula_by (formula_label understood) N ≡ Some G)
      go [] is e = cc
      go (z ∷ zs) is e = (at (z ∷ zs), ap (λ l. 40 ∷ 97 ∷ 116 ∷ (l ++ 41 ∷ [])) is, e)
  as_numbers (and F G) H e =
      let parts = both_parts and (formula_by (label_of understood) F) (formula_by (label_of understood) G) H e in
      let one = as_numbers F parts.first parts.first_so in
      let two = as_numbers G parts.second parts.second_so in (
        and one.0 two.0,
        λ i. 40 ∷ 97 ∷ 110 ∷ 100 ∷ 32 ∷ (one.1 i ++ (32 ∷ (two.1 i ++ 41 ∷ []))),
        (λ i. both and (one.2 i) (two.2 i)) ∙ ap Some parts.are,
      )
  as_numbers (until F G) H e =
      let parts = both_parts until (formula_by (label_of understood) F) (formula_by (label_of understood) G) H e in
      let one = as_numbers F parts.first parts.first_so in
      let two = as_numbers G parts.second parts.second_so in (
        until one.0 two.0,
        λ i. 40 ∷ 117 ∷ 110 ∷ 116 ∷ 105 ∷ 108 ∷ 32 ∷ (one.1 i ++ (32 ∷ (two.1 i ++ 41 ∷ []))),
        (λ i. both until (one.2 i) (two.2 i)) ∙ ap Some parts.are,
      )

  none_by : (N : Formula (List ℤ)) (H : Option (Formula L)) → formula_by (formula_label understood) N ≡ H → ((G : Formula L) → formula_by (formula_label understood) N ≡ Some G → ⊥) → H ≡ None
  none_by N None e absent = refl
  none_by N (Some G) e absent = absurd (absent G e)

  -- no formula of bytes is the line
  pub writes_none : (line : List ℕ) → ((F : Formula (List ℕ)) → Labelled F → line ≡ bytes_of F → ⊥) → Writes understood line None
  writes_none line absent N is =
      none_by N (formula_by (formula_label understood) N) refl (λ G e. let F = as_bytes N G e in absent F.0 F.1.labelled (sym is ∙ sym F.1.is))

  -- a formula of bytes is the line
  pub writes_front : (line : List ℕ) (F : Formula (List ℕ)) (G : Option (Formula L)) → Labelled F → line ≡ bytes_of F → formula_by (label_of understood) F ≡ G → Writes understood line G
  writes_front line F (Some G) labelled is e = let N = as_numbers F G e in (N.0, N.1 ∙ sym is, N.2)
  writes_front line F None labelled is none =
      λ N e. none_by N (formula_by (formula_label understood) N) refl
      (λ G meant.
      let A = as_bytes N G meant in
      let same = same_front A.0 F [] [] A.1.labelled labelled (ap (λ l. l ++ []) (A.1.is ∙ e ∙ is)) in
      let other : formula_by (label_of understood) F ≡ Some G = ap (formula_by (label_of understood)) (sym same.0) ∙ A.1.same in
      cc)

  pub writes_no_front : (line : List ℕ) → deepest 0 line ≤ 32 → NoFront 32 line [] → Writes understood line None
  writes_no_front line low absent =
      writes_none line
      (λ F labelled is.
      let whole : line ≡ bytes_of F ++ [] = is ∙ sym (append-nil (bytes_of F)) in
      absent F [] (omega (arith, nesting_deepest F [] labelled, ap (deepest 0) whole)) (record { labelled = labelled; is = whole }))

  pub writes_no_more : (line rest : List ℕ) (F : Formula (List ℕ)) → Front line F rest → 0 < length rest → Writes understood line None
  writes_no_more line rest F front some =
      writes_none line
      (λ G labelled is.
      let same = same_front F G rest [] front.labelled labelled (sym front.is ∙ is ∙ sym (append-nil (bytes_of G))) in
      omega (arith, ap length same.1))

  -- a line writes one formula at most
  pub writes_one : (line : List ℕ) (F G : Option (Formula L)) → Writes understood line F → Writes understood line G → F ≡ G
  writes_one line None None p q = refl
  writes_one line None (Some G) p q = let none = p q.0 q.1 in cc
  writes_one line (Some F) None p q = let none = q p.0 p.1 in cc
  writes_one line (Some F) (Some G) p q =
      let A = as_bytes p.0 F p.2 in
      let B = as_bytes q.0 G q.2 in
      let same = same_front A.0 B.0 [] [] A.1.labelled B.1.labelled (ap (λ l. l ++ []) (A.1.is ∙ p.1 ∙ sym q.1 ∙ sym B.1.is)) in
      sym A.1.same ∙ ap (formula_by (label_of understood)) same.0 ∙ B.1.same
