-- A formula stands in front of given bytes in one way only. Assumes nothing.
use Rattle.std.proofs.Common.{◌≡◌, ℕ, ◌==◌, false, List, [], ◌∷◌, ◌++◌, get_or, drop, All, refl, sym, ap, ◌∙◌, append_assoc, true, eq-eqb}
use Rattle.std.proofs.lemmas.List.Elements.{All-head, All-tail}
use Rattle.until.specs.Formulas.{Formula, truth, at, and, until}
use Rattle.text.specs.FormulaParts.{bytes_of, Labelled}

-- what a formula's bytes are with more after them
pub after_at : (a rest : List ℕ) → bytes_of (at a) ++ rest ≡ 40 ∷ 97 ∷ 116 ∷ 32 ∷ (a ++ 41 ∷ rest)
after_at a rest = simp append_assoc

pub after_and : (F G : Formula (List ℕ)) (rest : List ℕ) → bytes_of (and F G) ++ rest ≡ 40 ∷ 97 ∷ 110 ∷ 100 ∷ 32 ∷ (bytes_of F ++ 32 ∷ (bytes_of G ++ 41 ∷ rest))
after_and F G rest = simp append_assoc

pub after_until : (F G : Formula (List ℕ)) (rest : List ℕ) → bytes_of (until F G) ++ rest ≡ 40 ∷ 117 ∷ 110 ∷ 116 ∷ 105 ∷ 108 ∷ 32 ∷ (bytes_of F ++ 32 ∷ (bytes_of G ++ 41 ∷ rest))
after_until F G rest = simp append_assoc

ne : {c d : ℕ} → (c == d) ≡ false → c ≡ d → ⊥
ne {c} {d} h e = let same : (c == d) ≡ true = eq-eqb c d e in cc

-- bytes that differ at a place
pub differ : (i : ℕ) {x y : List ℕ} → x ≡ y → (get_or x i 0 == get_or y i 0) ≡ false → ⊥
differ i e h = ne h (ap (λ l. get_or l i 0) e)

-- a label ends at its bracket
same_label : (a b rest more : List ℕ) → All (λ c. (c == 41) ≡ false) a → All (λ c. (c == 41) ≡ false) b → a ++ 41 ∷ rest ≡ b ++ 41 ∷ more → (a ≡ b) × (rest ≡ more)
same_label [] [] rest more p q e = (refl, cc)
same_label [] (c ∷ b) rest more p q e = let h = All-head (λ c. (c == 41) ≡ false) c b q in absurd (ne h cc)
same_label (c ∷ a) [] rest more p q e = let h = All-head (λ c. (c == 41) ≡ false) c a p in absurd (ne h cc)
same_label (c ∷ a) (d ∷ b) rest more p q e =
    let tails = same_label a b rest more (All-tail (λ c. (c == 41) ≡ false) c a p) (All-tail (λ c. (c == 41) ≡ false) d b q) cc in
    (cc, tails.1)

abbrev SameFront : Formula (List ℕ) → Formula (List ℕ) → List ℕ → List ℕ → Type 0
SameFront F G rest more = bytes_of F ++ rest ≡ bytes_of G ++ more → (F ≡ G) × (rest ≡ more)

-- two formulas with a space between and a bracket after
same_between : (F G A B : Formula (List ℕ)) (rest more : List ℕ) → ((x y : List ℕ) → SameFront F A x y) → ((x y : List ℕ) → SameFront G B x y) → bytes_of F ++ 32 ∷ (bytes_of G ++ 41 ∷ rest) ≡ bytes_of A ++ 32 ∷ (bytes_of B ++ 41 ∷ more) → (F ≡ A) × (G ≡ B) × (rest ≡ more)
same_between F G A B rest more first second e =
    let one = first (32 ∷ (bytes_of G ++ 41 ∷ rest)) (32 ∷ (bytes_of B ++ 41 ∷ more)) e in
    let two = second (41 ∷ rest) (41 ∷ more) (ap (drop 1) one.1) in
    (one.0, two.0, ap (drop 1) two.1)

pub same_front : (F G : Formula (List ℕ)) (rest more : List ℕ) → Labelled F → Labelled G → SameFront F G rest more
same_front truth truth rest more p q e = (refl, ap (drop 6) e)
same_front truth (at b) rest more p q e = absurd (differ 1 e refl)
same_front truth (and A B) rest more p q e = absurd (differ 1 e refl)
same_front truth (until A B) rest more p q e = absurd (differ 1 e refl)
same_front (at a) truth rest more p q e = absurd (differ 1 e refl)
same_front (at a) (at b) rest more p q e =
    let labels = same_label a b rest more p.unclosed q.unclosed (ap (drop 4) (sym (after_at a rest) ∙ e ∙ after_at b more)) in
    (ap at labels.0, labels.1)
same_front (at a) (and A B) rest more p q e = absurd (differ 2 e refl)
same_front (at a) (until A B) rest more p q e = absurd (differ 1 e refl)
same_front (and F G) truth rest more p q e = absurd (differ 1 e refl)
same_front (and F G) (at b) rest more p q e = absurd (differ 2 e refl)
same_front (and F G) (and A B) rest more p q e =
    let same = same_between F G A B rest more (λ x y. same_front F A x y p.0 q.0) (λ x y. same_front G B x y p.1 q.1) (ap (drop 5) (sym (after_and F G rest) ∙ e ∙ after_and A B more)) in
    (λ i. and (same.0 i) (same.1 i), same.2)
same_front (and F G) (until A B) rest more p q e = absurd (differ 1 e refl)
same_front (until F G) truth rest more p q e = absurd (differ 1 e refl)
same_front (until F G) (at b) rest more p q e = absurd (differ 1 e refl)
same_front (until F G) (and A B) rest more p q e = absurd (differ 1 e refl)
same_front (until F G) (until A B) rest more p q e =
    let same = same_between F G A B rest more (λ x y. same_front F A x y p.0 q.0) (λ x y. same_front G B x y p.1 q.1) (ap (drop 7) (sym (after_until F G rest) ∙ e ∙ after_until A B more)) in
    (λ i. until (same.0 i) (same.1 i), same.2)
