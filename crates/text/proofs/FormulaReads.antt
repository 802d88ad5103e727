-- What stands in front of bytes, by the word that they begin with. Assumes nothing.
use Rattle.std.proofs.Common.{◌≡◌, ℕ, ◌+◌, ◌*◌, ◌≤◌, ◌<◌, List, [], ◌∷◌, ◌++◌, length, drop, Bor, Option, Some, None, IfNone, ◌≢◌, refl, sym, ap, subst, ◌∙◌, append_assoc, arith, length-append}
use Rattle.std.proofs.lemmas.List.{map-append, length-map}
use Rattle.until.specs.declared.formula.Line.{Line}
use Rattle.until.specs.declared.formula.Line.TheVariants.{At, And, Until}
use Rattle.until.specs.Formulas.{Formula, truth, at, and, until}
use Rattle.text.specs.FormulaTexts.{size, own, flat}
use Rattle.text.specs.FormulaParts.{line_with, shown, bytes_of, LabelFront, Labelled, nesting, Reads, NoFront}
use Rattle.text.proofs.FormulaFronts.{after_at, after_and, after_until, same_front, differ}
use Rattle.text.proofs.FormulaSizes.{size_some, length-flat, size_bytes}

pub if_none : {T P : Type 0} (r : Option T) → P → IfNone r P
if_none None p = p
if_none (Some x) p = tt

pub shown_push : (old new : List (Line (Bor (List ℕ)))) (l : Line (Bor (List ℕ))) → new ≡ old ++ l ∷ [] → shown new ≡ shown old ++ line_with (λ b. b.now) l ∷ []
shown_push old new l e = ap shown e ∙ map-append (line_with (λ b. b.now)) old (l ∷ [])

pub length-shown : (lines : List (Line (Bor (List ℕ)))) → length (shown lines) ≡ length lines
length-shown lines = length-map lines (line_with (λ b. b.now))

-- what a formula in front takes of the room
pub spent : (bytes rest : List ℕ) (old new : List (Line (Bor (List ℕ)))) → Reads bytes rest (shown old) (shown new) → 13 * length new + 2 * length rest ≤ 13 * length old + 2 * length bytes + 1
spent bytes rest old new h =
    omega (
      arith,
      size_bytes h.formula h.front.labelled,
      ap length h.front.is,
      length-append (bytes_of h.formula) rest,
      ap length h.lines,
      length-append (shown old) (flat (length (shown old)) h.formula),
      length-flat (length (shown old)) h.formula,
      length-shown old,
      length-shown new,
    )

pub reads_some : (bytes rest : List ℕ) (old new : List (Line (Bor (List ℕ)))) → Reads bytes rest (shown old) (shown new) → 0 < length new
reads_some bytes rest old new h =
    omega (
      arith,
      ap length h.lines,
      length-append (shown old) (flat (length (shown old)) h.formula),
      length-flat (length (shown old)) h.formula,
      size_some h.formula,
      length-shown new,
    )

module _ {bytes rest : List ℕ} {before after : List (Line (List ℕ))} where
  pub reads_at : (label more : List ℕ) → bytes ≡ 40 ∷ 97 ∷ 116 ∷ 32 ∷ more → LabelFront more label rest → after ≡ before ++ At label ∷ [] → Reads bytes rest before after
  reads_at label more is front lines = record {
    formula = at label;
    front = record { labelled = front.labelled; is = is ∙ ap (λ l. 40 ∷ 97 ∷ 116 ∷ 32 ∷ l) front.is ∙ sym (after_at label rest) };
    lines = lines;
  }

-- two formulas with a space between and a bracket after
pub record ReadsTwo (bytes rest : List ℕ) (before after : List (Line (List ℕ))) (f g : ℕ) : Type 0 where
  pub first : Formula (List ℕ)
  pub second : Formula (List ℕ)
  pub labelled : Labelled first × Labelled second
  pub is : bytes ≡ bytes_of first ++ 32 ∷ (bytes_of second ++ 41 ∷ rest)
  pub lines : after ≡ before ++ (flat (length before) first ++ flat (length before + size first) second)
  pub f_is : f ≡ own (length before) first
  pub g_is : g ≡ own (length before + size first) second

pub reads_two : (bytes middle rest : List ℕ) (before between after : List (Line (List ℕ))) (f g : ℕ) → Reads bytes (32 ∷ middle) before between → Reads middle (41 ∷ rest) between after → f + 1 ≡ length between → g + 1 ≡ length after → ReadsTwo bytes rest before after f g
reads_two bytes middle rest before between after f g p q f_last g_last =
    let F = p.formula in
    let G = q.formula in
    let count : length between ≡ length before + size F = ap length p.lines ∙ omega (arith, length-append before (flat (length before) F), length-flat (length before) F) in
    let both : length after ≡ length before + size F + size G = ap length q.lines ∙ omega (arith, length-append between (flat (length between) G), length-flat (length between) G) in
    record {
      first = F;
      second = G;
      labelled = (p.front.labelled, q.front.labelled);
      is = p.front.is ∙ ap (λ l. bytes_of F ++ 32 ∷ l) q.front.is;
      lines = q.lines ∙ (λ i. p.lines i ++ flat (count i) G) ∙ append_assoc before (flat (length before) F) (flat (length before + size F) G);
      f_is = omega arith;
      g_is = omega arith;
    }

module _ {rest more : List ℕ} {before between : List (Line (List ℕ))} {f g : ℕ} (two : ReadsTwo more rest before between f g) where
  joined_lines : {after : List (Line (List ℕ))} (line : Line (List ℕ)) → after ≡ between ++ line ∷ [] → after ≡ before ++ (flat (length before) two.first ++ (flat (length before + size two.first) two.second ++ line ∷ []))
  joined_lines line e =
      e ∙ ap (λ l. l ++ line ∷ []) two.lines ∙ append_assoc before (flat (length before) two.first ++ flat (length before + size two.first) two.second) (line ∷ [])
      ∙ ap (λ l. before ++ l) (append_assoc (flat (length before) two.first) (flat (length before + size two.first) two.second) (line ∷ []))

  pub reads_and : {bytes : List ℕ} {after : List (Line (List ℕ))} → bytes ≡ 40 ∷ 97 ∷ 110 ∷ 100 ∷ 32 ∷ more → after ≡ between ++ And f g ∷ [] → Reads bytes rest before after
  reads_and is e = record {
    formula = and two.first two.second;
    front = record { labelled = two.labelled; is = is ∙ ap (λ l. 40 ∷ 97 ∷ 110 ∷ 100 ∷ 32 ∷ l) two.is ∙ sym (after_and two.first two.second rest) };
    lines = joined_lines (And (own (length before) two.first) (own (length before + size two.first) two.second)) (e ∙ (λ i. between ++ And (two.f_is i) (two.g_is i) ∷ []));
  }

  pub reads_until : {bytes : List ℕ} {after : List (Line (List ℕ))} → bytes ≡ 40 ∷ 117 ∷ 110 ∷ 116 ∷ 105 ∷ 108 ∷ 32 ∷ more → after ≡ between ++ Until f g ∷ [] → Reads bytes rest before after
  reads_until is e = record {
    formula = until two.first two.second;
    front = record { labelled = two.labelled; is = is ∙ ap (λ l. 40 ∷ 117 ∷ 110 ∷ 116 ∷ 105 ∷ 108 ∷ 32 ∷ l) two.is ∙ sym (after_until two.first two.second rest) };
    lines = joined_lines (Until (own (length before) two.first) (own (length before + size two.first) two.second)) (e ∙ (λ i. between ++ Until (two.f_is i) (two.g_is i) ∷ []));
  }

-- none stands in front where none of its parts does
pub record NoTwo (depth : ℕ) (bytes : List ℕ) : Type 0 where
  pub absent : (F G : Formula (List ℕ)) (rest : List ℕ) → nesting F ≤ depth → nesting G ≤ depth → Labelled F × Labelled G → bytes ≡ bytes_of F ++ 32 ∷ (bytes_of G ++ 41 ∷ rest) → ⊥

pub no_first : (depth : ℕ) (bytes : List ℕ) → NoFront depth bytes (32 ∷ []) → NoTwo depth bytes
no_first depth bytes none =
    record { absent = λ F G rest f g labelled is. none F (bytes_of G ++ 41 ∷ rest) f (record { labelled = labelled.0; is = is }) }

pub no_second : (depth : ℕ) (bytes middle : List ℕ) (before after : List (Line (List ℕ))) → Reads bytes (32 ∷ middle) before after → NoFront depth middle (41 ∷ []) → NoTwo depth bytes
no_second depth bytes middle before after p none =
    record {
      absent = λ F G rest f g labelled is.
          let same = same_front p.formula F (32 ∷ middle) (32 ∷ (bytes_of G ++ 41 ∷ rest)) p.front.labelled labelled.0 (sym p.front.is ∙ is) in
          none G rest g (record { labelled = labelled.1; is = ap (drop 1) same.1 });
    }

pub no_at : (depth : ℕ) (bytes more : List ℕ) → bytes ≡ 40 ∷ 97 ∷ 116 ∷ 32 ∷ more → ((label rest : List ℕ) → LabelFront more label rest → ⊥) → NoFront depth bytes []
no_at depth bytes more is none truth rest h front = differ 1 (sym is ∙ front.is) refl
no_at depth bytes more is none (at a) rest h front =
    none a rest (record { labelled = front.labelled; is = ap (drop 4) (sym is ∙ front.is ∙ after_at a rest) })
no_at depth bytes more is none (and F G) rest h front = differ 2 (sym is ∙ front.is) refl
no_at depth bytes more is none (until F G) rest h front = differ 1 (sym is ∙ front.is) refl

pub no_and : (depth : ℕ) (bytes more : List ℕ) → bytes ≡ 40 ∷ 97 ∷ 110 ∷ 100 ∷ 32 ∷ more → NoTwo depth more → NoFront (depth + 1) bytes []
no_and depth bytes more is none truth rest h front = differ 1 (sym is ∙ front.is) refl
no_and depth bytes more is none (at a) rest h front = differ 2 (sym is ∙ front.is) refl
no_and depth bytes more is none (and F G) rest h front =
    none.absent F G rest (omega arith) (omega arith) front.labelled (ap (drop 5) (sym is ∙ front.is ∙ after_and F G rest))
no_and depth bytes more is none (until F G) rest h front = differ 1 (sym is ∙ front.is) refl

pub no_until : (depth : ℕ) (bytes more : List ℕ) → bytes ≡ 40 ∷ 117 ∷ 110 ∷ 116 ∷ 105 ∷ 108 ∷ 32 ∷ more → NoTwo depth more → NoFront (depth + 1) bytes []
no_until depth bytes more is none truth rest h front = differ 1 (sym is ∙ front.is) refl
no_until depth bytes more is none (at a) rest h front = differ 1 (sym is ∙ front.is) refl
no_until depth bytes more is none (and F G) rest h front = differ 1 (sym is ∙ front.is) refl
no_until depth bytes more is none (until F G) rest h front =
    none.absent F G rest (omega arith) (omega arith) front.labelled (ap (drop 7) (sym is ∙ front.is ∙ after_until F G rest))

pub no_word : (depth : ℕ) (bytes : List ℕ) → ((rest : List ℕ) → bytes ≢ 40 ∷ 116 ∷ 114 ∷ 117 ∷ 101 ∷ 41 ∷ rest) → ((rest : List ℕ) → bytes ≢ 40 ∷ 97 ∷ 116 ∷ 32 ∷ rest) → ((rest : List ℕ) → bytes ≢ 40 ∷ 97 ∷ 110 ∷ 100 ∷ 32 ∷ rest) → ((rest : List ℕ) → bytes ≢ 40 ∷ 117 ∷ 110 ∷ 116 ∷ 105 ∷ 108 ∷ 32 ∷ rest) → NoFront depth bytes []
no_word depth bytes p q r s truth rest h front = p rest front.is
no_word depth bytes p q r s (at a) rest h front = q (a ++ 41 ∷ rest) (front.is ∙ after_at a rest)
no_word depth bytes p q r s (and F G) rest h front = r (bytes_of F ++ 32 ∷ (bytes_of G ++ 41 ∷ rest)) (front.is ∙ after_and F G rest)
no_word depth bytes p q r s (until F G) rest h front = s (bytes_of F ++ 32 ∷ (bytes_of G ++ 41 ∷ rest)) (front.is ∙ after_until F G rest)

-- a formula and the bytes after it
nesting_some : (F : Formula (List ℕ)) → 0 < nesting F
nesting_some truth = omega arith
nesting_some (at a) = omega arith
nesting_some (and F G) = omega arith
nesting_some (until F G) = omega arith

pub no_depth : (depth : ℕ) (bytes next : List ℕ) → depth < 1 → NoFront depth bytes next
no_depth depth bytes next low F rest h front = absurd (omega (arith, nesting_some F))

pub no_next : (depth : ℕ) (bytes next rest : List ℕ) (before after : List (Line (List ℕ))) → Reads bytes rest before after → ((more : List ℕ) → rest ≢ next ++ more) → NoFront depth bytes next
no_next depth bytes next rest before after reads none F more h front =
    none more (same_front reads.formula F rest (next ++ more) reads.front.labelled front.labelled (sym reads.front.is ∙ front.is)).1

pub reads_next : {bytes rest more : List ℕ} {before after : List (Line (List ℕ))} → rest ≡ more → Reads bytes rest before after → Reads bytes more before after
reads_next {bytes} {rest} {more} {before} {after} e reads = subst (λ l. Reads bytes l before after) e reads
