-- Struck pairs and their records. Assumes nothing.
use Rattle.std.proofs.Common.{◌≡◌, ℕ, ◌<◌, true, false, cond, ◌||◌, eqb, List, [], ◌∷◌, ◌++◌, reverse, length, take, is_some, Some, sym, refl, ap, ◌∙◌, subst, ⊎_elim, arith}
use mathlib.Core.Bool.{or_assoc}
use Rattle.std.specs.List.{slice_get, find, position_or_len}
use Rattle.std.proofs.lemmas.Grind.{common_steps}
use Rattle.std.proofs.lemmas.Option.{gets, slice_get_within, get_or_from_slice_get}
use Rattle.std.proofs.lemmas.List.Folds.{find_at}
use Rattle.std.proofs.lemmas.List.Sums.{passes_at_first}
use Rattle.std.proofs.lemmas.List.{reverse-append, length-take}
use Rattle.std.proofs.lemmas.Bool.{or_cases, both_ways, cases_Bool, and_parts, eqb-true, cond-true, cond-false}
use Rattle.strikes.specs.declared.strike.Strike.{Strike}
use Rattle.strikes.specs.Strikes.{names, struck, Lawful}
use Rattle.sheet.specs.Memory.{Memory}
use Rattle.sheet.specs.Verdicts.{Setting, size}
use Rattle.sheet.specs.Pages.{first_naming}

pub struck_append : (xs ys : List Strike) (s t : ℕ) → struck (xs ++ ys) s t ≡ (struck xs s t || struck ys s t)
struck_append [] ys s t = refl
struck_append (x ∷ xs) ys s t = ap (λ b. names x s t || b) (struck_append xs ys s t) ∙ sym (or_assoc (names x s t) (struck xs s t) (struck ys s t))

pub nth_take : (xs : List Strike) (n i : ℕ) → i < n → slice_get (take n xs) i ≡ slice_get xs i
nth_take xs n i h = grind (arith, common_steps, gets)

-- the first that names a pair is the first found
pub find_naming : (ks : List Strike) (s t : ℕ) → find (λ k. names k s t) ks ≡ first_naming ks s t
find_naming [] s t = refl
find_naming (k ∷ ks) s t = ap (cond (names k s t) (Some k)) (find_naming ks s t)

-- where the first record of a pair is
pub naming_record : (mem : Memory) (s t : ℕ) (k : Strike) → first_naming (take mem.made mem.records) s t ≡ Some k →
    (i : ℕ) × (i < mem.made) × (slice_get mem.records i ≡ Some k) × (i < length mem.records) × (k.first ≡ s) × (k.second ≡ t)
naming_record mem s t k e =
    let xs = take mem.made mem.records in
    let i = position_or_len (λ x. names x s t) xs in
    let at : slice_get xs i ≡ Some k = sym (find_at (λ x. names x s t) xs) ∙ find_naming xs s t ∙ e in
    let low : i < length xs = slice_get_within xs i k at in
    let named = subst (λ x. names x s t ≡ true) (get_or_from_slice_get xs i k k at) (passes_at_first (λ x. names x s t) xs k low) in
    let same = and_parts (eqb k.first s) (eqb k.second t) named in
    let early : i < mem.made = omega (arith, low, length-take mem.made mem.records) in
    (i, early, sym (nth_take mem.records mem.made i early) ∙ at, omega (arith, low, length-take mem.made mem.records), eqb-true k.first s same.0, eqb-true k.second t same.1)

-- a struck pair has a record
pub naming_there : (xs : List Strike) (s t : ℕ) → struck (reverse xs) s t ≡ true → is_some (first_naming xs s t) ≡ true
naming_there [] s t h = h
naming_there (x ∷ xs) s t h =
    ⊎_elim
    (λ e. ap is_some (cond-true (names x s t) (Some x) (first_naming xs s t) e))
    (λ e.
    let either = sym (struck_append (reverse xs) (x ∷ []) s t) ∙ ap (λ ks. struck ks s t) (sym (reverse-append (x ∷ []) xs)) ∙ h in
    ap is_some (cond-false (names x s t) (Some x) (first_naming xs s t) e)
    ∙ ⊎_elim (naming_there xs s t) (λ last. absurd (both_ways _ (ap (λ b. b || false) e) last)) (or_cases _ _ either))
    (cases_Bool (names x s t))

-- a struck pair is a pair of states
pub struck_low : {L : Type 0} (on : Setting L) (ks : List Strike) → Lawful on.at_most on.machine ks → (s t : ℕ) → struck ks s t ≡ true → (s < size on) × (t < size on)
struck_low on [] lawful s t h = absurd (both_ways false refl h)
struck_low on (k ∷ ks) lawful s t h =
    ⊎_elim
    (λ e.
    let p = and_parts (eqb k.first s) (eqb k.second t) e in
    (subst (λ v. v < size on) (eqb-true k.first s p.0) lawful.0.first_state, subst (λ v. v < size on) (eqb-true k.second t p.1) lawful.0.second_state))
    (struck_low on ks lawful.1 s t)
    (or_cases (names k s t) (struck ks s t) h)
