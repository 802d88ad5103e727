-- Records read in turn, at the places that a range counts. Assumes nothing.
use Rattle.std.proofs.Common.{◌≡◌, ℕ, ◌+◌, ◌<◌, ◌≤◌, List, ◌∷◌, length, take, drop, Some, None, Option, ap, ◌∙◌, subst, arith}
use Rattle.std.specs.Fn.{Mut, Called}
use Rattle.std.specs.List.{slice_get}
use Rattle.std.specs.declared.iter.MapWhile.{MapWhile}
use Rattle.std.specs.declared.ops.Range.{Range}
use Rattle.std.specs.Iterator.Adapters.{map_while_source, map_while_callee, map_while_steps}
use Rattle.std.proofs.iter.Yields.{nat_range_steps}
use Rattle.std.proofs.lemmas.Grind.{common_steps}
use Rattle.std.proofs.lemmas.Option.{gets}
use Rattle.std.proofs.lemmas.Iterator.{YieldsList}
use Rattle.std.proofs.lemmas.Iterator.Splits.{YieldsList-from_shown_while}

module _ {A : Type 0} (xs : List A) (n k : ℕ) where
  next_read : (x : A) → k < n → Some x ≡ slice_get xs k → drop k (take n xs) ≡ x ∷ drop (k + 1) (take n xs)
  next_read x low at = grind (arith, common_steps, gets)

  none_past : n ≤ k → length (drop k (take n xs)) ≡ 0
  none_past h = grind (arith, common_steps, gets)

  none_read : None ≡ slice_get xs k → length (drop k (take n xs)) ≡ 0
  none_read at = grind (arith, common_steps, gets)

module _ {A F : Type 0} (g : Mut F (ℕ × Unit {0}) (Option A)) (xs : List A) {f : F} (reads : (k : ℕ) (r : Option A) (q : F) → Called g f (k, tt) r q → (q ≡ f) × (r ≡ slice_get xs k)) where
  left : MapWhile (Range ℕ) F → List A
  left s = drop s.iter.start (take s.iter.end xs)

  read_at : (s t : MapWhile (Range ℕ) F) (r : Option A) → s.f ≡ f → (k : ℕ) → k ≡ s.iter.start → Called g s.f (k, tt) r t.f → (t.f ≡ f) × (r ≡ slice_get xs s.iter.start)
  read_at s t r same k here call =
      let h = reads k r t.f (subst (λ f'. Called g f' (k, tt) r t.f) same call) in
      (h.0, h.1 ∙ ap (slice_get xs) here)

  none : (s t : MapWhile (Range ℕ) F) → s.f ≡ f → map_while_steps nat_range_steps g s None t → length (left s) ≡ 0
  unfolding left
  none s t same (Some k, step, call) = none_read xs s.iter.end s.iter.start (read_at s t None same k step.1.1 call).1
  none s t same (None, step, end) = none_past xs s.iter.end s.iter.start (omega (arith, step.1.0))

  some : (s : MapWhile (Range ℕ) F) (x : A) (t : MapWhile (Range ℕ) F) → s.f ≡ f → map_while_steps nat_range_steps g s (Some x) t → (t.f ≡ f) × (left s ≡ x ∷ left t)
  unfolding left
  some s x t same (Some k, step, call) =
      let h = read_at s t (Some x) same k step.1.1 call in
      let ends : t.iter.end ≡ s.iter.end = step.0 in
      let next : t.iter.start ≡ s.iter.start + 1 = step.1.2 in
      (h.0, rw (ends, next) (next_read xs s.iter.end s.iter.start x (omega (arith, step.1.0)) h.1))
  some s x t same (None, step, end) = cc

-- the first n of xs
pub YieldsList-from_reads : {A F : Type 0} (g : Mut F (ℕ × Unit {0}) (Option A)) (xs : List A) (n : ℕ) {f : F} {s : MapWhile (Range ℕ) F} →
    map_while_source s ≡ record { start = 0; end = n } → map_while_callee s ≡ f → ((k : ℕ) (r : Option A) (q : F) → Called g f (k, tt) r q → (q ≡ f) × (r ≡ slice_get xs k)) →
    YieldsList (map_while_steps nat_range_steps g) (λ x. x) s (take n xs)
unfolding left
YieldsList-from_reads g xs n {f} {s} is same reads =
    subst (λ (r : Range ℕ). YieldsList (map_while_steps nat_range_steps g) (λ x. x) s (drop r.start (take r.end xs))) is
    (YieldsList-from_shown_while (map_while_steps nat_range_steps g) (λ x. x) (left g xs reads) (λ s. s.f ≡ f) (none g xs reads) (some g xs reads) s same)
