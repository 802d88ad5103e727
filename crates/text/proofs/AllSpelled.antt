-- The numbers of all labels. Assumes nothing.
use Rattle.std.proofs.Common.{◌≡◌, ℕ, zero, suc, List, [], ◌∷◌, ◌++◌, length, Option, Some, None, ℤ, refl, ap, sym, ◌∙◌}
use Rattle.std.specs.List.{slice_get}
use Rattle.text.specs.Numbers.{both}
use Rattle.text.specs.Writings.{all_spelled}
use Rattle.text.proofs.AllThere.{all_there}

module _ {L : Type 0} (spelled : L → Option (List ℤ)) where
  -- Each label has its numbers.
  pub spelled_each : (ls : List L) (numbers : List (List ℤ)) → all_spelled spelled ls ≡ Some numbers → length numbers ≡ length ls
  spelled_each [] numbers e = let none : [] ≡ numbers = cc in sym (ap length none)
  spelled_each (l ∷ ls) numbers e = let f = all_there (spelled l) (all_spelled spelled ls) numbers e in ap length f.are ∙ ap suc (spelled_each ls f.others f.others_so)

  -- One more label.
  pub spelled_push : (ls : List L) (l : L) (numbers : List (List ℤ)) (zs : List ℤ) → all_spelled spelled ls ≡ Some numbers → Some zs ≡ spelled l → all_spelled spelled (ls ++ (l ∷ [])) ≡ Some (numbers ++ (zs ∷ []))
  spelled_push [] l numbers zs e h = let none : [] ≡ numbers = cc in ap (λ x. both ◌∷◌ x (Some [])) (sym h) ∙ ap (λ x. Some (x ++ (zs ∷ []))) none
  spelled_push (x ∷ ls) l numbers zs e h =
      let f = all_there (spelled x) (all_spelled spelled ls) numbers e in
      let more = spelled_push ls l f.others zs f.others_so h in
      (λ i. both ◌∷◌ (f.first_so i) (more i)) ∙ ap (λ x. Some (x ++ (zs ∷ []))) (sym f.are)

  both_none : (o : Option (List ℤ)) → both ◌∷◌ o None ≡ None
  both_none None = refl
  both_none (Some zs) = refl

  -- A label that cannot be written.
  pub not_spelled : (ls : List L) (s : ℕ) (l : L) → slice_get ls s ≡ Some l → None ≡ spelled l → all_spelled spelled ls ≡ None
  not_spelled [] s l at h = absurd (cc)
  not_spelled (x ∷ ls) zero l at h = let same : x ≡ l = cc in ap (λ y. both ◌∷◌ y (all_spelled spelled ls)) (ap spelled same ∙ sym h)
  not_spelled (x ∷ ls) (suc s) l at h = ap (both ◌∷◌ (spelled x)) (not_spelled ls s l at h) ∙ both_none (spelled x)
