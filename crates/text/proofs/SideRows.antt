-- The rows of one side, apart from those of the other. Assumes nothing.
use Rattle.std.proofs.Common.{◌≡◌, ℕ, Bool, true, false, cond, List, [], ◌∷◌, ◌++◌, refl, ap}
use Rattle.std.proofs.lemmas.Bool.{cond_both}
use Rattle.text.specs.declared.fault.Side.{Side}
use Rattle.text.specs.declared.fault.Side.TheVariants.{Left, Right}
use Rattle.text.specs.declared.row.Row.{Row}
use Rattle.text.specs.declared.row.Row.TheVariants.{Header, Label, Step}
use Rattle.text.specs.Rows.{same_side}
use Rattle.text.specs.Readings.{Rows, header_on, labels_on, places_on}
use Rattle.text.specs.Filling.{labels_with, steps_with, labels_stored, steps_stored}

cond_each : {A B C : Type 0} (f : A → C) (g : B → C) (t : Bool) (a b : A) (x y : B) → f a ≡ g x → f b ≡ g y → f (cond t a b) ≡ g (cond t x y)
cond_each f g true a b x y p q = p
cond_each f g false a b x y p q = q

module _ {L : Type 0} where
  abbrev pub rows_on : Side → Rows L → List (Row L)
  rows_on side [] = []
  rows_on side ((other, r) ∷ rs) = cond (same_side side other) (r ∷ rows_on side rs) (rows_on side rs)

  -- Rows with the side on which they are.
  abbrev pub on : Side → List (Row L) → Rows L
  on side [] = []
  on side (r ∷ rs) = (side, r) ∷ on side rs

  -- The rows of a text that has a right side alone.
  abbrev pub right : List (Row L) → Rows L
  right rs = on Right rs

  -- Of rows of the left and then of the right
  pub rows_of_left : (xs ys : List (Row L)) → rows_on Left (on Left xs ++ on Right ys) ≡ xs
  rows_of_left [] [] = refl
  rows_of_left [] (y ∷ ys) = rows_of_left [] ys
  rows_of_left (x ∷ xs) ys = ap (λ rows. x ∷ rows) (rows_of_left xs ys)

  pub rows_of_right : (xs ys : List (Row L)) → rows_on Right (on Left xs ++ on Right ys) ≡ ys
  rows_of_right [] [] = refl
  rows_of_right [] (y ∷ ys) = ap (λ rows. y ∷ rows) (rows_of_right [] ys)
  rows_of_right (x ∷ xs) ys = rows_of_right xs ys

  same_on_right : {C : Type 0} (f : Rows L → C) (c : C) (t : Bool) (r : Row L) (rs : List (Row L)) → c ≡ f (right (r ∷ rs)) → c ≡ f (right rs) → c ≡ f (right (cond t (r ∷ rs) rs))
  same_on_right f c t r rs p q = cond_both t _ _ (λ x. c ≡ f (right x)) (λ _. p) (λ _. q)

  module _ (side : Side) where
    pub labels_alone : (rs : Rows L) → labels_on side rs ≡ labels_on Right (right (rows_on side rs))
    labels_alone [] = refl
    labels_alone ((other, Header form n) ∷ rs) = let more = labels_alone rs in same_on_right (labels_on Right) _ (same_side side other) _ _ more more
    labels_alone ((other, Label s l) ∷ rs) = let more = labels_alone rs in cond_each (λ x. x) (λ x. labels_on Right (right x)) (same_side side other) _ _ _ _ (ap (λ x. l ∷ x) more) more
    labels_alone ((other, Step q) ∷ rs) = let more = labels_alone rs in same_on_right (labels_on Right) _ (same_side side other) _ _ more more

    pub places_alone : (rs : Rows L) → places_on side rs ≡ places_on Right (right (rows_on side rs))
    places_alone [] = refl
    places_alone ((other, Header form n) ∷ rs) = let more = places_alone rs in same_on_right (places_on Right) _ (same_side side other) _ _ more more
    places_alone ((other, Label s l) ∷ rs) = let more = places_alone rs in same_on_right (places_on Right) _ (same_side side other) _ _ more more
    places_alone ((other, Step q) ∷ rs) = let more = places_alone rs in cond_each (λ x. x) (λ x. places_on Right (right x)) (same_side side other) _ _ _ _ (ap (λ x. q ∷ x) more) more

    pub header_alone : (rs : Rows L) → header_on side rs ≡ header_on Right (right (rows_on side rs))
    header_alone [] = refl
    header_alone ((other, Header form n) ∷ rs) = cond_each (λ x. x) (λ x. header_on Right (right x)) (same_side side other) _ _ _ _ refl (header_alone rs)
    header_alone ((other, Label s l) ∷ rs) = let more = header_alone rs in same_on_right (header_on Right) _ (same_side side other) _ _ more more
    header_alone ((other, Step q) ∷ rs) = let more = header_alone rs in same_on_right (header_on Right) _ (same_side side other) _ _ more more

    pub labels_stored_alone : (rs : Rows L) (memory : List L) → labels_stored side rs memory ≡ labels_stored Right (right (rows_on side rs)) memory
    labels_stored_alone [] memory = refl
    labels_stored_alone ((other, r) ∷ rs) memory = cond_each (labels_stored side rs) (λ x. labels_stored Right (right x) memory) (same_side side other) _ _ _ _ (labels_stored_alone rs (labels_with r memory)) (labels_stored_alone rs memory)

    pub steps_stored_alone : (rs : Rows L) (memory : List ℕ) → steps_stored side rs memory ≡ steps_stored Right (right (rows_on side rs)) memory
    steps_stored_alone [] memory = refl
    steps_stored_alone ((other, r) ∷ rs) memory = cond_each (steps_stored side rs) (λ x. steps_stored Right (right x) memory) (same_side side other) _ _ _ _ (steps_stored_alone rs (steps_with r memory)) (steps_stored_alone rs memory)
