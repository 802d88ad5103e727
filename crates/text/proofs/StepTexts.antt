-- The text of the steps at places is that of a machine's steps, where it has them there. Assumes nothing.
use Rattle.std.proofs.Common.{◌≡◌, ℕ, zero, suc, ◌+◌, ◌*◌, ◌/◌, ◌%◌, ◌<◌, ◌≤◌, Bool, cond, List, [], ◌∷◌, ◌++◌, refl, sym, ap, ◌∙◌, arith, add-suc, add-zero, suc-mul, zero-mul, append_assoc, append-nil}
use Rattle.std.proofs.lemmas.Nat.{div-mul-add, mod-mul-add}
use Rattle.text.specs.Writings.{step_line, step_lines, step_lines_from}
use Rattle.text.proofs.Places.{picked}

-- The lines of the steps at these places.
abbrev pub step_text : ℕ → List ℕ → List ℕ
step_text n [] = []
step_text n (q ∷ qs) = step_line (q / n) (q % n) ++ step_text n qs

step_text_append : (n : ℕ) (ps qs : List ℕ) → step_text n (ps ++ qs) ≡ step_text n ps ++ step_text n qs
step_text_append n [] qs = refl
step_text_append n (p ∷ ps) qs = ap (λ x. step_line (p / n) (p % n) ++ x) (step_text_append n ps qs) ∙ sym (append_assoc (step_line (p / n) (p % n)) (step_text n ps) (step_text n qs))

-- The place s × n + t is that of a step from s to t.
pub step_text_at : (n s t : ℕ) (qs : List ℕ) → t < n → step_text n ((s * n + t) ∷ qs) ≡ step_line s t ++ step_text n qs
step_text_at n s t qs low = λ i. step_line (div-mul-add s n t low i) (mod-mul-add s n t low i) ++ step_text n qs

module _ (there : ℕ → ℕ → Bool) (n : ℕ) where
  -- There is a step at this place.
  abbrev pub step_at : ℕ → Bool
  step_at q = there (q / n) (q % n)

  one_text : (s t : ℕ) → t < n → step_text n (cond (step_at (s * n + t)) ((s * n + t) ∷ []) []) ≡ cond (there s t) (step_line s t) []
  one_text s t low = grind (arith, step_text_at n s t [] low, append-nil, div-mul-add s n t low, mod-mul-add s n t low)

  row_text : (s t : ℕ) → t ≤ n → step_text n (picked step_at (s * n)) ≡ step_lines there n s → step_text n (picked step_at (s * n + t)) ≡ step_lines there n s ++ step_lines_from there s t
  row_text s zero low before = ap (λ k. step_text n (picked step_at k)) (add-zero (s * n)) ∙ before ∙ sym (append-nil (step_lines there n s))
  row_text s (suc t) low before =
      ap (λ k. step_text n (picked step_at k)) (add-suc (s * n) t)
      ∙ step_text_append n (picked step_at (s * n + t)) _
      ∙ (λ i. row_text s t (omega arith) before i ++ one_text s t low i)
      ∙ append_assoc (step_lines there n s) (step_lines_from there s t) _

  pub steps_text : (s : ℕ) → step_text n (picked step_at (s * n)) ≡ step_lines there n s
  steps_text zero = ap (λ k. step_text n (picked step_at k)) (zero-mul n)
  steps_text (suc s) = ap (λ k. step_text n (picked step_at k)) (suc-mul s n) ∙ row_text s n (omega arith) (steps_text s)
