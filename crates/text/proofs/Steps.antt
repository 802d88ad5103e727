-- Lines of steps laid one after the other. Assumes nothing.
use Rattle.std.proofs.Common.{◌≡◌, ℕ, ◌+◌, Bool, true, false, cond, [], ◌∷◌, ◌++◌, ℤ, pos, append-nil, subst, sym, add-one}
use Rattle.text.specs.declared.writing.Pen.{Pen}
use Rattle.text.specs.declared.word.Word.TheVariants.{Step}
use Rattle.text.specs.Writings.{line, step_line, step_lines_from, step_lines}
use Rattle.text.specs.Laying.{Lays}
use Rattle.text.proofs.Laying.{lays_then}

module _ {p : Pen} (there : ℕ → ℕ → Bool) where
  lays_if : (r : Pen) (s t : ℕ) (b : Bool) → b ≡ there s t → Lays p (step_lines_from there s t ++ cond b (step_line s t) []) r → Lays p (step_lines_from there s (t + 1)) r
  lays_if r s t b is h =
      subst (λ k. Lays p (step_lines_from there s k) r) (sym (add-one t))
      (subst (λ b. Lays p (step_lines_from there s t ++ cond b (step_line s t) []) r) is h)

  -- A step, and its line.
  pub lays_step : {q r : Pen} (s t : ℕ) (z : ℤ) → z ≡ pos t → Lays p (step_lines_from there s t) q → true ≡ there s t → Lays q (line Step (pos s ∷ z ∷ [])) r → Lays p (step_lines_from there s (t + 1)) r
  lays_step {q} {r} s t z is_t done is more =
      lays_if r s t true is (lays_then done (subst (λ y. Lays q (line Step (pos s ∷ y ∷ [])) r) is_t more))

  -- No step, and no line.
  pub lays_no_step : {q : Pen} (s t : ℕ) → Lays p (step_lines_from there s t) q → false ≡ there s t → Lays p (step_lines_from there s (t + 1)) q
  lays_no_step {q} s t done isnt = lays_if q s t false isnt (subst (λ l. Lays p l q) (sym (append-nil _)) done)

  -- The steps from one more state.
  pub lays_row : {q r : Pen} (n s : ℕ) → Lays p (step_lines there n s) q → Lays q (step_lines_from there s n) r → Lays p (step_lines there n (s + 1)) r
  lays_row {q} {r} n s done more = subst (λ k. Lays p (step_lines there n k) r) (sym (add-one s)) (lays_then done more)
