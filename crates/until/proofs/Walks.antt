-- Walks taken apart, put together and mapped. Assumes nothing.
use Rattle.std.proofs.Common.{◌≡◌, ℕ, suc, ◌<◌, ◌⊎◌, ◌∷◌, sym, refl, ap, subst, inl, inr, ⊎_elim}
use Rattle.model.specs.Machines.{Meaning, states, Step}
use Rattle.until.specs.Walks.{Walk, stop, go, steps, visited}
use Rattle.until.specs.Explored.{To}

module _ {S : ℕ → ℕ → Type 0} {ok : ℕ → Type 0} where
  -- one step more at the end
  pub walk_on : {t u s : ℕ} (w : To S ok s t) → ok t → S t u → (w' : To S ok s u) × (steps w' ≡ suc (steps w))
  walk_on {u = u} (stop e) o st = (go (subst ok (sym e) o) (subst (λ v. S v u) (sym e) st) (stop refl), refl)
  walk_on (go p e w) o st = let r = walk_on w o st in (go p e r.0, ap suc r.1)

  -- no step, or a last one
  pub walk_last : {u s : ℕ} (w : To S ok s u) → ((steps w ≡ 0) × (s ≡ u)) ⊎ ((t : ℕ) × (w' : To S ok s t) × ok t × S t u × (steps w ≡ suc (steps w')))
  walk_last (stop e) = inl (refl, e)
  walk_last (go {t = s} p e w) =
      ⊎_elim
      (λ z. inr (s, stop refl, p, subst (S s) z.1 e, ap suc z.0))
      (λ z. inr (z.0, go p e z.1, z.2, z.3, ap suc z.4))
      (walk_last w)

  -- a walk to some state ends at one
  pub walk_end : {Q : ℕ → Type 0} {s : ℕ} (w : Walk S ok Q s) → (u : ℕ) × Q u × (w' : To S ok s u) × (steps w' ≡ steps w)
  walk_end (stop {t = t} q) = (t, q, stop refl, refl)
  walk_end (go p e w) = let r = walk_end w in (r.0, r.1, go p e r.2, ap suc r.3)

  -- a walk to a state is one to where Q holds, if it does there
  pub walk_there : {Q : ℕ → Type 0} {u s : ℕ} → Q u → To S ok s u → Walk S ok Q s
  walk_there {Q} q (stop e) = stop (subst Q (sym e) q)
  walk_there q (go p e w) = go p e (walk_there q w)

  -- a walk from a state ends at a state
  pub walk_within : {n u s : ℕ} → ((a b : ℕ) → S a b → b < n) → s < n → To S ok s u → u < n
  walk_within {n} inside l (stop e) = subst (λ v. v < n) e l
  walk_within inside l (go {u = v} p e w) = walk_within inside (inside _ v e) w

module _ {L : Type 0} (m : Meaning L) where
  -- conditions that follow at every state give a walk again
  pub walk_map : {P Q P' Q' : ℕ → Type 0} (f : (u : ℕ) → u < states m → P u → P' u) (g : (u : ℕ) → u < states m → Q u → Q' u) {t : ℕ} → t < states m → Walk (Step m) P Q t → Walk (Step m) P' Q' t
  walk_map f g h (stop {t = t} q) = stop (g t h q)
  walk_map f g h (go {t = t} p e w) = go (f t h p) e (walk_map f g e.to_state w)

  -- it has the same steps and visits the same states
  pub map_steps : {P Q P' Q' : ℕ → Type 0} (f : (u : ℕ) → u < states m → P u → P' u) (g : (u : ℕ) → u < states m → Q u → Q' u) {t : ℕ} (h : t < states m) (w : Walk (Step m) P Q t) → steps (walk_map f g h w) ≡ steps w
  unfolding walk_map
  map_steps f g h (stop q) = refl
  map_steps f g h (go p e w) = ap suc (map_steps f g e.to_state w)

  pub map_visited : {P Q P' Q' : ℕ → Type 0} (f : (u : ℕ) → u < states m → P u → P' u) (g : (u : ℕ) → u < states m → Q u → Q' u) {t : ℕ} (h : t < states m) (w : Walk (Step m) P Q t) → visited (walk_map f g h w) ≡ visited w
  unfolding walk_map
  map_visited f g h (stop q) = refl
  map_visited f g h (go {t = t} p e w) = ap (λ xs. t ∷ xs) (map_visited f g e.to_state w)

  -- a walk to where another begins is one walk
  pub walk_join : {P Q : ℕ → Type 0} {t : ℕ} → Walk (Step m) P (λ u. Walk (Step m) P Q u) t → Walk (Step m) P Q t
  walk_join (stop w) = w
  walk_join (go p e w) = go p e (walk_join w)
