-- Relations between one state of a lent memory and a later one, with the places from i to before j written since. Assumes nothing.
use Rattle.std.specs.Prelude.{◌≡◌, ℕ, refl}
use Rattle.std.proofs.Common.{◌∙◌}

-- What such a relation owes: it holds where nothing is written, and of one stretch of writing after another.
pub record Lasting {S : Type 0} (filled : ℕ → ℕ → S → S → Type 0) : Type 0 where
  pub at_once : (i : ℕ) (a : S) → filled i i a a
  pub then : (i j k : ℕ) (a b c : S) → filled i j a b → filled j k b c → filled i k a c

-- Where nothing but a name is kept.
pub by_name : {S N : Type 0} (name : S → N) → Lasting (λ _ _ a b. name b ≡ name a)
by_name name = record { at_once = λ i a. refl; then = λ i j k a b c p q. q ∙ p }
