-- Texts laid into memory. Assumes nothing.
use Rattle.std.specs.Prelude.{◌≡◌, ℕ, ◌+◌, List, [], ◌∷◌, length, slice_set, ℤ, Option, Some, None, MatchOption}
use Rattle.text.specs.declared.writing.Pen.{Pen}

-- Memory with bytes from a place on, as far as it goes.
abbrev pub laid : List ℕ → ℕ → List ℕ → List ℕ
laid memory at [] = memory
laid memory at (b ∷ bs) = laid (slice_set memory at b) (at + 1) bs

-- A pen laid this text after what it had laid.
pub record Lays (before : Pen) (text : List ℕ) (after : Pen) : Type 0 where
  pub same_memory : after.memory.ghost_name ≡ before.memory.ghost_name
  pub memory : after.memory.now ≡ laid before.memory.now before.length text
  pub length : after.length ≡ before.length + length text

-- It laid the text that the numbers of all labels give, or answered none where a label cannot be written.
abbrev pub LaysIfSpelled : Option (List (List ℤ)) → (List (List ℤ) → List ℕ) → Pen → Option (Unit {0}) → Pen → Type 0
LaysIfSpelled labels text before r after = MatchOption labels (r ≡ None) (λ numbers. (r ≡ Some tt) × Lays before (text numbers) after)
