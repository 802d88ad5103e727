-- Sweeps and passes, a turn at a time. Assumes nothing.
use Rattle.std.proofs.Common.{◌≡◌, ℕ, suc, ◌+◌, ◌-◌, ◌<◌, Bool, true, false, eqb, add-one, arith}
use Rattle.std.proofs.lemmas.Bool.{eq-eqb, ne_eqb}
use Rattle.sheet.specs.Memory.{Memory}
use Rattle.sheet.specs.Verdicts.{Setting, size, tried, swept, passed, next, settled_in}

module _ {L : Type 0} (on : Setting L) where
  pub swept_more : (start : Memory) (s t : ℕ) (now after : Memory) → now ≡ swept on start s t → after ≡ tried on now s t → after ≡ swept on start s (t + 1)
  swept_more start s t now after e f = rw (f, e, add-one)

  -- j passes more
  abbrev pub later : ℕ → Memory × ℕ → Memory × ℕ
  later j r = (r.0, r.1 + j)

  -- one pass more, after j of them
  module _ (start now after : Memory) (most j : ℕ) (low : j < most) (e : after ≡ passed on now (size on)) (h : later j (settled_in on (most - j) now) ≡ settled_in on most start) where
    turn : (b : Bool) → eqb after.made now.made ≡ b → later j (next b after (settled_in on (most - (j + 1)) after)) ≡ settled_in on most start
    turn b eb = let one_more : most - j ≡ suc (most - (j + 1)) = omega arith in rw (one_more, ← e, eb) at h

    -- that strikes
    pub settled_more : (after.made ≡ now.made → ⊥) → later (j + 1) (settled_in on (most - (j + 1)) after) ≡ settled_in on most start
    settled_more ne = let moved : (k : ℕ) → k + (j + 1) ≡ (k + 1) + j = λ k. omega arith in rw moved (turn false (ne_eqb after.made now.made ne))

    -- that strikes nothing
    pub settled_end : after.made ≡ now.made → (after, j + 1) ≡ settled_in on most start
    settled_end same = let moved : j + 1 ≡ 1 + j = omega arith in rw moved (turn true (eq-eqb after.made now.made same))
