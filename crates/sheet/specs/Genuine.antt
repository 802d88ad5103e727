-- Memory that came about by strikes with a ground, one after the other, since the sheet was begun. Assumes nothing.
use Rattle.std.specs.Prelude.{◌≡◌, ℕ, ◌<◌, ◌≤◌, Bool, true, not, List, take}
use Rattle.strikes.specs.declared.strike.Strike.{Strike}
use Rattle.strikes.specs.Strikes.{struck, Lawful, Stable}
use Rattle.sheet.specs.Memory.{Memory, stands, history, Ready}
use Rattle.sheet.specs.Verdicts.{Setting, size}

-- The bytes of n rows of n say what the strikes say.
abbrev pub Agrees : ℕ → List ℕ → List Strike → Type 0
Agrees n pairs ks = (s t : ℕ) → s < n → t < n → stands n pairs s t ≡ not (struck ks s t)

-- Each strike was fair when it was made, and the bytes say which pairs are struck. On a settled sheet no standing pair
-- has a ground.
pub record Genuine {L : Type 0} (on : Setting L) (is_settled : Bool) (mem : Memory) : Type 0 where
  pub ready : Ready (size on) mem
  pub lawful : Lawful on.at_most on.machine (history mem)
  pub agrees : Agrees (size on) mem.pairs (history mem)
  pub stable : is_settled ≡ true → Stable on.at_most on.machine (history mem)

-- Strikes are only added: those made before are where they were.
pub record Grown (before after : Memory) : Type 0 where
  pub more : before.made ≤ after.made
  pub kept : take before.made after.records ≡ take before.made before.records
