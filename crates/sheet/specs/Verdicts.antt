-- Tries, sweeps and passes, computed. Assumes nothing.
use Rattle.std.specs.Prelude.{ℕ, zero, suc, ◌+◌, ◌*◌, Bool, true, false, cond, not, ◌&&◌, List, Some, None, Option, ◌==◌, nat_lt, slice_set}
use Rattle.model.specs.Machines.{Meaning, states, label_of}
use Rattle.until.specs.Decided.{walks}
use Rattle.strikes.specs.declared.strike.Ground.{Ground}
use Rattle.strikes.specs.declared.strike.Ground.TheVariants.{ByLabel, ByStep}
use Rattle.strikes.specs.declared.strike.Strike.{Strike}
use Rattle.strikes.specs.Simulations.{under}
use Rattle.sheet.specs.declared.verdict.Verdict.{Verdict}
use Rattle.sheet.specs.declared.verdict.Verdict.TheVariants.{StaysStruck, Stays, Struck}
use Rattle.sheet.specs.Memory.{Memory, memory, stands}

-- The least number below n that passes, or n where none does.
abbrev pub least : (ℕ → Bool) → ℕ → ℕ
least p zero = zero
least p (suc n) = cond (p zero) zero (suc (least (λ i. p (suc i)) n))

-- A number below n, or nothing.
abbrev pub below : ℕ → ℕ → Option ℕ
below n u = cond (nat_lt u n) (Some u) None

abbrev pub strike : (first second : ℕ) (ground : Ground) → Strike
strike s t g = record { first = s; second = t; ground = g }

-- The pair is struck where there is a ground, and stays where there is none.
abbrev pub judged : ℕ → ℕ → Option Ground → Verdict
judged s t None = Stays
judged s t (Some g) = Struck (strike s t g)

-- A ground by the step to u, if there is one.
abbrev pub by_step : Option ℕ → Option Ground
by_step None = None
by_step (Some u) = Some (ByStep u)

-- A strike zeroes its byte, writes its record after the last, and counts.
abbrev pub applied : ℕ → Memory → Verdict → Memory
applied n mem StaysStruck = mem
applied n mem Stays = mem
applied n mem (Struck k) =
    memory (slice_set mem.pairs (k.first * n + k.second) 0) (slice_set mem.records mem.made k) (mem.made + 1)

module _ {L : Type 0} (m : Meaning L) where
  -- The step from s to u is answered from t among the standing pairs.
  abbrev pub answered : List ℕ → ℕ → ℕ → ℕ → Bool
  answered pairs s u t = walks m (stands (states m) pairs s) (stands (states m) pairs u) t

  -- s steps to u, and no walk from t answers.
  abbrev pub unanswered : List ℕ → ℕ → ℕ → ℕ → Bool
  unanswered pairs s t u = m.step s u && not (answered pairs s u t)

  -- The least state whose step is unanswered, if any.
  abbrev pub least_unanswered : List ℕ → ℕ → ℕ → Option ℕ
  least_unanswered pairs s t = below (states m) (least (unanswered pairs s t) (states m))

-- A machine with an order on its labels.
pub record Setting (L : Type 0) : Type 0 where
  pub at_most : L → L → Bool
  pub machine : Meaning L

abbrev pub setting : {L : Type 0} → (L → L → Bool) → Meaning L → Setting L
setting at_most m = record { at_most = at_most; machine = m }

module _ {L : Type 0} (on : Setting L) where
  abbrev pub size : ℕ
  size = states on.machine

  -- The ground to strike a standing pair on, if any: its labels, or the least state whose step is unanswered.
  abbrev pub ground_of : List ℕ → ℕ → ℕ → Option Ground
  ground_of pairs s t =
      cond (under on.at_most (label_of on.machine s) (label_of on.machine t)) (by_step (least_unanswered on.machine pairs s t)) (Some ByLabel)

  -- What a try of the pair (s, t) answers.
  abbrev pub verdict_of : List ℕ → ℕ → ℕ → Verdict
  verdict_of pairs s t = cond (stands size pairs s t) (judged s t (ground_of pairs s t)) StaysStruck

  abbrev pub tried : Memory → ℕ → ℕ → Memory
  tried mem s t = applied size mem (verdict_of mem.pairs s t)

  -- The pairs of row s tried in turn, up to column t.
  abbrev pub swept : Memory → ℕ → ℕ → Memory
  swept mem s zero = mem
  swept mem s (suc t) = tried (swept mem s t) s t

  -- The rows swept in turn, up to row s.
  abbrev pub passed : Memory → ℕ → Memory
  passed mem zero = mem
  passed mem (suc s) = swept (passed mem s) s size

-- How many strikes a verdict makes.
abbrev pub strikes_in : Verdict → ℕ
strikes_in StaysStruck = 0
strikes_in Stays = 0
strikes_in (Struck k) = 1

-- A pass that struck nothing is the last; else the rest of the passes follow.
abbrev pub next : Bool → Memory → Memory × ℕ → Memory × ℕ
next true mem rest = (mem, 1)
next false mem rest = (rest.0, rest.1 + 1)

module _ {L : Type 0} (on : Setting L) where
  -- Pass after pass until one strikes nothing, at most so many; the memory then, and the passes taken.
  abbrev pub settled_in : ℕ → Memory → Memory × ℕ
  settled_in zero mem = (mem, 0)
  settled_in (suc most) mem =
      (λ (after : Memory). next (after.made == mem.made) after (settled_in most after)) (passed on mem (size on))

  -- All passes: each but the last strikes, so one more than there are pairs is enough.
  abbrev pub settled : Memory → Memory × ℕ
  settled mem = settled_in (size on * size on + 1) mem
