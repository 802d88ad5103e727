-- What answers tell, in the words of formulas and simulations. Assumes nothing.
use Rattle.std.specs.Prelude.{◌≡◌, ℕ, ◌<◌, ◌≤◌, Bool, true, T, List, reverse, length, take, Some}
use Rattle.std.specs.List.{slice_get}
use Rattle.model.specs.Machines.{Step}
use Rattle.until.specs.Walks.{Walk, visited, Shortest}
use Rattle.until.specs.Formulas.{Holds}
use Rattle.strikes.specs.declared.strike.Strike.{Strike}
use Rattle.strikes.specs.Strikes.{struck}
use Rattle.strikes.specs.Simulations.{Simulation}
use Rattle.strikes.specs.Told.{formula_of}
use Rattle.strikes.specs.Statements.{Entails, Same}
use Rattle.sheet.specs.declared.verdict.Verdict.{Verdict}
use Rattle.sheet.specs.declared.verdict.Verdict.TheVariants.{StaysStruck, Stays, Struck}
use Rattle.sheet.specs.Memory.{Memory, stands, history}
use Rattle.sheet.specs.Verdicts.{Setting, size}

-- The pair is among the strikes made. Where memory is genuine, those are the pairs whose byte is zero.
abbrev pub IsStruck : Memory → ℕ → ℕ → Type 0
IsStruck mem s t = struck (history mem) s t ≡ true

-- The verdict says that the pair is struck.
abbrev pub SaysStruck : Verdict → Type 0
SaysStruck StaysStruck = Unit {0}
SaysStruck Stays = ⊥
SaysStruck (Struck k) = Unit {0}

module _ {L : Type 0} (on : Setting L) where
  -- c is the least state at which the same formulas hold as at s.
  pub record Represents (s c : ℕ) : Type 0 where
    pub state : c < size on
    pub alike : Same on.at_most on.machine s c
    pub least : (u : ℕ) → u < size on → Same on.at_most on.machine s u → c ≤ u

  -- k is a strike of (s, t) among those made, and its formula, by the strikes before it, holds at s and fails at t.
  pub record Shown (mem : Memory) (s t : ℕ) (k : Strike) : Type 0 where
    pub place : ℕ
    pub early : place < mem.made
    pub there : slice_get mem.records place ≡ Some k
    pub first : k.first ≡ s
    pub second : k.second ≡ t
    pub holds : Holds on.at_most on.machine (formula_of on.machine (reverse (take place mem.records)) k) s
    pub fails : Holds on.at_most on.machine (formula_of on.machine (reverse (take place mem.records)) k) t → ⊥

  -- The first k states are those of a shortest walk from t that answers the step from s to u: every formula of s holds
  -- at each state before its last, and every formula of u at its last.
  pub record Answering (s t u k : ℕ) (memory : List ℕ) : Type 0 where
    pub walk : Walk (Step on.machine) (Entails on.at_most on.machine s) (Entails on.at_most on.machine u) t
    pub shortest : Shortest walk
    pub counted : k ≡ length (visited walk)
    pub written : take k memory ≡ visited walk

  -- What stands is a simulation, and every simulation that is a test is contained in it.
  pub record Largest (pairs : List ℕ) : Type 0 where
    pub simulation : Simulation on.at_most on.machine (λ s t. T (stands (size on) pairs s t))
    pub contains : (r : ℕ → ℕ → Bool) → Simulation on.at_most on.machine (λ s t. T (r s t)) →
        (s t : ℕ) → s < size on → t < size on → T (r s t) → T (stands (size on) pairs s t)
