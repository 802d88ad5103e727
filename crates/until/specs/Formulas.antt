-- Until formulas, and where they hold. Assumes nothing.
use Rattle.std.specs.Prelude.{ℕ, Bool, false, T, Some, None, Option}
use Rattle.model.specs.Machines.{Meaning, label_of, Step}
use Rattle.until.specs.Walks.{Walk}

pub data Formula (L : Type 0) : Type 0 where
  truth : Formula L
  at : L → Formula L
  and : Formula L → Formula L → Formula L
  until : Formula L → Formula L → Formula L

-- a is at most the label of a state; not where there is none.
abbrev pub meets : {L : Type 0} → (L → L → Bool) → L → Option L → Bool
meets at_most a None = false
meets at_most a (Some b) = at_most a b

-- The formula holds at t. It is asked of states only.
abbrev pub Holds : {L : Type 0} → (L → L → Bool) → Meaning L → Formula L → ℕ → Type 0
Holds at_most m truth t = Unit {0}
Holds at_most m (at a) t = T (meets at_most a (label_of m t))
Holds at_most m (and F G) t = Holds at_most m F t × Holds at_most m G t
Holds at_most m (until F G) t = Walk (Step m) (λ u. Holds at_most m F u) (λ u. Holds at_most m G u) t
