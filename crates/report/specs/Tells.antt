-- What a report tells, in the words of until formulas. Assumes nothing.
use Rattle.std.specs.Prelude.{◌≡◌, ℕ, ◌<◌, false, T, ◌↔◌, reverse, take, Some, is_some}
use Rattle.std.specs.List.{slice_get}
use Rattle.until.specs.Formulas.{Holds}
use Rattle.strikes.specs.declared.strike.Strike.{Strike}
use Rattle.strikes.specs.Told.{formula_of}
use Rattle.strikes.specs.Statements.{Entails}
use Rattle.sheet.specs.Verdicts.{Setting, size}
use Rattle.sheet.specs.Pages.{first_naming}
use Rattle.sheet.specs.Tells.{Represents}
use Rattle.report.specs.Settled.{class_on, is_below, strikes_on}

pub record ReportTells {L : Type 0} (on : Setting L) : Type 0 where
  -- A state is below another exactly when every formula of the one holds at the other.
  pub below : (s t : ℕ) → s < size on → t < size on → T (is_below on s t) ↔ Entails on.at_most on.machine s t
  -- The class of a state is the least state at which the same formulas hold.
  pub class : (s : ℕ) → s < size on → Represents on s (class_on on s)
  -- The formula of a strike, by the strikes before it, holds at its first state and fails at its second.
  pub strikes : (place : ℕ) (k : Strike) → slice_get (strikes_on on) place ≡ Some k →
      Holds on.at_most on.machine (formula_of on.machine (reverse (take place (strikes_on on))) k) k.first ×
      (Holds on.at_most on.machine (formula_of on.machine (reverse (take place (strikes_on on))) k) k.second → ⊥)
  -- Where a state is not below another, a strike names the two.
  pub all : (s t : ℕ) → s < size on → t < size on → is_below on s t ≡ false → T (is_some (first_naming (strikes_on on) s t))
