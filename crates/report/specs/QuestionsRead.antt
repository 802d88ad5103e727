-- What reading a text of an order, a machine and a formula leaves in memory. Assumes nothing.
use Rattle.std.specs.Prelude.{◌≡◌, ℕ, ◌-◌, ◌<◌, ◌≤◌, List, take, Result, Err, MatchResult, IsOkAnd, IsTrue}
use Rattle.model.specs.declared.flags.FlagSet.{FlagSet}
use Rattle.model.specs.declared.band.Span.{Span}
use Rattle.model.specs.Machines.{Meaning, state_bound}
use Rattle.until.specs.declared.formula.Line.{Line}
use Rattle.until.specs.Formulas.{Formula}
use Rattle.until.specs.Lines.{denoted, all_name_earlier}
use Rattle.text.specs.declared.fault.Side.TheVariants.{Right}
use Rattle.text.specs.declared.fault.Refused.{Refused}
use Rattle.text.specs.declared.order.TextOrder.{TextOrder}
use Rattle.text.specs.declared.row.Form.TheVariants.{Machine}
use Rattle.text.specs.Faults.{line_alone}
use Rattle.text.specs.OrderLines.{text_understood}
use Rattle.text.specs.Readings.{alone_said}
use Rattle.text.specs.FormulaTexts.{formula_places, FormulaSaid}
use Rattle.report.specs.declared.places.Places.{Places}
use Rattle.report.specs.declared.refused.Section.TheVariants.{Machine as MachineSection, Formula as FormulaSection}
use Rattle.report.specs.declared.refused.Spot.{Spot}
use Rattle.report.specs.declared.holding.QuestionRead.{QuestionRead}
use Rattle.text.specs.Statements.{machine_on}
use Rattle.report.specs.Sides.{first_states}
use Rattle.report.specs.QuestionsAsked.{moved, QuestionAsked}

-- The first states are a machine, and not too many.
pub record AreStates (places : Places) (m : Meaning (FlagSet × Span)) (n : ℕ) : Type 0 where
  pub machine : first_states Machine n places ≡ m
  pub few : n ≤ state_bound

-- The first states are the machine that its text says, which comes after the line of the order; or that text is refused.
abbrev pub ReadsMachine : TextOrder → List ℕ → Places → Result ℕ (Refused Spot) → Type 0
ReadsMachine order text places r =
    MatchResult (alone_said (text_understood order) text)
    (λ rs. IsOkAnd r (AreStates places (machine_on Right rs)))
    (λ e. r ≡ Err (moved MachineSection 1 (line_alone e)))

-- The first lines denote a formula, and can be evaluated.
pub record AreLines (lines : List (Line (FlagSet × Span))) (F : Formula (FlagSet × Span)) (k : ℕ) : Type 0 where
  pub some : 0 < k
  pub few : k ≤ formula_places
  pub earlier : IsTrue (all_name_earlier 0 (take k lines))
  pub denote : denoted (take k lines) (k - 1) ≡ F

-- The first lines are the formula that its text says, which comes after so many lines; or that text is refused.
pub record ReadsFormula (order : TextOrder) (text : List ℕ) (before : ℕ) (lines : List (Line (FlagSet × Span)))
    (r : Result ℕ (Refused Spot)) : Type 0 where
  pub said : Result (Formula (FlagSet × Span)) (Refused ℕ)
  pub says : FormulaSaid (text_understood order) text formula_places said
  pub reads : MatchResult said (λ F. IsOkAnd r (AreLines lines F)) (λ e. r ≡ Err (moved FormulaSection before e))

-- The order, the first states and the first lines are what is asked.
pub record IsRead (a : QuestionAsked) (r : QuestionRead) (places : Places) (lines : List (Line (FlagSet × Span))) : Type 0 where
  pub order : r.order ≡ a.order
  pub machine : AreStates places a.machine r.states
  pub formula : AreLines lines a.formula r.lines
