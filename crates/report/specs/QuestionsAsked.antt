-- What a text of an order, a machine and a formula asks, and what is printed of it. Assumes nothing.
use Rattle.std.specs.Prelude.{◌≡◌, ℕ, ◌+◌, ◌<◌, List, Option, Some, None, option_map, Result, Ok, Err, MatchResult, is_err, Bool, slice_index, string_bytes}
use Rattle.std.specs.Result.{result_map_both}
use Rattle.model.specs.declared.flags.FlagSet.{FlagSet}
use Rattle.model.specs.declared.band.Span.{Span}
use Rattle.model.specs.Machines.{Meaning, states}
use Rattle.until.specs.Formulas.{Formula, Holds}
use Rattle.until.specs.Lines.{Says}
use Rattle.text.specs.declared.fault.Fault.TheVariants.{OutOfOrder}
use Rattle.text.specs.declared.fault.Side.TheVariants.{Right}
use Rattle.text.specs.declared.fault.Refused.{Refused}
use Rattle.text.specs.declared.order.TextOrder.{TextOrder}
use Rattle.text.specs.Faults.{refused, line_alone}
use Rattle.text.specs.OrderLines.{text_at_most, text_understood}
use Rattle.text.specs.Readings.{alone_said}
use Rattle.text.specs.FormulaTexts.{formula_places, FormulaSaid}
use Rattle.text.specs.Questions.{Question, question}
use Rattle.report.specs.declared.refused.Section.{Section}
use Rattle.report.specs.declared.refused.Section.TheVariants.{Order, Machine as MachineSection, Formula as FormulaSection}
use Rattle.report.specs.declared.refused.Spot.{Spot}
use Rattle.report.specs.declared.report.Report.{Report}
use Rattle.report.specs.Printed.{holds_lines}
use Rattle.report.specs.Refused.{spot, refused_line}
use Rattle.text.specs.Statements.{machine_on}

-- A refusal of a part of a text, before which come so many lines.
abbrev pub moved : Section → ℕ → Refused ℕ → Refused Spot
moved section before r = refused r.fault (option_map (λ line. spot section (before + line)) r.place)

-- An answer of a part of a text, before which come so many lines.
abbrev pub moved_answer : Section → ℕ → Result ℕ (Refused ℕ) → Result ℕ (Refused Spot)
moved_answer section before r = result_map_both (λ n. n) (moved section before) r

-- An order, a machine under it, and a formula: what a text asks.
pub record QuestionAsked : Type 0 where
  pub order : TextOrder
  pub machine : Meaning (FlagSet × Span)
  pub formula : Formula (FlagSet × Span)

abbrev pub asked : TextOrder → Meaning (FlagSet × Span) → Formula (FlagSet × Span) → QuestionAsked
asked order m F = record { order = order; machine = m; formula = F }

-- The text of the formula says it, or is refused. Where there is no such text, a line is missing after the machine's.
abbrev pub AsksOf : Question → Meaning (FlagSet × Span) → Option (List ℕ) → Result QuestionAsked (Refused Spot) → Type 0
AsksOf q m None a = a ≡ Err (refused OutOfOrder (Some (spot MachineSection (q.lines + 1))))
AsksOf q m (Some text) a =
    (said : Result (Formula (FlagSet × Span)) (Refused ℕ)) × FormulaSaid (text_understood q.order) text formula_places said
    × (a ≡ result_map_both (asked q.order m) (moved FormulaSection q.lines) said)

-- What a text asks, or why it is refused: each part is read by its own rules.
abbrev pub Asks : List ℕ → Result QuestionAsked (Refused Spot) → Type 0
Asks text a =
    MatchResult (question text)
    (λ q.
    MatchResult (alone_said (text_understood q.order) q.machine)
    (λ rs. AsksOf q (machine_on Right rs) q.formula a)
    (λ e. a ≡ Err (moved MachineSection 1 (line_alone e))))
    (λ fault. a ≡ Err (refused fault (Some (spot Order 1))))

-- The lines say of each state whether the formula holds there.
pub record SaysWhere {L : Type 0} (at_most : L → L → Bool) (m : Meaning L) (F : Formula L) (lines : List ℕ) : Type 0 where
  pub row : List ℕ
  pub says : (s : ℕ) → s < states m → Says (slice_index row s) (Holds at_most m F s)
  pub is : lines ≡ holds_lines row (states m)

-- The lines of what is asked; or the refusal.
abbrev pub PrintedOf : Result QuestionAsked (Refused Spot) → List ℕ → Type 0
PrintedOf (Ok a) lines = SaysWhere (text_at_most a.order) a.machine a.formula lines
PrintedOf (Err e) lines = lines ≡ refused_line e

-- The report is what is printed of the text.
pub record IsPrinted (text : List ℕ) (report : Report) : Type 0 where
  pub asked : Result QuestionAsked (Refused Spot)
  pub asks : Asks text asked
  pub lines : PrintedOf asked (string_bytes report.lines)
  pub refusal : report.is_refusal ≡ is_err asked
