-- What a text of two machines is compared as, and what is printed. Assumes nothing.
use Rattle.std.specs.Prelude.{ℕ, false, List, Result, Ok, Err}
use Rattle.model.specs.declared.flags.FlagSet.{FlagSet}
use Rattle.model.specs.declared.band.Span.{Span}
use Rattle.model.specs.Machines.{states, beside_meaning}
use Rattle.text.specs.declared.fault.Side.TheVariants.{Order, Left, Right}
use Rattle.text.specs.declared.fault.Place.{Place}
use Rattle.text.specs.declared.fault.Refused.{Refused}
use Rattle.text.specs.Faults.{place}
use Rattle.text.specs.OrderLines.{text_at_most}
use Rattle.text.specs.Readings.{Said, unless_refused, two_said}
use Rattle.text.specs.Statements.{machine_on}
use Rattle.sheet.specs.Verdicts.{Setting, setting}
use Rattle.report.specs.Refused.{refused_there, refused_line}
use Rattle.report.specs.Reports.{report_lines}

-- Both sides beside each other, under the order that the text names.
abbrev pub setting_said : Said → Setting (FlagSet × Span)
setting_said said = setting (text_at_most said.order) (beside_meaning (machine_on Left said.rows) (machine_on Right said.rows))

-- The report, where the right begins after the left's last state; or the refusal.
abbrev pub printed_of : Result Said (Refused Place) → List ℕ
printed_of (Ok said) = report_lines (setting_said said) (states (machine_on Left said.rows))
printed_of (Err e) = refused_line (refused_there e)

-- What a text says, if it is not too long.
abbrev pub read_of : List ℕ → Result Said (Refused Place)
read_of text = unless_refused text (place Order 1) false (two_said text)

-- What is printed of a text.
abbrev pub printed : List ℕ → List ℕ
printed text = printed_of (read_of text)
