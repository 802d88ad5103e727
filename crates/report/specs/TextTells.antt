-- What the report on a text tells. Assumes nothing.
use Rattle.std.specs.Prelude.{◌<◌}
use Rattle.model.specs.Machines.{states}
use Rattle.text.specs.declared.fault.Side.TheVariants.{Left}
use Rattle.text.specs.Readings.{Said}
use Rattle.sheet.specs.Verdicts.{size}
use Rattle.text.specs.Statements.{machine_on}
use Rattle.report.specs.Comparisons.{setting_said}
use Rattle.report.specs.Tells.{ReportTells}

-- The left has a state, the number at which the right begins is a state of both together, and the report tells what `ReportTells` says.
pub record TextTells (said : Said) : Type 0 where
  pub left : 0 < states (machine_on Left said.rows)
  pub right : states (machine_on Left said.rows) < size (setting_said said)
  pub report : ReportTells (setting_said said)
