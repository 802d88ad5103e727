-- Both sides of a text in memory. Assumes nothing.
use Rattle.std.specs.Prelude.{◌≡◌, ℕ, ◌+◌, ◌*◌, ◌<◌, ◌≤◌, length, take}
use Rattle.model.specs.declared.flags.FlagSet.{FlagSet}
use Rattle.model.specs.declared.band.Span.{Span}
use Rattle.model.specs.Machines.{Meaning, state_bound}
use Rattle.text.specs.declared.fault.Side.TheVariants.{Left, Right}
use Rattle.text.specs.declared.reading.TwoRead.{TwoRead}
use Rattle.text.specs.declared.row.Form.{Form}
use Rattle.text.specs.declared.row.Form.TheVariants.{Machine}
use Rattle.text.specs.Rows.{label_places, step_places}
use Rattle.text.specs.Readings.{Said}
use Rattle.report.specs.declared.places.Places.{Places}
use Rattle.text.specs.Statements.{machine_of, machine_on}

-- There are as many places as a side may need.
abbrev pub HasRoom : Places → Type 0
HasRoom p = (length p.labels.items ≡ label_places) × (length p.steps.items ≡ step_places)

-- The machine of the first n states.
abbrev pub first_states : Form → ℕ → Places → Meaning (FlagSet × Span)
first_states form n p = machine_of form (take n p.labels.items) (take (n * n) p.steps.items)

-- What was read, and the first places of either side, are what the text says.
pub record AreSides (said : Said) (two : TwoRead) (left right : Places) : Type 0 where
  pub order : two.order ≡ said.order
  pub left_says : first_states two.left.form two.left.count left ≡ machine_on Left said.rows
  pub right_says : first_states Machine two.right right ≡ machine_on Right said.rows
  pub some : 0 < two.right
  pub few : two.left.count + two.right ≤ state_bound
