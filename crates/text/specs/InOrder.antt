-- Rows in order: which may come where what is due. Assumes nothing.
use Rattle.std.specs.Prelude.{◌≡◌, ◌+◌, ◌*◌, ◌<◌, ◌≤◌}
use Rattle.model.specs.Machines.{state_bound}
use Rattle.text.specs.declared.row.Row.{Row}
use Rattle.text.specs.declared.row.Row.TheVariants.{Header, Label, Step}
use Rattle.text.specs.declared.row.Due.{Due}
use Rattle.text.specs.declared.row.Due.TheVariants.{Header as HeaderDue, Label as LabelDue, Step as StepDue}
use Rattle.text.specs.Rows.{states_before, label_places, step_places}

-- There are not too many states, and what is due is a state, or a place among the pairs of states or right past them.
abbrev pub Within : Due → Type 0
Within (HeaderDue side before) = before ≤ state_bound
Within (LabelDue at s) = (s < at.count) × (at.count ≤ state_bound)
Within (StepDue at place) = (at.count ≤ state_bound) × (place ≤ at.count * at.count)

-- The row may come where this is due.
abbrev pub Fits : {L : Type 0} → Due → Row L → Type 0
Fits due (Header form n) = (0 < n) × (states_before due + n ≤ state_bound)
Fits (LabelDue at s) (Label k l) = k ≡ s
Fits (StepDue at place) (Step q) = (place ≤ q) × (q < at.count * at.count)
Fits due r = ⊥

-- The numbers of the row are places of the memory that a side lends.
abbrev pub Storable : {L : Type 0} → Row L → Type 0
Storable (Header form n) = n * n ≤ step_places
Storable (Label s l) = s < label_places
Storable (Step q) = q < step_places
