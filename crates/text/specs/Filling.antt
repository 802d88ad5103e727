-- Memory as the rows of a side are stored into it, one after the other. Assumes nothing.
use Rattle.std.specs.Prelude.{◌≡◌, ℕ, ◌*◌, cond, List, [], ◌∷◌, replicate, slice_set}
use Rattle.model.specs.Memory.{over}
use Rattle.text.specs.declared.fault.Side.{Side}
use Rattle.text.specs.declared.row.Form.TheVariants.{Machine, Trace}
use Rattle.text.specs.declared.row.Row.{Row}
use Rattle.text.specs.declared.row.Row.TheVariants.{Header, Label, Step}
use Rattle.text.specs.declared.lent.Lent.{Lent}
use Rattle.text.specs.Rows.{same_side}
use Rattle.text.specs.Readings.{Rows, SideMemory, side_memory}

module _ {L : Type 0} where
  -- A label is stored at its state.
  abbrev pub labels_with : Row L → List L → List L
  labels_with (Header form n) memory = memory
  labels_with (Label s l) memory = slice_set memory s l
  labels_with (Step q) memory = memory

  -- A machine's header clears its step bytes, and a step sets its own.
  abbrev pub steps_with : Row L → List ℕ → List ℕ
  steps_with (Header Machine n) memory = over (replicate (n * n) 0) memory
  steps_with (Header Trace n) memory = memory
  steps_with (Label s l) memory = memory
  steps_with (Step q) memory = slice_set memory q 1

  -- All rows of a side stored.
  abbrev pub labels_stored : Side → Rows L → List L → List L
  labels_stored side [] memory = memory
  labels_stored side ((other, r) ∷ rs) memory = labels_stored side rs (cond (same_side side other) (labels_with r memory) memory)

  abbrev pub steps_stored : Side → Rows L → List ℕ → List ℕ
  steps_stored side [] memory = memory
  steps_stored side ((other, r) ∷ rs) memory = steps_stored side rs (cond (same_side side other) (steps_with r memory) memory)

  abbrev pub with_row : Row L → SideMemory L → SideMemory L
  with_row r memory = side_memory (labels_with r memory.labels) (steps_with r memory.steps)

  abbrev pub stored : Side → Rows L → SideMemory L → SideMemory L
  stored side rs memory = side_memory (labels_stored side rs memory.labels) (steps_stored side rs memory.steps)

  -- What lent memory holds.
  abbrev pub held : Lent L → SideMemory L
  held lent = side_memory lent.labels.now lent.steps.now

  -- The same memory is lent, and it holds this now.
  pub record Keeps (before : Lent L) (memory : SideMemory L) (after : Lent L) : Type 0 where
    pub same_labels : after.labels.ghost_name ≡ before.labels.ghost_name
    pub same_steps : after.steps.ghost_name ≡ before.steps.ghost_name
    pub holds : held after ≡ memory
