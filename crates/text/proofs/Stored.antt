-- What is stored of the rows of a side is what they say. Assumes nothing.
use Rattle.std.proofs.Common.{◌≡◌, ℕ, ◌≤◌, List, [], length, Option, ℤ, refl, sym, ap, ◌∙◌, arith}
use Rattle.std.specs.Prelude.{unwrap_or}
use Rattle.model.specs.Memory.{over}
use Rattle.text.specs.declared.fault.Side.{Side}
use Rattle.text.specs.declared.fault.Side.TheVariants.{Right}
use Rattle.text.specs.Rows.{label_places}
use Rattle.text.specs.Readings.{Rows, labels_on, places_on, no_side, side_said, steps_after, SideMemory, side_memory, filled}
use Rattle.text.specs.Filling.{labels_stored, steps_stored, stored}
use Rattle.text.proofs.SideRows.{rows_on, right, labels_stored_alone, steps_stored_alone}
use Rattle.text.proofs.Held.{Held, rows_of, says_header, says_labels, says_places}
use Rattle.text.proofs.LabelsInOrder.{labels_in_order}
use Rattle.text.proofs.StepsMarked.{steps_marked}

module _ {L : Type 0} {spelled : L → Option (List ℤ)} (h : Held spelled) (side : Side) (rs : Rows L) (are : rows_on side rs ≡ rows_of h) where
  labels_said : (labels : List L) → label_places ≤ length labels → labels_stored side rs labels ≡ over (labels_on side rs) labels
  labels_said labels room =
      labels_stored_alone side rs labels
      ∙ ap (λ rows. labels_stored Right (right rows) labels) are
      ∙ labels_in_order labels 0 h.labels h.places [] refl (omega (arith, h.few))
      ∙ ap (λ ls. over ls labels) (sym (says_labels h side rs are))

  steps_said : (steps : List ℕ) → steps_stored side rs steps ≡ steps_after (side_said side rs) (places_on side rs) steps
  steps_said steps =
      steps_stored_alone side rs steps
      ∙ ap (λ rows. steps_stored Right (right rows) steps) are
      ∙ steps_marked h.labels h.places steps h.rising h.form h.bare
      ∙ (λ i. steps_after (unwrap_or (sym (says_header h side rs are) i) no_side) (sym (says_places h side rs are) i) steps)

  pub rows_said : (memory : SideMemory L) → label_places ≤ length memory.labels → stored side rs memory ≡ filled side rs memory
  rows_said memory room = λ i. side_memory (labels_said memory.labels room i) (steps_said memory.steps i)
