-- What a side holds, its rows and its text. Assumes nothing.
use Rattle.std.proofs.Common.{◌≡◌, ℕ, ◌+◌, ◌*◌, ◌<◌, ◌≤◌, false, List, [], ◌∷◌, ◌++◌, length, Option, Some, ℤ, pos, refl, sym, ap, ◌∙◌, append_assoc}
use Rattle.model.specs.Machines.{state_bound}
use Rattle.text.specs.declared.fault.Side.{Side}
use Rattle.text.specs.declared.fault.Side.TheVariants.{Right}
use Rattle.text.specs.declared.row.Form.{Form}
use Rattle.text.specs.declared.row.Row.{Row}
use Rattle.text.specs.declared.row.Row.TheVariants.{Header, Label, Step}
use Rattle.text.specs.Rows.{is_machine}
use Rattle.text.specs.Readings.{Rows, header_on, labels_on, places_on, side_read}
use Rattle.text.specs.Writings.{line, label_lines, all_spelled}
use Rattle.text.proofs.SideLines.{header_word}
use Rattle.text.proofs.SideRows.{rows_on, right, header_alone, labels_alone, places_alone}
use Rattle.text.proofs.Places.{Rising}
use Rattle.text.proofs.StepTexts.{step_text}

module _ {L : Type 0} where
  abbrev pub step_rows : List ℕ → List (Row L)
  step_rows [] = []
  step_rows (q ∷ qs) = Step q ∷ step_rows qs

  -- The rows of labels, from that of state s on, before other rows.
  abbrev pub label_rows : ℕ → List L → List (Row L) → List (Row L)
  label_rows s [] rows = rows
  label_rows s (l ∷ ls) rows = Label s l ∷ label_rows (s + 1) ls rows

-- A side with these labels, written by these numbers, and with steps at these places; a trace has none.
pub record Held {L : Type 0} (spelled : L → Option (List ℤ)) : Type 0 where
  pub form : Form
  pub labels : List L
  pub numbers : List (List ℤ)
  pub places : List ℕ
  pub some : 0 < length labels
  pub few : length labels ≤ state_bound
  pub spelled_so : all_spelled spelled labels ≡ Some numbers
  pub rising : Rising 0 places (length labels * length labels)
  pub bare : is_machine form ≡ false → places ≡ []

module _ {L : Type 0} {spelled : L → Option (List ℤ)} (h : Held spelled) where
  abbrev pub header_of : List ℕ
  header_of = line (header_word h.form) (pos (length h.labels) ∷ [])

  abbrev pub text_of : List ℕ
  text_of = header_of ++ (label_lines 0 h.numbers ++ step_text (length h.labels) h.places)

  abbrev pub rows_of : List (Row L)
  rows_of = Header h.form (length h.labels) ∷ label_rows 0 h.labels (step_rows h.places)

  -- The text before another.
  pub text_then : (rest : List ℕ) → header_of ++ (label_lines 0 h.numbers ++ (step_text (length h.labels) h.places ++ rest)) ≡ text_of ++ rest
  text_then rest =
      let steps = step_text (length h.labels) h.places in
      ap (λ x. header_of ++ x) (sym (append_assoc (label_lines 0 h.numbers) steps rest)) ∙ sym (append_assoc header_of (label_lines 0 h.numbers ++ steps) rest)

places_of_steps : (L : Type 0) (qs : List ℕ) → places_on Right (right (step_rows {L = L} qs)) ≡ qs
places_of_steps L [] = refl
places_of_steps L (q ∷ qs) = ap (λ x. q ∷ x) (places_of_steps L qs)

module _ {L : Type 0} where
  steps_label_none : (qs : List ℕ) → labels_on {L = L} Right (right (step_rows qs)) ≡ []
  steps_label_none [] = refl
  steps_label_none (q ∷ qs) = steps_label_none qs

  labels_of_rows : (s : ℕ) (ls : List L) (qs : List ℕ) → labels_on Right (right (label_rows s ls (step_rows qs))) ≡ ls
  labels_of_rows s [] qs = steps_label_none qs
  labels_of_rows s (l ∷ ls) qs = ap (λ x. l ∷ x) (labels_of_rows (s + 1) ls qs)

  places_of_rows : (s : ℕ) (ls : List L) (qs : List ℕ) → places_on Right (right (label_rows s ls (step_rows qs))) ≡ qs
  places_of_rows s [] qs = places_of_steps L qs
  places_of_rows s (l ∷ ls) qs = places_of_rows (s + 1) ls qs

-- The rows of the side say what it holds.
module _ {L : Type 0} {spelled : L → Option (List ℤ)} (h : Held spelled) (side : Side) (rs : Rows L) (are : rows_on side rs ≡ rows_of h) where
  pub says_header : header_on side rs ≡ Some (side_read h.form (length h.labels))
  says_header = header_alone side rs ∙ ap (λ x. header_on Right (right x)) are

  pub says_labels : labels_on side rs ≡ h.labels
  says_labels = labels_alone side rs ∙ ap (λ x. labels_on Right (right x)) are ∙ labels_of_rows 0 h.labels h.places

  pub says_places : places_on side rs ≡ h.places
  says_places = places_alone side rs ∙ ap (λ x. places_on Right (right x)) are ∙ places_of_rows 0 h.labels h.places
