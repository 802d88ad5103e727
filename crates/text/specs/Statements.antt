-- What is proved of texts of machines. Assumes nothing.
use Rattle.std.specs.Prelude.{◌≡◌, ℕ, ◌+◌, ◌<◌, ◌≤◌, List, length, Option, Some, Ok, ℤ}
use Rattle.model.specs.declared.flags.FlagSet.{FlagSet}
use Rattle.model.specs.declared.band.Span.{Span}
use Rattle.model.specs.Machines.{Meaning, Bounded, states, table_meaning, trace_meaning, state_bound}
use Rattle.text.specs.declared.fault.Side.{Side}
use Rattle.text.specs.declared.fault.Side.TheVariants.{Left, Right}
use Rattle.text.specs.declared.row.Form.{Form}
use Rattle.text.specs.declared.row.Form.TheVariants.{Machine, Trace}
use Rattle.text.specs.declared.order.TextOrder.{TextOrder}
use Rattle.text.specs.OrderLines.{text_spelled}
use Rattle.text.specs.Readings.{Rows, Said, alone_said, two_said, labels_on, places_on, header_on, side_said, side_read, grid, text_bound}
use Rattle.text.specs.Writings.{all_spelled, written, two_lines}

module _ {L : Type 0} where
  -- A table of labels and step bytes, or a trace of the labels.
  abbrev pub machine_of : Form → List L → List ℕ → Meaning L
  machine_of Machine labels steps = table_meaning labels steps
  machine_of Trace labels steps = trace_meaning labels

  -- The machine that the rows of a side say.
  abbrev pub machine_on : Side → Rows L → Meaning L
  machine_on side rs = machine_of (side_said side rs).form (labels_on side rs) (grid (length (labels_on side rs)) (places_on side rs))

  pub record SameMachine (m n : Meaning L) : Type 0 where
    pub labels : m.labels ≡ n.labels
    pub steps : (s t : ℕ) → m.step s t ≡ n.step s t

  -- The header of a side counts its labels, and these numbers write them.
  pub record SideWritten (spelled : L → Option (List ℤ)) (side : Side) (form : Form) (rs : Rows L) : Type 0 where
    pub counted : header_on side rs ≡ Some (side_read form (length (labels_on side rs)))
    pub numbers : List (List ℤ)
    pub spelled_so : all_spelled spelled (labels_on side rs) ≡ Some numbers

-- A text that is read is the one that is written for the machine that it says, whose states its header counts.
pub record IsText {L : Type 0} (spelled : L → Option (List ℤ)) (text : List ℕ) (rs : Rows L) : Type 0 where
  pub counted : side_said Right rs ≡ side_read Machine (states (machine_on Right rs))
  pub is : written spelled (machine_on Right rs) (length text) ≡ Ok text

abbrev pub ReadIsWritten : {L : Type 0} → (L → Option (List ℤ)) → (List ℤ → Option L) → Type 0
ReadIsWritten {L} spelled understood = (text : List ℕ) (rs : Rows L) → alone_said understood text ≡ Ok rs → IsText spelled text rs

-- The text is read, says the same machine, and is not too long.
pub record SaysSame {L : Type 0} (understood : List ℤ → Option L) (m : Meaning L) (text : List ℕ) : Type 0 where
  pub rs : Rows L
  pub said : alone_said understood text ≡ Ok rs
  pub same : SameMachine (machine_on Right rs) m
  pub short : length text ≤ text_bound

-- A text that is written for a machine says the same machine.
abbrev pub WrittenIsRead : {L : Type 0} → (L → Option (List ℤ)) → (List ℤ → Option L) → Type 0
WrittenIsRead {L} spelled understood =
    (m : Meaning L) → Bounded m → (room : ℕ) (text : List ℕ) → written spelled m room ≡ Ok text → SaysSame understood m text

-- No two texts say the same machine.
abbrev pub SameText : {L : Type 0} → (List ℤ → Option L) → Type 0
SameText {L} understood =
    (a b : List ℕ) (rs qs : Rows L) → alone_said understood a ≡ Ok rs → alone_said understood b ≡ Ok qs →
    SameMachine (machine_on Right rs) (machine_on Right qs) → a ≡ b

-- A text of two machines that is read is the text of its order and of the machines that it says.
pub record IsTwoText (text : List ℕ) (said : Said) : Type 0 where
  pub form : Form
  pub left : SideWritten (text_spelled said.order) Left form said.rows
  pub right : SideWritten (text_spelled said.order) Right Machine said.rows
  pub is : text ≡ two_lines said.order form (machine_on Left said.rows) left.numbers (machine_on Right said.rows) right.numbers

abbrev pub TwoIsWritten : Type 0
TwoIsWritten = (text : List ℕ) (said : Said) → two_said text ≡ Ok said → IsTwoText text said

-- A machine with any steps, or with those of a trace.
abbrev pub HasForm : {L : Type 0} → Form → Meaning L → Type 0
HasForm Machine m = Bounded m
HasForm Trace m = SameMachine (trace_meaning m.labels) m

-- The text of two machines says the same order, the same left of the same form, and the same right, and is not too long.
pub record SaysSameTwo (order : TextOrder) (form : Form) (left right : Meaning (FlagSet × Span)) (text : List ℕ) : Type 0 where
  pub said : Said
  pub read : two_said text ≡ Ok said
  pub same_order : said.order ≡ order
  pub left_is : side_said Left said.rows ≡ side_read form (states left)
  pub right_is : side_said Right said.rows ≡ side_read Machine (states right)
  pub same_left : SameMachine (machine_on Left said.rows) left
  pub same_right : SameMachine (machine_on Right said.rows) right
  pub short : length text ≤ text_bound

abbrev pub TwoIsRead : Type 0
TwoIsRead =
    (order : TextOrder) (form : Form) (left right : Meaning (FlagSet × Span)) → HasForm form left → Bounded right →
    0 < states left → 0 < states right → states left + states right ≤ state_bound →
    (left_numbers right_numbers : List (List ℤ)) → all_spelled (text_spelled order) left.labels ≡ Some left_numbers →
    all_spelled (text_spelled order) right.labels ≡ Some right_numbers →
    SaysSameTwo order form left right (two_lines order form left left_numbers right right_numbers)

-- No two texts of two machines say the same order, and the same left of the same form, and the same right.
abbrev pub SameTwoTexts : Type 0
SameTwoTexts =
    (a b : List ℕ) (p q : Said) → two_said a ≡ Ok p → two_said b ≡ Ok q → p.order ≡ q.order →
    (side_said Left p.rows).form ≡ (side_said Left q.rows).form → SameMachine (machine_on Left p.rows) (machine_on Left q.rows) →
    SameMachine (machine_on Right p.rows) (machine_on Right q.rows) → a ≡ b
