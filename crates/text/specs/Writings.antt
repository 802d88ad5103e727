-- How machines are written. Assumes nothing.
use Rattle.std.specs.Prelude.{◌≡◌, ℕ, zero, suc, ◌+◌, Bool, cond, List, [], ◌∷◌, ◌++◌, length, Option, Some, None, Result, Ok, Err, MatchResult, nat_lt, ℤ, pos, codes}
use Rattle.model.specs.Machines.{Meaning, states, is_sized}
use Rattle.model.specs.Memory.{over}
use Rattle.text.specs.declared.fault.Fault.{Fault}
use Rattle.text.specs.declared.fault.Fault.TheVariants.{WrongItems, WrongCount, ShortMemory}
use Rattle.text.specs.declared.word.Word.{Word}
use Rattle.text.specs.declared.word.Word.TheVariants.{Machine as MachineWord, Trace as TraceWord, Label, Step}
use Rattle.text.specs.declared.row.Form.{Form}
use Rattle.text.specs.declared.row.Form.TheVariants.{Machine, Trace}
use Rattle.text.specs.declared.order.TextOrder.{TextOrder}
use Rattle.text.specs.Numbers.{both, items}
use Rattle.text.specs.Words.{letters_of}
use Rattle.text.specs.OrderLines.{order_letters}

-- A word and numbers in brackets.
abbrev pub form : Word → List ℤ → List ℕ
form word zs = codes "(" ++ (letters_of word ++ (items zs ++ codes ")"))

-- The same with its newline.
abbrev pub line : Word → List ℤ → List ℕ
line word zs = form word zs ++ codes "\n"

abbrev pub header_line : ℕ → List ℕ
header_line n = line MachineWord (pos n ∷ [])

abbrev pub label_line : ℕ → List ℤ → List ℕ
label_line s zs = line Label (pos s ∷ zs)

abbrev pub step_line : ℕ → ℕ → List ℕ
step_line s t = line Step (pos s ∷ pos t ∷ [])

-- The numbers of all labels, where all can be written.
abbrev pub all_spelled : {L : Type 0} → (L → Option (List ℤ)) → List L → Option (List (List ℤ))
all_spelled spelled [] = Some []
all_spelled spelled (l ∷ ls) = both ◌∷◌ (spelled l) (all_spelled spelled ls)

-- The lines of labels, from that of state s on.
abbrev pub label_lines : ℕ → List (List ℤ) → List ℕ
label_lines s [] = []
label_lines s (zs ∷ rest) = label_line s zs ++ label_lines (s + 1) rest

-- The lines of the steps from s to the states below t.
abbrev pub step_lines_from : (ℕ → ℕ → Bool) → ℕ → ℕ → List ℕ
step_lines_from there s zero = []
step_lines_from there s (suc t) = step_lines_from there s t ++ cond (there s t) (step_line s t) []

-- The lines of the steps from the states below s, of n.
abbrev pub step_lines : (ℕ → ℕ → Bool) → ℕ → ℕ → List ℕ
step_lines there n zero = []
step_lines there n (suc s) = step_lines there n s ++ step_lines_from there s n

-- A machine whose labels are written by these numbers.
abbrev pub machine_lines : {L : Type 0} → Meaning L → List (List ℤ) → List ℕ
machine_lines m labels = header_line (states m) ++ (label_lines 0 labels ++ step_lines m.step (states m) (states m))

-- A trace whose labels are written by these numbers.
abbrev pub trace_lines : List (List ℤ) → List ℕ
trace_lines labels = line TraceWord (pos (length labels) ∷ []) ++ label_lines 0 labels

-- A side: a machine, or a trace, of which only the labels are written.
abbrev pub side_lines : {L : Type 0} → Form → Meaning L → List (List ℤ) → List ℕ
side_lines Machine m labels = machine_lines m labels
side_lines Trace m labels = trace_lines labels

abbrev pub order_line : TextOrder → List ℕ
order_line order = codes "(" ++ (order_letters order ++ codes ")\n")

-- A text of two machines: the order, the left and the right.
abbrev pub two_lines : {L : Type 0} → TextOrder → Form → Meaning L → List (List ℤ) → Meaning L → List (List ℤ) → List ℕ
two_lines order form left left_labels right right_labels =
    order_line order ++ (side_lines form left left_labels ++ machine_lines right right_labels)

abbrev pub fitting : ℕ → List ℕ → Result (List ℕ) Fault
fitting room text = cond (nat_lt room (length text)) (Err ShortMemory) (Ok text)

-- The text of a machine whose labels are written by these numbers, or why it is not written.
abbrev pub written_by : {L : Type 0} → Meaning L → Option (List (List ℤ)) → ℕ → Result (List ℕ) Fault
written_by m None room = Err WrongItems
written_by m (Some labels) room = cond (is_sized (states m)) (fitting room (machine_lines m labels)) (Err WrongCount)

-- The text of a machine for so much room, or why it is not written: a label that cannot be, a count, or the room.
abbrev pub written : {L : Type 0} → (L → Option (List ℤ)) → Meaning L → ℕ → Result (List ℕ) Fault
written spelled m room = written_by m (all_spelled spelled m.labels) room

-- Writing a machine answers the length of its text, which memory then begins with; a refusal leaves memory.
abbrev pub WritesMachine : {L : Type 0} → (L → Option (List ℤ)) → Meaning L → List ℕ → Result ℕ Fault → List ℕ → Type 0
WritesMachine spelled m out r after =
    MatchResult (written spelled m (length out))
    (λ text. (r ≡ Ok (length text)) × (after ≡ over text out))
    (λ fault. (r ≡ Err fault) × (after ≡ out))
