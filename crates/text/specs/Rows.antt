-- What the lines of a machine's text say, and in which order they come. Assumes nothing.
use Rattle.std.specs.Prelude.{ℕ, ◌+◌, ◌*◌, Bool, true, false, cond, ◌&&◌, ◌||◌, List, [], ◌∷◌, drop, Option, Some, None, Result, Ok, Err, ◌==◌, nat_le, nat_lt, ℤ, pos, negsuc}
use Rattle.std.specs.Option.{option_map_or}
use Rattle.model.specs.Machines.{state_bound}
use Rattle.text.specs.declared.fault.Fault.{Fault}
use Rattle.text.specs.declared.fault.Fault.TheVariants.{NoForm, UnknownWord, WrongItems, OutOfOrder, WrongCount}
use Rattle.text.specs.declared.fault.Side.{Side}
use Rattle.text.specs.declared.fault.Side.TheVariants.{Order, Left, Right}
use Rattle.text.specs.declared.word.Word.{Word}
use Rattle.text.specs.declared.word.Word.TheVariants.{Machine as MachineWord, Trace as TraceWord, Label as LabelWord, Step as StepWord}
use Rattle.text.specs.declared.row.Shape.{Shape}
use Rattle.text.specs.declared.row.Shape.TheVariants.{Two, Alone}
use Rattle.text.specs.declared.row.Form.{Form}
use Rattle.text.specs.declared.row.Form.TheVariants.{Machine, Trace}
use Rattle.text.specs.declared.row.Part.{Part}
use Rattle.text.specs.declared.row.Row.{Row}
use Rattle.text.specs.declared.row.Row.TheVariants.{Header, Label, Step}
use Rattle.text.specs.declared.row.Due.{Due}
use Rattle.text.specs.declared.row.Due.TheVariants.{Header as HeaderDue, Label as LabelDue, Step as StepDue}
use Rattle.text.specs.Lines.{is_line, words, first_word}
use Rattle.text.specs.Numbers.{numbers}
use Rattle.text.specs.Words.{word_of}

-- The labels and the step bytes for which a side lends memory.
abbrev pub label_places : ℕ
label_places = state_bound

abbrev pub step_places : ℕ
step_places = state_bound * state_bound

-- The largest number of a state, and the largest count, that is read.
abbrev pub largest_number : ℕ
largest_number = 65535

abbrev pub part : Side → Form → ℕ → Part
part side form count = record { side = side; form = form; count = count }

abbrev pub same_side : Side → Side → Bool
same_side Order Order = true
same_side Left Left = true
same_side Right Right = true
same_side side other = false

abbrev pub is_machine : Form → Bool
is_machine Machine = true
is_machine Trace = false

-- The words that lines of a text have. Two machines have all.
abbrev pub knows : Shape → Word → Bool
knows Two w = true
knows Alone MachineWord = true
knows Alone LabelWord = true
knows Alone StepWord = true
knows Alone w = false

-- Whether a word may come next: a trace only on the left, steps after a machine's labels, and the right after the left.
abbrev pub is_due : Due → Word → Bool
is_due (HeaderDue side before) MachineWord = true
is_due (HeaderDue side before) TraceWord = same_side Left side
is_due (LabelDue at s) LabelWord = true
is_due (StepDue at place) StepWord = is_machine at.form
is_due (StepDue at place) MachineWord = same_side Left at.side
is_due due w = false

-- The side that is being read.
abbrev pub side_of : Due → Side
side_of (HeaderDue side before) = side
side_of (LabelDue at s) = at.side
side_of (StepDue at place) = at.side

-- The side of a line with this word: a machine after the left's last label begins the right.
abbrev pub side_at : Due → Word → Side
side_at (StepDue at place) MachineWord = Right
side_at due w = side_of due

-- The states of the sides before a header that comes next.
abbrev pub states_before : Due → ℕ
states_before (HeaderDue side before) = before
states_before (LabelDue at s) = 0
states_before (StepDue at place) = at.count

-- A number of a state, or a count.
abbrev pub state_number : ℤ → Option ℕ
state_number (pos n) = cond (nat_le n largest_number) (Some n) None
state_number (negsuc n) = None

module _ {L : Type 0} where
  -- A header's count is not 0, and the text has not too many states with it.
  abbrev pub counted : Due → Form → Option ℕ → Result (Row L) Fault
  counted due form None = Err WrongItems
  counted due form (Some n) = cond (n == 0 || nat_lt state_bound (states_before due + n)) (Err WrongCount) (Ok (Header form n))

  abbrev pub header : Due → Form → List ℤ → Result (Row L) Fault
  header due form [] = Err WrongItems
  header due form (z ∷ []) = counted due form (state_number z)
  header due form (y ∷ z ∷ zs) = Err WrongItems

  -- The label is of the state that is due.
  abbrev pub labelled : ℕ → Option ℕ → Option L → Result (Row L) Fault
  labelled s None l = Err WrongItems
  labelled s (Some k) None = Err WrongItems
  labelled s (Some k) (Some l) = cond (k == s) (Ok (Label s l)) (Err OutOfOrder)

  -- A step is between two of the n states, and comes at the place that is due or later.
  abbrev pub stepped : ℕ → ℕ → Option ℕ → Option ℕ → Result (Row L) Fault
  stepped n place None t = Err WrongItems
  stepped n place (Some s) None = Err WrongItems
  stepped n place (Some s) (Some t) =
      cond (nat_lt s n && (nat_lt t n && nat_le place (s * n + t))) (Ok (Step (s * n + t))) (Err OutOfOrder)

  abbrev pub step : ℕ → ℕ → List ℤ → Result (Row L) Fault
  step n place [] = Err WrongItems
  step n place (z ∷ []) = Err WrongItems
  step n place (y ∷ z ∷ []) = stepped n place (state_number y) (state_number z)
  step n place (x ∷ y ∷ z ∷ zs) = Err WrongItems

  -- What is due after a row.
  abbrev pub after : Due → Row L → Due
  after due (Header form n) = LabelDue (part (side_at due MachineWord) form n) 0
  after (LabelDue at s) (Label k l) = cond (nat_lt (s + 1) at.count) (LabelDue at (s + 1)) (StepDue at 0)
  after (StepDue at place) (Step q) = StepDue at (q + 1)
  after due r = due

module _ {L : Type 0} (understood : List ℤ → Option L) where
  abbrev pub label : ℕ → List ℤ → Result (Row L) Fault
  label s [] = Err WrongItems
  label s (z ∷ zs) = labelled s (state_number z) (understood zs)

  -- What a word that is due says with its numbers.
  abbrev pub row : Due → Word → List ℤ → Result (Row L) Fault
  row due MachineWord zs = header due Machine zs
  row due TraceWord zs = header due Trace zs
  row (LabelDue at s) LabelWord zs = label s zs
  row (StepDue at place) StepWord zs = step at.count place zs
  row due w zs = Err OutOfOrder

  abbrev pub row_with : Due → Word → Option (List ℤ) → Result (Row L) Fault
  row_with due w None = Err WrongItems
  row_with due w (Some zs) = row due w zs

  -- A word that is not due has its items unread.
  abbrev pub row_by : Shape → Due → Option Word → List (List ℕ) → Result (Row L) Fault
  row_by shape due None items = Err UnknownWord
  row_by shape due (Some w) items =
      cond (knows shape w) (cond (is_due due w) (row_with due w (numbers items)) (Err OutOfOrder)) (Err UnknownWord)

  -- What a line says where `due` comes next, or its fault of the smallest number.
  abbrev pub row_of : Shape → Due → List ℕ → Result (Row L) Fault
  row_of shape due line = cond (is_line line) (row_by shape due (word_of (first_word line)) (drop 1 (words line))) (Err NoForm)

abbrev pub side_by : Due → Option Word → Side
side_by due word = option_map_or (side_at due) word (side_of due)

-- The side of a line.
abbrev pub side_of_line : Due → List ℕ → Side
side_of_line due line = cond (is_line line) (side_by due (word_of (first_word line))) (side_of due)

-- Whether the text may end: after a machine on the right.
abbrev pub may_end : Due → Bool
may_end (HeaderDue side before) = false
may_end (LabelDue at s) = false
may_end (StepDue at place) = same_side Right at.side
