-- What texts say, and what reading one leaves in memory. Assumes nothing.
use Rattle.std.specs.Prelude.{◌≡◌, ℕ, ◌+◌, ◌*◌, Bool, cond, ◌||◌, List, [], ◌∷◌, length, drop, replicate, slice_set, Option, Some, None, Result, Ok, Err, MatchResult, unwrap_or, ok_or, nat_lt, ℤ}
use Rattle.std.specs.Result.{result_map_both}
use Rattle.model.specs.declared.flags.FlagSet.{FlagSet}
use Rattle.model.specs.declared.band.Span.{Span}
use Rattle.model.specs.Memory.{over}
use Rattle.text.specs.declared.fault.Fault.{Fault}
use Rattle.text.specs.declared.fault.Fault.TheVariants.{NoForm, UnknownWord, WrongItems, OutOfOrder, ShortMemory, TooLong}
use Rattle.text.specs.declared.fault.Side.{Side}
use Rattle.text.specs.declared.fault.Side.TheVariants.{Order, Left, Right}
use Rattle.text.specs.declared.fault.Place.{Place}
use Rattle.text.specs.declared.fault.Refused.{Refused}
use Rattle.text.specs.declared.word.Word.{Word}
use Rattle.text.specs.declared.row.Shape.{Shape}
use Rattle.text.specs.declared.row.Shape.TheVariants.{Two, Alone}
use Rattle.text.specs.declared.row.Form.{Form}
use Rattle.text.specs.declared.row.Form.TheVariants.{Machine}
use Rattle.text.specs.declared.row.Row.{Row}
use Rattle.text.specs.declared.row.Row.TheVariants.{Header, Label, Step}
use Rattle.text.specs.declared.row.Due.{Due}
use Rattle.text.specs.declared.row.Due.TheVariants.{Header as HeaderDue}
use Rattle.text.specs.declared.order.TextOrder.{TextOrder}
use Rattle.text.specs.declared.reading.SideRead.{SideRead}
use Rattle.text.specs.declared.reading.TwoRead.{TwoRead}
use Rattle.text.specs.Lines.{newline, pieces, is_line, inside, first_word}
use Rattle.text.specs.Words.{word_of}
use Rattle.text.specs.OrderLines.{is_order_word, order_named, text_understood}
use Rattle.text.specs.Faults.{refused, place, line_alone}
use Rattle.text.specs.Rows.{same_side, label_places, step_places, is_machine, side_of, side_of_line, row_of, after, may_end}

-- The most bytes of a text.
abbrev pub text_bound : ℕ
text_bound = 60000

abbrev pub refused_on : {A : Type 0} → Side → ℕ → Fault → Result A (Refused Place)
refused_on side k fault = Err (refused fault (Some (place side k)))

-- The rows of a text, each with its side.
abbrev pub Rows : Type 0 → Type 0
Rows L = List (Side × Row L)

-- What is wrong with the end of a text, where this follows the last newline.
abbrev pub end_fault : Due → List ℕ → Option Fault
end_fault due [] = cond (may_end due) None (Some OutOfOrder)
end_fault due (b ∷ bs) = Some NoForm

abbrev pub side_read : Form → ℕ → SideRead
side_read form count = record { form = form; count = count }

module _ {L : Type 0} where
  -- The end of a text, where line k would be.
  abbrev pub ended : Side → ℕ → Option Fault → Result (Rows L) (Refused Place)
  ended side k None = Ok []
  ended side k (Some fault) = refused_on side k fault

  abbrev pub also_row : Side × Row L → Result (Rows L) (Refused Place) → Result (Rows L) (Refused Place)
  also_row r rows = result_map_both (λ rs. r ∷ rs) (λ e. e) rows

  -- A line's fault gains its place.
  abbrev pub placed : Side → ℕ → Result (Row L) Fault → Result (Row L) (Refused Place)
  placed side k row = result_map_both (λ r. r) (λ fault. refused fault (Some (place side k))) row

  -- A row comes before those of the lines after it.
  abbrev pub then_rows : Side → Result (Row L) (Refused Place) → (Row L → Result (Rows L) (Refused Place)) →
      Result (Rows L) (Refused Place)
  then_rows side (Err e) rest = Err e
  then_rows side (Ok r) rest = also_row (side, r) (rest r)

  -- What the rows of a side say: its form and count, its labels, and the places of its steps.
  abbrev pub header_on : Side → Rows L → Option SideRead
  header_on side [] = None
  header_on side ((other, Header form n) ∷ rs) = cond (same_side side other) (Some (side_read form n)) (header_on side rs)
  header_on side ((other, Label s l) ∷ rs) = header_on side rs
  header_on side ((other, Step q) ∷ rs) = header_on side rs

  abbrev pub labels_on : Side → Rows L → List L
  labels_on side [] = []
  labels_on side ((other, Header form n) ∷ rs) = labels_on side rs
  labels_on side ((other, Label s l) ∷ rs) = cond (same_side side other) (l ∷ labels_on side rs) (labels_on side rs)
  labels_on side ((other, Step q) ∷ rs) = labels_on side rs

  abbrev pub places_on : Side → Rows L → List ℕ
  places_on side [] = []
  places_on side ((other, Header form n) ∷ rs) = places_on side rs
  places_on side ((other, Label s l) ∷ rs) = places_on side rs
  places_on side ((other, Step q) ∷ rs) = cond (same_side side other) (q ∷ places_on side rs) (places_on side rs)

module _ {L : Type 0} (understood : List ℤ → Option L) (shape : Shape) where
  -- The rows of the pieces of a text from line k on, or its first faulty line with its smallest fault.
  abbrev pub rows : Due → ℕ → List (List ℕ) → Result (Rows L) (Refused Place)
  rows due k [] = ended (side_of due) k (end_fault due [])
  rows due k (last ∷ []) = ended (side_of due) k (end_fault due last)
  rows due k (line ∷ piece ∷ more) =
      then_rows (side_of_line due line) (placed (side_of_line due line) k (row_of understood shape due line))
      (λ r. rows (after due r) (k + 1) (piece ∷ more))

abbrev pub order_by : List ℕ → Option Word → Result TextOrder Fault
order_by line None = Err UnknownWord
order_by line (Some w) = cond (is_order_word w) (ok_or (order_named (inside line)) WrongItems) (Err OutOfOrder)

-- What the line of an order says, or its fault of the smallest number.
abbrev pub order_of : List ℕ → Result TextOrder Fault
order_of line = cond (is_line line) (order_by line (word_of (first_word line))) (Err NoForm)

-- What a text of two machines says: its order, and the rows of both sides.
pub record Said : Type 0 where
  pub order : TextOrder
  pub rows : Rows (FlagSet × Span)

abbrev pub ordered : TextOrder → Result (Rows (FlagSet × Span)) (Refused Place) → Result Said (Refused Place)
ordered order rows = result_map_both (λ rs. record { order = order; rows = rs }) (λ e. e) rows

-- What the first of the pieces of a text says, where more follow it and so a newline ends it.
abbrev pub first_line : List (List ℕ) → Result TextOrder Fault
first_line [] = Err OutOfOrder
first_line ([] ∷ []) = Err OutOfOrder
first_line ((b ∷ bs) ∷ []) = Err NoForm
first_line (line ∷ piece ∷ more) = order_of line

abbrev pub then_sides : Result TextOrder Fault → List (List ℕ) → Result Said (Refused Place)
then_sides (Err fault) lines = refused_on Order 1 fault
then_sides (Ok order) lines = ordered order (rows (text_understood order) Two (HeaderDue Left 0) 2 lines)

abbrev pub two_in : List (List ℕ) → Result Said (Refused Place)
two_in lines = then_sides (first_line lines) (drop 1 lines)

abbrev pub two_said : List ℕ → Result Said (Refused Place)
two_said text = two_in (pieces newline text)

-- What the text of a machine alone says, which is read as a right side from line 1.
abbrev pub alone_said : {L : Type 0} → (List ℤ → Option L) → List ℕ → Result (Rows L) (Refused Place)
alone_said understood text = rows understood Alone (HeaderDue Right 0) 1 (pieces newline text)

-- A byte of 1 at each of the places, among n×n of 0.
abbrev pub marked_at : List ℕ → List ℕ → List ℕ
marked_at bytes [] = bytes
marked_at bytes (q ∷ qs) = marked_at (slice_set bytes q 1) qs

abbrev pub grid : ℕ → List ℕ → List ℕ
grid n places = marked_at (replicate (n * n) 0) places

-- No side: what is said of one where there are no rows.
abbrev pub no_side : SideRead
no_side = side_read Machine 0

-- Step bytes after a side is read: n×n of a machine; a trace leaves them.
abbrev pub steps_after : SideRead → List ℕ → List ℕ → List ℕ
steps_after side places memory = cond (is_machine side.form) (over (grid side.count places) memory) memory

-- Why a text is refused before its lines are read: it is too long, or memory is short.
abbrev pub unless_refused : {A P : Type 0} → List ℕ → P → Bool → Result A (Refused P) → Result A (Refused P)
unless_refused text first is_short read =
    cond (nat_lt text_bound (length text)) (Err (refused TooLong (Some first))) (cond is_short (Err (refused ShortMemory None)) read)

abbrev pub by_line : {A : Type 0} → Result A (Refused Place) → Result A (Refused ℕ)
by_line read = result_map_both (λ a. a) line_alone read

-- What a side is.
abbrev pub side_said : {L : Type 0} → Side → Rows L → SideRead
side_said side rs = unwrap_or (header_on side rs) no_side

-- The memory of a side.
pub record SideMemory (L : Type 0) : Type 0 where
  pub labels : List L
  pub steps : List ℕ

module _ {L : Type 0} where
  abbrev pub side_memory : List L → List ℕ → SideMemory L
  side_memory labels steps = record { labels = labels; steps = steps }

  abbrev pub is_short : SideMemory L → Bool
  is_short memory = nat_lt (length memory.labels) label_places || nat_lt (length memory.steps) step_places

  -- What the rows of a side say, over memory.
  abbrev pub filled : Side → Rows L → SideMemory L → SideMemory L
  filled side rs memory =
      side_memory (over (labels_on side rs) memory.labels) (steps_after (side_said side rs) (places_on side rs) memory.steps)

  -- Reading a machine alone answers its count, and fills memory; a refusal leaves it.
  abbrev pub ReadsAlone : (List ℤ → Option L) → List ℕ → SideMemory L → Result ℕ (Refused ℕ) → SideMemory L → Type 0
  ReadsAlone understood text memory r after =
      MatchResult (unless_refused text 1 (is_short memory) (by_line (alone_said understood text)))
      (λ rs. (r ≡ Ok (side_said Right rs).count) × (after ≡ filled Right rs memory))
      (λ e. (r ≡ Err e) × (after ≡ memory))

abbrev pub two_read : Said → TwoRead
two_read said = record {
  order = said.order;
  left = side_said Left said.rows;
  right = (side_said Right said.rows).count;
}

-- Reading two machines answers the order, what the left is and both counts, and fills the memory of both sides.
abbrev pub ReadsTwo : List ℕ → SideMemory (FlagSet × Span) → SideMemory (FlagSet × Span) → Result TwoRead (Refused Place) →
    SideMemory (FlagSet × Span) → SideMemory (FlagSet × Span) → Type 0
ReadsTwo text left right r left_after right_after =
    MatchResult (unless_refused text (place Order 1) (is_short left || is_short right) (two_said text))
    (λ said. (r ≡ Ok (two_read said)) × (left_after ≡ filled Left said.rows left) × (right_after ≡ filled Right said.rows right))
    (λ e. (r ≡ Err e) × (left_after ≡ left) × (right_after ≡ right))
