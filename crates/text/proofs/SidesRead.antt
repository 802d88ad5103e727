-- A side that is read from its header on. Assumes nothing.
use Rattle.std.proofs.Common.{◌≡◌, ℕ, ◌+◌, ◌*◌, ◌≤◌, true, false, List, [], ◌∷◌, ◌++◌, length, Option, Ok, ℤ, pos, refl, sym, ap, ◌∙◌, subst, arith, append-nil}
use Rattle.model.specs.Machines.{state_bound}
use Rattle.text.specs.declared.fault.Side.{Side}
use Rattle.text.specs.declared.fault.Side.TheVariants.{Left, Right}
use Rattle.text.specs.declared.word.Word.{Word}
use Rattle.text.specs.declared.word.Word.TheVariants.{Machine as MachineWord}
use Rattle.text.specs.declared.row.Shape.{Shape}
use Rattle.text.specs.declared.row.Form.{Form}
use Rattle.text.specs.declared.row.Form.TheVariants.{Machine, Trace}
use Rattle.text.specs.declared.row.Row.TheVariants.{Header, Label, Step}
use Rattle.text.specs.declared.row.Due.{Due}
use Rattle.text.specs.declared.row.Due.TheVariants.{Header as HeaderDue, Label as LabelDue, Step as StepDue}
use Rattle.text.specs.Lines.{pieces}
use Rattle.text.specs.Spelling.{Spelling}
use Rattle.text.specs.Rows.{part, same_side, is_machine, is_due, side_at, states_before}
use Rattle.text.specs.Readings.{Rows, rows}
use Rattle.text.specs.Writings.{form, label_lines}
use Rattle.text.proofs.RowByRow.{rows_end, rows_first}
use Rattle.text.proofs.SideLines.{header_word, HeaderSays, line_says}
use Rattle.text.proofs.SideRows.{on, right, rows_on, rows_of_left, rows_of_right}
use Rattle.text.proofs.Held.{Held, rows_of, text_of, text_then}
use Rattle.text.proofs.Places.{Rising}
use Rattle.text.proofs.StepTexts.{step_text}
use Rattle.text.proofs.InOrder.{first_said, no_header, line_then, labels_read}

-- A side that is read after so many states, and the text and the rows after it, of which it is said what they are after a side of so many.
record SideIsRead {L : Type 0} (spelled : L → Option (List ℤ)) (side : Side) (before : ℕ) (Then : ℕ → List ℕ → Rows L → Type 0) (text : List ℕ) (rs : Rows L) : Type 0 where
  held : Held spelled
  few : before + length held.labels ≤ state_bound
  rest : List ℕ
  others : Rows L
  left_trace : is_machine held.form ≡ false → same_side Left side ≡ true
  is : text ≡ text_of held ++ rest
  rows_are : rs ≡ on side (rows_of held) ++ others
  then : Then (length held.labels) rest others

-- A machine on the right that is read to the end of the text, after so many states.
record LastRead {L : Type 0} (spelled : L → Option (List ℤ)) (before : ℕ) (text : List ℕ) (rs : Rows L) : Type 0 where
  held : Held spelled
  few : before + length held.labels ≤ state_bound
  machine : held.form ≡ Machine
  is : text ≡ text_of held
  rows_are : rs ≡ right (rows_of held)

-- A machine alone that is read.
pub record AloneRead {L : Type 0} (spelled : L → Option (List ℤ)) (text : List ℕ) (rs : Rows L) : Type 0 where
  pub held : Held spelled
  pub machine : held.form ≡ Machine
  pub is : text ≡ text_of held
  pub on_right : rows_on Right rs ≡ rows_of held

-- Both sides that are read.
pub record BothRead {L : Type 0} (spelled : L → Option (List ℤ)) (text : List ℕ) (rs : Rows L) : Type 0 where
  pub left : Held spelled
  pub right : Held spelled
  pub few : length left.labels + length right.labels ≤ state_bound
  pub machine : right.form ≡ Machine
  pub is : text ≡ text_of left ++ text_of right
  pub on_left : rows_on Left rs ≡ rows_of left
  pub on_right : rows_on Right rs ≡ rows_of right

-- A trace comes only on the left, and only first.
header_side : (due : Due) (kind : Form) → is_due due (header_word kind) ≡ true → side_at due (header_word kind) ≡ side_at due MachineWord
header_side due Machine may = refl
header_side (HeaderDue side before) Trace may = refl
header_side due Trace may = absurd (cc)

trace_on_left : (due : Due) (kind : Form) → is_due due (header_word kind) ≡ true → is_machine kind ≡ false → same_side Left (side_at due MachineWord) ≡ true
trace_on_left (HeaderDue side before) Trace may e = may
trace_on_left due Machine may e = absurd (cc)
trace_on_left due Trace may e = absurd (cc)

-- The first line is that of the header.
header_first : {L : Type 0} {spelled : L → Option (List ℤ)} (h : Held spelled) (text l : List ℕ) (w : Word) (zs : List ℤ) (rest after : List ℕ) (due : Due) (n : ℕ) → HeaderSays due w zs h.form n → text ≡ l ++ 10 ∷ rest → l ≡ form w zs → n ≡ length h.labels →
    rest ≡ label_lines 0 h.numbers ++ (step_text n h.places ++ after) → text ≡ text_of h ++ after
header_first h text l w zs rest after due n says cut is count more =
    let lines : rest ≡ label_lines 0 h.numbers ++ (step_text (length h.labels) h.places ++ after) = subst (λ x. rest ≡ label_lines 0 h.numbers ++ (step_text x h.places ++ after)) count more in
    let header : l ≡ form (header_word h.form) (pos (length h.labels) ∷ []) = is ∙ (λ i. form (says.word i) (says.numbers i)) ∙ ap (λ x. form (header_word h.form) (pos x ∷ [])) count in
    line_then text l (header_word h.form) (pos (length h.labels) ∷ []) rest _ cut header lines ∙ text_then h after

-- Nothing comes after the right.
abbrev Nothing : {L : Type 0} → ℕ → List ℕ → Rows L → Type 0
Nothing before rest others = (rest ≡ []) × (others ≡ [])

module _ {L : Type 0} (spelled : L → Option (List ℤ)) (understood : List ℤ → Option L) (laws : Spelling spelled understood) (shape : Shape) where
  module _ (side : Side) (Then : ℕ → List ℕ → Rows L → Type 0)
      (ends : (kind : Form) (n place k : ℕ) (text : List ℕ) → rows understood shape (StepDue (part side kind n) place) k (pieces 10 text) ≡ Ok [] → Then n text [])
      (begins : (kind : Form) (n place k : ℕ) (text : List ℕ) (other : Side) (form : Form) (m : ℕ) (rs : Rows L) → rows understood shape (StepDue (part side kind n) place) k (pieces 10 text) ≡ Ok ((other, Header form m) ∷ rs) → Then n text ((other, Header form m) ∷ rs)) where
    side_is_read : (due : Due) (k : ℕ) (text : List ℕ) (other : Side) (kind : Form) (n : ℕ) (rs : Rows L) → side_at due MachineWord ≡ side → rows understood shape due k (pieces 10 text) ≡ Ok ((other, Header kind n) ∷ rs) → SideIsRead spelled side (states_before due) Then text ((other, Header kind n) ∷ rs)
    side_is_read due k text other kind n rs at h =
        let f = rows_first understood shape due k text other (Header kind n) rs h in
        let w = line_says understood shape due f.line (Header kind n) f.said in
        let may : is_due due (header_word kind) ≡ true = ap (is_due due) (sym w.says.word) ∙ w.may_come in
        let here : other ≡ side = sym f.on ∙ w.on ∙ ap (side_at due) w.says.word ∙ header_side due kind may ∙ at in
        let more = labels_read spelled understood laws shape side kind n (Then n) (ends kind n) (begins kind n) 0 (k + 1) f.rest rs w.says.some (ap (λ x. rows understood shape (LabelDue (part x kind n) 0) (k + 1) (pieces 10 f.rest)) (sym at) ∙ f.more) in
        let count : n ≡ length more.labels = omega (arith, more.all) in
        let held : Held spelled = record {
          form = kind;
          labels = more.labels;
          numbers = more.numbers;
          places = more.places;
          some = omega (arith, w.says.some);
          few = omega (arith, w.says.few);
          spelled_so = more.spelled_so;
          rising = subst (λ x. Rising 0 more.places (x * x)) count more.rising;
          bare = more.bare;
        } in
        record {
          held = held;
          few = omega (arith, w.says.few);
          rest = more.rest;
          others = more.others;
          left_trace = λ e. ap (same_side Left) (sym at) ∙ trace_on_left due kind may e;
          is = header_first held text f.line w.word w.numbers f.rest more.rest due n w.says f.cut w.is count more.is;
          rows_are = λ i. (here i, Header kind (count i)) ∷ more.rows_are i;
          then = subst (λ x. Then x more.rest more.others) count more.then;
        }

    side_from_header : (before k : ℕ) (text : List ℕ) (rs : Rows L) → rows understood shape (HeaderDue side before) k (pieces 10 text) ≡ Ok rs → SideIsRead spelled side before Then text rs
    side_from_header before k text [] h = absurd (let e = (rows_end understood shape (HeaderDue side before) k text h).1 in cc)
    side_from_header before k text ((other, Header kind n) ∷ rs) h = side_is_read (HeaderDue side before) k text other kind n rs refl h
    side_from_header before k text ((other, Label s l) ∷ rs) h =
        absurd (first_said understood shape (HeaderDue side before) k text other rs (Label s l) h).1.says
    side_from_header before k text ((other, Step q) ∷ rs) h =
        absurd (first_said understood shape (HeaderDue side before) k text other rs (Step q) h).1.says

  right_ends : (kind : Form) (n place k : ℕ) (text : List ℕ) → rows understood shape (StepDue (part Right kind n) place) k (pieces 10 text) ≡ Ok [] → Nothing {L = L} n text []
  right_ends kind n place k text h = ((rows_end understood shape (StepDue (part Right kind n) place) k text h).0, refl)

  nothing_begins : (kind : Form) (n place k : ℕ) (text : List ℕ) (other : Side) (form : Form) (m : ℕ) (rs : Rows L) → rows understood shape (StepDue (part Right kind n) place) k (pieces 10 text) ≡ Ok ((other, Header form m) ∷ rs) → Nothing n text ((other, Header form m) ∷ rs)
  nothing_begins kind n place k text other form m rs h =
      absurd (no_header understood shape (StepDue (part Right kind n) place) k text other rs refl refl form m h)

  right_is_read : (before : ℕ) (text : List ℕ) (rs : Rows L) → SideIsRead spelled Right before Nothing text rs → LastRead spelled before text rs
  right_is_read before text rs r = record {
    held = r.held;
    few = r.few;
    machine = a_machine r.held.form r.left_trace;
    is = r.is ∙ ap (λ x. text_of r.held ++ x) r.then.0 ∙ append-nil (text_of r.held);
    rows_are = r.rows_are ∙ ap (λ x. right (rows_of r.held) ++ x) r.then.1 ∙ append-nil (right (rows_of r.held));
  }
    where
      a_machine : (form : Form) → (is_machine form ≡ false → same_side Left Right ≡ true) → form ≡ Machine
      a_machine Machine h = refl
      a_machine Trace h = absurd (let e = h refl in cc)

  -- A machine alone is read to the end,
  pub alone_is_read : (k : ℕ) (text : List ℕ) (rs : Rows L) → rows understood shape (HeaderDue Right 0) k (pieces 10 text) ≡ Ok rs → AloneRead spelled text rs
  alone_is_read k text rs h =
      let r = right_is_read 0 text rs (side_from_header Right Nothing right_ends nothing_begins 0 k text rs h) in
      record { held = r.held; machine = r.machine; is = r.is; on_right = ap (rows_on Right) r.rows_are ∙ rows_of_right [] (rows_of r.held) }

  left_ends : (kind : Form) (n place k : ℕ) (text : List ℕ) → rows understood shape (StepDue (part Left kind n) place) k (pieces 10 text) ≡ Ok [] → LastRead spelled n text []
  left_ends kind n place k text h = absurd (let e = (rows_end understood shape (StepDue (part Left kind n) place) k text h).1 in cc)

  right_begins : (kind : Form) (n place k : ℕ) (text : List ℕ) (other : Side) (form : Form) (m : ℕ) (rs : Rows L) → rows understood shape (StepDue (part Left kind n) place) k (pieces 10 text) ≡ Ok ((other, Header form m) ∷ rs) → LastRead spelled n text ((other, Header form m) ∷ rs)
  right_begins kind n place k text other form m rs h =
      right_is_read n text ((other, Header form m) ∷ rs) (side_is_read Right Nothing right_ends nothing_begins (StepDue (part Left kind n) place) k text other form m rs refl h)

  -- and both sides are, the right after the left.
  pub both_are_read : (k : ℕ) (text : List ℕ) (rs : Rows L) → rows understood shape (HeaderDue Left 0) k (pieces 10 text) ≡ Ok rs → BothRead spelled text rs
  both_are_read k text rs h =
      let l = side_from_header Left (LastRead spelled) left_ends right_begins 0 k text rs h in
      let r = l.then in
      let rows = l.rows_are ∙ ap (λ x. on Left (rows_of l.held) ++ x) r.rows_are in
      record {
        left = l.held;
        right = r.held;
        few = r.few;
        machine = r.machine;
        is = l.is ∙ ap (λ x. text_of l.held ++ x) r.is;
        on_left = ap (rows_on Left) rows ∙ rows_of_left (rows_of l.held) (rows_of r.held);
        on_right = ap (rows_on Right) rows ∙ rows_of_right (rows_of l.held) (rows_of r.held);
      }
