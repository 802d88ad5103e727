-- A text that is read is a header, the lines of all labels, and those of steps at places that rise, on each side. Assumes nothing.
use Rattle.std.proofs.Common.{◌≡◌, ℕ, ◌+◌, ◌*◌, ◌<◌, ◌≤◌, false, true, List, [], ◌∷◌, ◌++◌, length, Option, Some, Ok, ℤ, pos, ltb, refl, sym, ap, ◌∙◌, arith, append_assoc}
use Rattle.std.proofs.lemmas.Bool.{cond_both, ltb-true, ltb-false}
use Rattle.std.proofs.lemmas.Nat.{mul-add-lt}
use Rattle.text.specs.declared.fault.Side.{Side}
use Rattle.text.specs.declared.word.Word.{Word}
use Rattle.text.specs.declared.word.Word.TheVariants.{Machine as MachineWord, Trace as TraceWord, Label as LabelWord, Step as StepWord}
use Rattle.text.specs.declared.row.Shape.{Shape}
use Rattle.text.specs.declared.row.Form.{Form}
use Rattle.text.specs.declared.row.Form.TheVariants.{Machine, Trace}
use Rattle.text.specs.declared.row.Row.{Row}
use Rattle.text.specs.declared.row.Row.TheVariants.{Header, Label, Step}
use Rattle.text.specs.declared.row.Due.{Due}
use Rattle.text.specs.declared.row.Due.TheVariants.{Label as LabelDue, Step as StepDue}
use Rattle.text.specs.Lines.{pieces}
use Rattle.text.specs.Numbers.{both}
use Rattle.text.specs.Spelling.{Spelling}
use Rattle.text.specs.Rows.{part, is_machine, is_due, side_at, side_of_line, after}
use Rattle.text.specs.Readings.{Rows, rows}
use Rattle.text.specs.Writings.{form, line, label_line, label_lines, step_line, all_spelled}
use Rattle.text.proofs.RowByRow.{rows_end, rows_first}
use Rattle.text.proofs.SideLines.{header_word, LabelSays, StepSays, LineSays, line_says}
use Rattle.text.proofs.SideRows.{on}
use Rattle.text.proofs.Held.{step_rows, label_rows}
use Rattle.text.proofs.Places.{Rising}
use Rattle.text.proofs.StepTexts.{step_text, step_text_at}

module _ {L : Type 0} (understood : List ℤ → Option L) (shape : Shape) (due : Due) (k : ℕ) (text : List ℕ) (side : Side) (rs : Rows L) where
  -- A row that comes first is said by a line.
  pub first_said : (r : Row L) → rows understood shape due k (pieces 10 text) ≡ Ok ((side, r) ∷ rs) → (l : List ℕ) × LineSays understood due l r
  first_said r h = let f = rows_first understood shape due k text side r rs h in (f.line, line_says understood shape due f.line r f.said)

  -- No header comes first where its word is not due.
  pub no_header : is_due due MachineWord ≡ false → is_due due TraceWord ≡ false → (form : Form) (n : ℕ) → rows understood shape due k (pieces 10 text) ≡ Ok ((side, Header form n) ∷ rs) → ⊥
  no_header machine trace form n h =
      let w = (first_said (Header form n) h).1 in
      none form (ap (is_due due) (sym w.says.word) ∙ w.may_come)
    where
      none : (form : Form) → is_due due (header_word form) ≡ true → ⊥
      none Machine e = cc
      none Trace e = cc

-- A line with its newline, and what comes after it.
pub line_then : (text l : List ℕ) (word : Word) (zs : List ℤ) (rest after : List ℕ) → text ≡ l ++ 10 ∷ rest → l ≡ form word zs → rest ≡ after → text ≡ line word zs ++ after
line_then text l word zs rest after cut is same = cut ∙ (λ i. is i ++ 10 ∷ same i) ∙ sym (append_assoc (form word zs) (10 ∷ []) after)

-- Steps that are read at places from one on, and the text and the rows after them, of which it is said what they are.
pub record StepsRead {L : Type 0} (side : Side) (kind : Form) (n place : ℕ) (Then : List ℕ → Rows L → Type 0) (text : List ℕ) (rs : Rows L) : Type 0 where
  pub places : List ℕ
  pub rest : List ℕ
  pub others : Rows L
  pub rising : Rising place places (n * n)
  pub bare : is_machine kind ≡ false → places ≡ []
  pub is : text ≡ step_text n places ++ rest
  pub rows_are : rs ≡ on side (step_rows places) ++ others
  pub then : Then rest others

-- The same of labels from that of state s on, and of all steps.
pub record LabelsRead {L : Type 0} (spelled : L → Option (List ℤ)) (side : Side) (kind : Form) (n s : ℕ) (Then : List ℕ → Rows L → Type 0) (text : List ℕ) (rs : Rows L) : Type 0 where
  pub labels : List L
  pub numbers : List (List ℤ)
  pub places : List ℕ
  pub rest : List ℕ
  pub others : Rows L
  pub spelled_so : all_spelled spelled labels ≡ Some numbers
  pub all : s + length labels ≡ n
  pub rising : Rising 0 places (n * n)
  pub bare : is_machine kind ≡ false → places ≡ []
  pub is : text ≡ label_lines s numbers ++ (step_text n places ++ rest)
  pub rows_are : rs ≡ on side (label_rows s labels (step_rows places)) ++ others
  pub then : Then rest others

module _ (text l : List ℕ) (w : Word) (zs : List ℤ) (rest : List ℕ) (cut : text ≡ l ++ 10 ∷ rest) (is : l ≡ form w zs) where
  -- The first line is that of a step,
  step_first : (n place q : ℕ) (says : StepSays n place w zs q) (places after : List ℕ) → rest ≡ step_text n places ++ after → text ≡ step_text n (q ∷ places) ++ after
  step_first n place q says places after more =
      let this = step_line says.s says.t in
      line_then text l StepWord (pos says.s ∷ pos says.t ∷ []) rest (step_text n places ++ after) cut (is ∙ (λ i. form (says.word i) (says.numbers i))) more
      ∙ sym (append_assoc this (step_text n places) after)
      ∙ ap (λ x. x ++ after) (sym (step_text_at n says.s says.t places says.to_state) ∙ ap (λ p. step_text n (p ∷ places)) says.at)

  -- or of a label.
  label_first : {L : Type 0} (understood : List ℤ → Option L) (s k : ℕ) (x : L) (says : LabelSays understood s w zs k x) (numbers : List (List ℤ)) (after : List ℕ) → rest ≡ label_lines (s + 1) numbers ++ after → text ≡ label_lines s (says.others ∷ numbers) ++ after
  label_first understood s k x says numbers after more =
      let this = label_line s says.others in
      line_then text l LabelWord (pos s ∷ says.others) rest (label_lines (s + 1) numbers ++ after) cut (is ∙ (λ i. form (says.word i) (says.numbers i))) more
      ∙ sym (append_assoc this (label_lines (s + 1) numbers) after)

module _ {L : Type 0} (spelled : L → Option (List ℤ)) (understood : List ℤ → Option L) (laws : Spelling spelled understood) (shape : Shape) where
  module _ (side : Side) (kind : Form) (n : ℕ) (Then : List ℕ → Rows L → Type 0)
      (ends : (place k : ℕ) (text : List ℕ) → rows understood shape (StepDue (part side kind n) place) k (pieces 10 text) ≡ Ok [] → Then text [])
      (begins : (place k : ℕ) (text : List ℕ) (other : Side) (form : Form) (m : ℕ) (rs : Rows L) → rows understood shape (StepDue (part side kind n) place) k (pieces 10 text) ≡ Ok ((other, Header form m) ∷ rs) → Then text ((other, Header form m) ∷ rs)) where
    -- A row is on the side of the part.
    row_on : (due : Due) (word : Word) (l : List ℕ) (other : Side) (r : Row L) (says : LineSays understood due l r) → side_of_line due l ≡ other → says.word ≡ word → side_at due word ≡ side → other ≡ side
    row_on due word l other r says on is at = sym on ∙ says.on ∙ ap (side_at due) is ∙ at

    steps_read : (place k : ℕ) (text : List ℕ) (rs : Rows L) → place ≤ n * n → rows understood shape (StepDue (part side kind n) place) k (pieces 10 text) ≡ Ok rs → StepsRead side kind n place Then text rs
    steps_read place k text [] le h =
        record { places = []; rest = text; others = []; rising = le; bare = λ _. refl; is = refl; rows_are = refl; then = ends place k text h }
    steps_read place k text ((other, Header form m) ∷ rs) le h =
        record { places = []; rest = text; others = (other, Header form m) ∷ rs; rising = le; bare = λ _. refl; is = refl; rows_are = refl; then = begins place k text other form m rs h }
    steps_read place k text ((other, Label s l) ∷ rs) le h =
        absurd (first_said understood shape (StepDue (part side kind n) place) k text other rs (Label s l) h).1.says
    steps_read place k text ((other, Step q) ∷ rs) le h =
        let due = StepDue (part side kind n) place in
        let f = rows_first understood shape due k text other (Step q) rs h in
        let w = line_says understood shape due f.line (Step q) f.said in
        let low : q < n * n = omega (arith, w.says.at, mul-add-lt w.says.s n w.says.t n w.says.from_state w.says.to_state) in
        let more = steps_read (q + 1) (k + 1) f.rest rs (omega arith) f.more in
        let machine : is_machine kind ≡ true = ap (is_due due) (sym w.says.word) ∙ w.may_come in
        record {
          places = q ∷ more.places;
          rest = more.rest;
          others = more.others;
          rising = (w.says.in_order, more.rising);
          bare = λ e. cc;
          is = step_first text f.line w.word w.numbers f.rest f.cut w.is n place q w.says more.places more.rest more.is;
          rows_are = λ i. (row_on due StepWord f.line other (Step q) w f.on w.says.word refl i, Step q) ∷ more.rows_are i;
          then = more.then;
        }

    pub labels_read : (s k : ℕ) (text : List ℕ) (rs : Rows L) → s < n → rows understood shape (LabelDue (part side kind n) s) k (pieces 10 text) ≡ Ok rs → LabelsRead spelled side kind n s Then text rs
    labels_read s k text [] low h = absurd (let e = (rows_end understood shape (LabelDue (part side kind n) s) k text h).1 in cc)
    labels_read s k text ((other, Header form m) ∷ rs) low h =
        absurd (no_header understood shape (LabelDue (part side kind n) s) k text other rs refl refl form m h)
    labels_read s k text ((other, Step q) ∷ rs) low h =
        absurd (first_said understood shape (LabelDue (part side kind n) s) k text other rs (Step q) h).1.says
    labels_read s k text ((other, Label m l) ∷ rs) low h =
        let due = LabelDue (part side kind n) s in
        let f = rows_first understood shape due k text other (Label m l) rs h in
        let w = line_says understood shape due f.line (Label m l) f.said in
        let more : LabelsRead spelled side kind n (s + 1) Then f.rest rs =
        cond_both (ltb (s + 1) n) (LabelDue (part side kind n) (s + 1)) (StepDue (part side kind n) 0) (λ x. rows understood shape x (k + 1) (pieces 10 f.rest) ≡ Ok rs → LabelsRead spelled side kind n (s + 1) Then f.rest rs)
        (λ e. labels_read (s + 1) (k + 1) f.rest rs (ltb-true (s + 1) n e))
        (λ e. then_steps (s + 1) (k + 1) f.rest rs (let le = ltb-false (s + 1) n e in omega arith))
        f.more in
        record {
          labels = l ∷ more.labels;
          numbers = w.says.others ∷ more.numbers;
          places = more.places;
          rest = more.rest;
          others = more.others;
          spelled_so = (λ i. both ◌∷◌ (laws.back w.says.others l w.says.reads i) (more.spelled_so i));
          all = omega (arith, more.all);
          rising = more.rising;
          bare = more.bare;
          is = label_first text f.line w.word w.numbers f.rest f.cut w.is understood s m l w.says more.numbers (step_text n more.places ++ more.rest) more.is;
          rows_are = λ i. (row_on due LabelWord f.line other (Label m l) w f.on w.says.word refl i, Label (w.says.state i) l) ∷ more.rows_are i;
          then = more.then;
        }
      where
        then_steps : (s k : ℕ) (text : List ℕ) (rs : Rows L) → s ≡ n → rows understood shape (StepDue (part side kind n) 0) k (pieces 10 text) ≡ Ok rs → LabelsRead spelled side kind n s Then text rs
        then_steps s k text rs e h =
            let q = steps_read 0 k text rs (omega arith) h in
            record {
              labels = [];
              numbers = [];
              places = q.places;
              rest = q.rest;
              others = q.others;
              spelled_so = refl;
              all = omega arith;
              rising = q.rising;
              bare = q.bare;
              is = q.is;
              rows_are = q.rows_are;
              then = q.then;
            }
