-- What the lines of a side say where each may come, and which lines say so. Assumes nothing.
use Rattle.std.proofs.Common.{◌≡◌, ℕ, ◌+◌, ◌*◌, ◌<◌, ◌≤◌, true, List, [], ◌∷◌, Option, Some, None, Ok, ℤ, pos, negsuc, leb, refl, ap, ◌∙◌, subst, arith}
use Rattle.std.proofs.lemmas.Bool.Decides.{nat_tests}
use Rattle.std.proofs.lemmas.Option.{cond_some}
use Rattle.model.specs.Machines.{state_bound}
use Rattle.text.specs.declared.word.Word.{Word}
use Rattle.text.specs.declared.word.Word.TheVariants.{Machine as MachineWord, Trace as TraceWord, Label as LabelWord, Step as StepWord}
use Rattle.text.specs.declared.row.Shape.{Shape}
use Rattle.text.specs.declared.row.Form.{Form}
use Rattle.text.specs.declared.row.Form.TheVariants.{Machine, Trace}
use Rattle.text.specs.declared.row.Part.{Part}
use Rattle.text.specs.declared.row.Row.{Row}
use Rattle.text.specs.declared.row.Row.TheVariants.{Header, Label, Step}
use Rattle.text.specs.declared.row.Due.{Due}
use Rattle.text.specs.declared.row.Due.TheVariants.{Label as LabelDue, Step as StepDue}
use Rattle.text.specs.Rows.{largest_number, state_number, states_before, counted, header, label, labelled, step, stepped, is_due, side_at, row, row_of, side_of_line}
use Rattle.text.specs.Writings.{form}
use Rattle.text.proofs.RowLines.{row_said}

-- The word of a header.
abbrev pub header_word : Form → Word
header_word Machine = MachineWord
header_word Trace = TraceWord

state_number_read : (z : ℤ) (n : ℕ) → state_number z ≡ Some n → z ≡ pos n
state_number_read (pos k) n h = ap pos (cond_some (leb k largest_number) k n h).1
state_number_read (negsuc k) n h = cc

state_number_small : (n : ℕ) → n ≤ largest_number → state_number (pos n) ≡ Some n
state_number_small n h = grind (arith, nat_tests)

-- What the word and the numbers of a header's line are.
pub record HeaderSays (due : Due) (w : Word) (zs : List ℤ) (kind : Form) (n : ℕ) : Type 0 where
  pub word : w ≡ header_word kind
  pub numbers : zs ≡ pos n ∷ []
  pub some : 0 < n
  pub few : states_before due + n ≤ state_bound

-- What they are of a label's
pub record LabelSays {L : Type 0} (understood : List ℤ → Option L) (s : ℕ) (w : Word) (zs : List ℤ) (k : ℕ) (l : L) : Type 0 where
  pub others : List ℤ
  pub word : w ≡ LabelWord
  pub state : k ≡ s
  pub numbers : zs ≡ pos s ∷ others
  pub reads : understood others ≡ Some l

-- and of a step's.
pub record StepSays (n place : ℕ) (w : Word) (zs : List ℤ) (q : ℕ) : Type 0 where
  pub s : ℕ
  pub t : ℕ
  pub word : w ≡ StepWord
  pub numbers : zs ≡ pos s ∷ pos t ∷ []
  pub from_state : s < n
  pub to_state : t < n
  pub in_order : place ≤ q
  pub at : s * n + t ≡ q

module _ {L : Type 0} (understood : List ℤ → Option L) where
  -- What they are of the line of a row.
  abbrev pub RowSays : Due → Word → List ℤ → Row L → Type 0
  RowSays due w zs (Header kind n) = HeaderSays due w zs kind n
  RowSays (LabelDue at s) w zs (Label k l) = LabelSays understood s w zs k l
  RowSays (StepDue at place) w zs (Step q) = StepSays at.count place w zs q
  RowSays due w zs r = ⊥

  header_counted : (due : Due) (kind : Form) (z : ℤ) (o : Option ℕ) (r : Row L) → state_number z ≡ o → counted due kind o ≡ Ok r → RowSays due (header_word kind) (z ∷ []) r
  header_counted due kind z None r e h = cc
  header_counted due kind z (Some n) r e h =
      let is : Header kind n ≡ r = grind arith in
      subst (RowSays due (header_word kind) (z ∷ [])) is
      (record { word = refl; numbers = ap (λ x. x ∷ []) (state_number_read z n e); some = grind (arith, nat_tests); few = grind (arith, nat_tests) })

  header_says : (due : Due) (kind : Form) (zs : List ℤ) (r : Row L) → header due kind zs ≡ Ok r → RowSays due (header_word kind) zs r
  header_says due kind [] r h = cc
  header_says due kind (z ∷ []) r h = header_counted due kind z (state_number z) r refl h
  header_says due kind (y ∷ z ∷ zs) r h = cc

  module _ (at : Part) (s : ℕ) where
    label_numbered : (z : ℤ) (zs : List ℤ) (o : Option ℕ) (x : Option L) (r : Row L) → state_number z ≡ o → understood zs ≡ x → labelled s o x ≡ Ok r → RowSays (LabelDue at s) LabelWord (z ∷ zs) r
    label_numbered z zs None x r e f h = cc
    label_numbered z zs (Some k) None r e f h = cc
    label_numbered z zs (Some k) (Some x) r e f h =
        let due : k ≡ s = grind (arith, nat_tests) in
        let is : Label s x ≡ r = grind arith in
        subst (RowSays (LabelDue at s) LabelWord (z ∷ zs)) is
        (record { others = zs; word = refl; state = refl; numbers = ap (λ y. y ∷ zs) (state_number_read z k e ∙ ap pos due); reads = f })

    label_says : (zs : List ℤ) (r : Row L) → label understood s zs ≡ Ok r → RowSays (LabelDue at s) LabelWord zs r
    label_says [] r h = cc
    label_says (z ∷ zs) r h = label_numbered z zs (state_number z) (understood zs) r refl refl h

  module _ (at : Part) (place : ℕ) where
    step_numbered : (y z : ℤ) (o p : Option ℕ) (r : Row L) → state_number y ≡ o → state_number z ≡ p → stepped at.count place o p ≡ Ok r → RowSays (StepDue at place) StepWord (y ∷ z ∷ []) r
    step_numbered y z None p r e f h = cc
    step_numbered y z (Some s) None r e f h = cc
    step_numbered y z (Some s) (Some t) r e f h =
        let is : Step (s * at.count + t) ≡ r = grind arith in
        subst (RowSays (StepDue at place) StepWord (y ∷ z ∷ [])) is
        (record {
          s = s;
          t = t;
          word = refl;
          numbers = (λ i. state_number_read y s e i ∷ state_number_read z t f i ∷ []);
          from_state = grind (arith, nat_tests);
          to_state = grind (arith, nat_tests);
          in_order = grind (arith, nat_tests);
          at = refl;
        })

    step_says : (zs : List ℤ) (r : Row L) → step at.count place zs ≡ Ok r → RowSays (StepDue at place) StepWord zs r
    step_says [] r h = cc
    step_says (z ∷ []) r h = cc
    step_says (y ∷ z ∷ []) r h = step_numbered y z (state_number y) (state_number z) r refl refl h
    step_says (x ∷ y ∷ z ∷ zs) r h = cc

  word_says : (due : Due) (w : Word) (zs : List ℤ) (r : Row L) → is_due due w ≡ true → row understood due w zs ≡ Ok r → RowSays due w zs r
  word_says due MachineWord zs r may h = header_says due Machine zs r h
  word_says due TraceWord zs r may h = header_says due Trace zs r h
  word_says (LabelDue at s) LabelWord zs r may h = label_says at s zs r h
  word_says (StepDue at place) StepWord zs r may h = step_says at place zs r h
  word_says due w zs r may h = cc

  -- A line that says a row is the form of a word that may come.
  pub record LineSays (due : Due) (l : List ℕ) (r : Row L) : Type 0 where
    pub word : Word
    pub numbers : List ℤ
    pub may_come : is_due due word ≡ true
    pub is : l ≡ form word numbers
    pub on : side_of_line due l ≡ side_at due word
    pub says : RowSays due word numbers r

  module _ (shape : Shape) where
    pub line_says : (due : Due) (l : List ℕ) (r : Row L) → row_of understood shape due l ≡ Ok r → LineSays due l r
    line_says due l r h =
        let q = row_said understood shape due l r h in
        record { word = q.word; numbers = q.numbers; may_come = q.may_come; is = q.is; on = q.on; says = word_says due q.word q.numbers r q.may_come q.says }

  -- and what these words and numbers say
  pub header_said : (due : Due) (kind : Form) (n : ℕ) → 0 < n → states_before due + n ≤ state_bound → row understood due (header_word kind) (pos n ∷ []) ≡ Ok (Header kind n)
  header_said due kind n some few = by kind ∙ ap (counted due kind) (state_number_small n (omega arith)) ∙ grind (arith, nat_tests)
    where
      by : (kind : Form) → row understood due (header_word kind) (pos n ∷ []) ≡ counted due kind (state_number (pos n))
      by Machine = refl
      by Trace = refl

  pub label_said : (at : Part) (s : ℕ) (zs : List ℤ) (l : L) → s < state_bound → understood zs ≡ Some l → row understood (LabelDue at s) LabelWord (pos s ∷ zs) ≡ Ok (Label s l)
  label_said at s zs l low reads = (λ i. labelled s (state_number_small s (omega arith) i) (reads i)) ∙ grind (arith, nat_tests)

  pub step_said : (at : Part) (place s t : ℕ) → at.count ≤ state_bound → s < at.count → t < at.count → place ≤ s * at.count + t → row understood (StepDue at place) StepWord (pos s ∷ pos t ∷ []) ≡ Ok (Step (s * at.count + t))
  step_said at place s t few hs ht le =
      (λ i. stepped at.count place (state_number_small s (omega arith) i) (state_number_small t (omega arith) i))
      ∙ grind (arith, nat_tests)
