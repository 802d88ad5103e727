-- The text of a side is that of the machine that its rows say. Assumes nothing.
use Rattle.std.proofs.Common.{◌≡◌, ℕ, ◌<◌, ◌≤◌, false, List, [], ◌∷◌, ◌++◌, length, Option, Some, ℤ, pos, refl, sym, ap, ◌∙◌, subst, append-nil, le-leb}
use Rattle.std.proofs.lemmas.Bool.{cond-true}
use Rattle.std.proofs.lemmas.Option.{same_Some}
use Rattle.std.specs.Prelude.{unwrap_or}
use Rattle.model.specs.Machines.{Meaning, state_bound, tabled, traced}
use Rattle.text.specs.declared.fault.Side.{Side}
use Rattle.text.specs.declared.row.Form.{Form}
use Rattle.text.specs.declared.row.Form.TheVariants.{Machine, Trace}
use Rattle.text.specs.Rows.{is_machine}
use Rattle.text.specs.Readings.{Rows, labels_on, grid, no_side, side_read}
use Rattle.text.specs.Writings.{line, header_line, label_lines, all_spelled, side_lines}
use Rattle.text.specs.Statements.{machine_of, machine_on, SameMachine, SideWritten}
use Rattle.text.proofs.AllSpelled.{spelled_each}
use Rattle.text.proofs.SideLines.{header_word}
use Rattle.text.proofs.SideRows.{rows_on}
use Rattle.text.proofs.Held.{Held, rows_of, text_of, says_header, says_labels, says_places}
use Rattle.text.proofs.Grids.{grid_fits}
use Rattle.text.proofs.GridTexts.{grid_text}
use Rattle.text.proofs.StepTexts.{step_text}

module _ {L : Type 0} where
  -- With a number of states that a text may have, the machine is a table or a trace.
  abbrev formed : Form → List L → List ℕ → Meaning L
  formed Machine labels places = tabled labels (grid (length labels) places)
  formed Trace labels places = traced labels

  machine_formed : (form : Form) (labels : List L) (places : List ℕ) → 0 < length labels → length labels ≤ state_bound → machine_of form labels (grid (length labels) places) ≡ formed form labels places
  machine_formed Machine labels places some few = grid_fits labels places some few
  machine_formed Trace labels places some few = cond-true _ _ _ (le-leb (length labels) state_bound few)

  formed_labels : (form : Form) (labels : List L) (places : List ℕ) → (formed form labels places).labels ≡ labels
  formed_labels Machine labels places = refl
  formed_labels Trace labels places = refl

  formed_text : {spelled : L → Option (List ℤ)} (h : Held spelled) → text_of h ≡ side_lines h.form (formed h.form h.labels h.places) h.numbers
  formed_text {spelled} h = by h.form h.bare
    where
      by : (form : Form) → (is_machine form ≡ false → h.places ≡ []) → line (header_word form) (pos (length h.labels) ∷ []) ++ (label_lines 0 h.numbers ++ step_text (length h.labels) h.places) ≡ side_lines form (formed form h.labels h.places) h.numbers
      by Machine bare = ap (λ x. header_line (length h.labels) ++ (label_lines 0 h.numbers ++ x)) (grid_text h.labels h.places h.some h.rising)
      by Trace bare =
          (λ i. line (header_word Trace) (pos (sym (spelled_each spelled h.labels h.numbers h.spelled_so) i) ∷ []) ++ (label_lines 0 h.numbers ++ step_text (length h.labels) (bare refl i)))
          ∙ ap (λ x. line (header_word Trace) (pos (length h.numbers) ∷ []) ++ x) (append-nil (label_lines 0 h.numbers))

  -- The text of a side is that of the machine that its rows say, and its labels are that machine's.
  pub record SideTold (spelled : L → Option (List ℤ)) (side : Side) (form : Form) (rs : Rows L) (text : List ℕ) : Type 0 where
    pub written : SideWritten spelled side form rs
    pub is : text ≡ side_lines form (machine_on side rs) written.numbers
    pub labels_so : (machine_on side rs).labels ≡ labels_on side rs

  -- The same under another name of the form and of the text.
  pub told_as : (spelled : L → Option (List ℤ)) (side : Side) (rs : Rows L) {form kind : Form} {x y : List ℕ} → form ≡ kind → x ≡ y → SideTold spelled side form rs x → SideTold spelled side kind rs y
  told_as spelled side rs {form} {kind} {x} {y} e f t = subst (SideTold spelled side kind rs) f (subst (λ z. SideTold spelled side z rs x) e t)

  module _ {spelled : L → Option (List ℤ)} (h : Held spelled) (side : Side) (rs : Rows L) (are : rows_on side rs ≡ rows_of h) where
    pub machine_so : machine_on side rs ≡ machine_of h.form h.labels (grid (length h.labels) h.places)
    machine_so = λ i. machine_of (unwrap_or (says_header h side rs are i) no_side).form (says_labels h side rs are i) (grid (length (says_labels h side rs are i)) (says_places h side rs are i))

    pub side_told : SideTold spelled side h.form rs (text_of h)
    side_told =
        let so = machine_so ∙ machine_formed h.form h.labels h.places h.some h.few in
        let labels = says_labels h side rs are in
        record {
          written = record {
            counted = says_header h side rs are ∙ ap (λ ls. Some (side_read h.form (length ls))) (sym labels);
            numbers = h.numbers;
            spelled_so = ap (all_spelled spelled) labels ∙ h.spelled_so;
          };
          is = formed_text h ∙ ap (λ m. side_lines h.form m h.numbers) (sym so);
          labels_so = ap (λ m. m.labels) so ∙ formed_labels h.form h.labels h.places ∙ sym labels;
        }

  module _ (side : Side) (rs qs : Rows L) {spelled other : L → Option (List ℤ)} {form kind : Form} {x y : List ℕ} where
    -- Sides of the same form and machine have the same text.
    pub same_side_text : spelled ≡ other → form ≡ kind → SideTold spelled side form rs x → SideTold other side kind qs y → SameMachine (machine_on side rs) (machine_on side qs) → x ≡ y
    same_side_text e f a b same =
        let labels = sym a.labels_so ∙ same.labels ∙ b.labels_so in
        let numbers = same_Some a.written.numbers b.written.numbers (sym a.written.spelled_so ∙ (λ i. all_spelled (e i) (labels i)) ∙ b.written.spelled_so) in
        a.is ∙ (λ i. side_lines (f i) (record { labels = same.labels i; step = λ s t. same.steps s t i }) (numbers i)) ∙ sym b.is
