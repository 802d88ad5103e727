-- The text of a machine, or of a trace, is that of its labels and of the places of its steps, and these say the same machine. Assumes nothing.
use Rattle.std.proofs.Common.{◌≡◌, ℕ, ◌*◌, ◌<◌, ◌≤◌, false, List, [], ◌∷◌, ◌++◌, Option, Some, ℤ, pos, refl, sym, ap, subst, append-nil, arith}
use Rattle.model.specs.Machines.{Meaning, states, state_bound}
use Rattle.text.specs.declared.row.Form.{Form}
use Rattle.text.specs.declared.row.Form.TheVariants.{Machine, Trace}
use Rattle.text.specs.declared.fault.Side.{Side}
use Rattle.text.specs.Rows.{is_machine}
use Rattle.text.specs.Readings.{grid, Rows}
use Rattle.text.specs.Writings.{line, header_line, label_lines, all_spelled, side_lines}
use Rattle.text.specs.Statements.{machine_of, machine_on, SameMachine, HasForm}
use Rattle.text.proofs.AllSpelled.{spelled_each}
use Rattle.text.proofs.SideLines.{header_word}
use Rattle.text.proofs.Places.{Rising, rising_picked}
use Rattle.text.proofs.Grids.{grid_fits}
use Rattle.text.proofs.SideRows.{rows_on}
use Rattle.text.proofs.Held.{Held, rows_of, text_of}
use Rattle.text.proofs.SideTexts.{machine_so}
use Rattle.text.proofs.MachinePlaces.{machine_places, same_steps}
use Rattle.text.proofs.StepTexts.{step_text, step_at, steps_text}

-- The places of the steps that are written.
abbrev pub written_places : {L : Type 0} → Form → Meaning L → List ℕ
written_places Machine m = machine_places m
written_places Trace m = []

pub places_rise : {L : Type 0} (form : Form) (m : Meaning L) → Rising 0 (written_places form m) (states m * states m)
places_rise Machine m = rising_picked (step_at m.step (states m)) (states m * states m)
places_rise Trace m = omega arith

pub trace_bare : {L : Type 0} (form : Form) (m : Meaning L) → is_machine form ≡ false → written_places form m ≡ []
trace_bare Machine m e = absurd (cc)
trace_bare Trace m e = refl

module _ {L : Type 0} (spelled : L → Option (List ℤ)) (form : Form) (m : Meaning L) (some : 0 < states m) (few : states m ≤ state_bound) (numbers : List (List ℤ)) (e : all_spelled spelled m.labels ≡ Some numbers) where
  abbrev pub written_held : Held spelled
  written_held = record {
    form = form;
    labels = m.labels;
    numbers = numbers;
    places = written_places form m;
    some = some;
    few = few;
    spelled_so = e;
    rising = places_rise form m;
    bare = trace_bare form m;
  }

  pub written_text : side_lines form m numbers ≡ text_of written_held
  written_text = by form
    where
      by : (form : Form) → side_lines form m numbers ≡ line (header_word form) (pos (states m) ∷ []) ++ (label_lines 0 numbers ++ step_text (states m) (written_places form m))
      by Machine = ap (λ x. header_line (states m) ++ (label_lines 0 numbers ++ x)) (sym (steps_text m.step (states m) (states m)))
      by Trace = λ i. line (header_word Trace) (pos (spelled_each spelled m.labels numbers e i) ∷ []) ++ sym (append-nil (label_lines 0 numbers)) i

  module _ (side : Side) (rs : Rows L) (are : rows_on side rs ≡ rows_of written_held) (formed : HasForm form m) where
    -- What is read is the same machine.
    pub same_machine : SameMachine (machine_on side rs) m
    same_machine = subst (λ x. SameMachine x m) (sym (machine_so written_held side rs are)) (by form formed)
      where
        by : (form : Form) → HasForm form m → SameMachine (machine_of form m.labels (grid (states m) (written_places form m))) m
        by Machine bounded = subst (λ x. SameMachine x m) (sym (grid_fits m.labels (machine_places m) some few)) (record { labels = refl; steps = λ s t. same_steps m bounded s t })
        by Trace same = same
