-- A header, the lines of all labels, and those of steps at places that rise are read, on each side. Assumes nothing.
use Rattle.std.proofs.Common.{◌≡◌, ℕ, ◌+◌, ◌*◌, ◌/◌, ◌%◌, ◌<◌, ◌≤◌, ⊎_elim, true, false, cond, List, [], ◌∷◌, ◌++◌, length, Option, Some, Ok, ℤ, pos, All, ltb, refl, sym, ap, ◌∙◌, subst, arith, append_assoc, append-nil, div-add-mod'}
use Rattle.std.proofs.lemmas.Bool.{cond-true, cond-false, cases_Bool, lt-ltb, le-ltb}
use Rattle.std.proofs.lemmas.Nat.{div_below, mod_below}
use Rattle.std.proofs.lemmas.List.Elements.{All-cons}
use Rattle.model.specs.Machines.{state_bound}
use Rattle.text.specs.declared.fault.Side.{Side}
use Rattle.text.specs.declared.word.Word.{Word}
use Rattle.text.specs.declared.word.Word.TheVariants.{Machine as MachineWord, Label as LabelWord, Step as StepWord}
use Rattle.text.specs.declared.row.Shape.{Shape}
use Rattle.text.specs.declared.row.Shape.TheVariants.{Two, Alone}
use Rattle.text.specs.declared.row.Form.{Form}
use Rattle.text.specs.declared.row.Row.{Row}
use Rattle.text.specs.declared.row.Row.TheVariants.{Header, Label, Step}
use Rattle.text.specs.declared.row.Due.{Due}
use Rattle.text.specs.declared.row.Due.TheVariants.{Label as LabelDue, Step as StepDue}
use Rattle.text.specs.Lines.{pieces}
use Rattle.text.specs.Spelling.{Spelling}
use Rattle.text.specs.Rows.{part, knows, is_due, is_machine, row, after, side_at, states_before}
use Rattle.text.specs.Readings.{Rows, rows}
use Rattle.text.specs.Writings.{form, line, label_line, label_lines, step_line, all_spelled}
use Rattle.text.proofs.AllThere.{all_there}
use Rattle.text.proofs.RowLines.{form_says, form_side}
use Rattle.text.proofs.RowByRow.{rows_more}
use Rattle.text.proofs.SideLines.{header_word, header_said, label_said, step_said}
use Rattle.text.proofs.WrittenNumbers.{Small, number_small, one_small}
use Rattle.text.proofs.SideRows.{on}
use Rattle.text.proofs.Held.{Held, text_of, text_then, rows_of, step_rows, label_rows}
use Rattle.text.proofs.Places.{Rising, rising_end}
use Rattle.text.proofs.StepTexts.{step_text}

knows_labels : (shape : Shape) → knows shape LabelWord ≡ true
knows_labels Two = refl
knows_labels Alone = refl

knows_steps : (shape : Shape) → knows shape StepWord ≡ true
knows_steps Two = refl
knows_steps Alone = refl

module _ {L : Type 0} (understood : List ℤ → Option L) (shape : Shape) where
  -- A line that says a row is read before the others.
  line_read : (due : Due) (k : ℕ) (word : Word) (zs : List ℤ) (r : Row L) (rest : List ℕ) (rs : Rows L) → length zs ≤ 4 → All Small zs → knows shape word ≡ true → is_due due word ≡ true →
      row understood due word zs ≡ Ok r → rows understood shape (after due r) (k + 1) (pieces 10 rest) ≡ Ok rs → rows understood shape due k (pieces 10 (line word zs ++ rest)) ≡ Ok ((side_at due word, r) ∷ rs)
  line_read due k word zs r rest rs few small known may said more =
      rows_more understood shape due k _ (form word zs) rest r rs (append_assoc (form word zs) (10 ∷ []) rest) (form_says understood shape due word zs few small known may ∙ said) more
      ∙ ap (λ side. Ok ((side, r) ∷ rs)) (form_side due word zs few small)

  module _ (side : Side) (kind : Form) (n : ℕ) (few : n ≤ state_bound) (rest : List ℕ) (others : Rows L) (then : (place k : ℕ) → rows understood shape (StepDue (part side kind n) place) k (pieces 10 rest) ≡ Ok others) where
    -- Steps are read, and what comes after them,
    steps_say : is_machine kind ≡ true → 0 < n → (place k : ℕ) (qs : List ℕ) → Rising place qs (n * n) → rows understood shape (StepDue (part side kind n) place) k (pieces 10 (step_text n qs ++ rest)) ≡ Ok (on side (step_rows qs) ++ others)
    steps_say machine some place k [] h = then place k
    steps_say machine some place k (q ∷ qs) h =
        let low : q < n * n = omega (arith, rising_end (q + 1) qs (n * n) h.1) in
        let s = q / n in
        let t = q % n in
        let at = div-add-mod' q n in
        let from : s < n = div_below q n n some low in
        let to : t < n = mod_below q n some in
        ap (λ x. rows understood shape (StepDue (part side kind n) place) k (pieces 10 x)) (append_assoc (step_line s t) (step_text n qs) rest)
        ∙ line_read (StepDue (part side kind n) place) k StepWord (pos s ∷ pos t ∷ []) (Step q) (step_text n qs ++ rest) (on side (step_rows qs) ++ others) (omega arith)
        (All-cons Small (pos s) (pos t ∷ []) (number_small s (omega arith)) (one_small (pos t) (number_small t (omega arith))))
        (knows_steps shape) machine
        (step_said understood (part side kind n) place s t few from to (omega (arith, h.0, at)) ∙ ap (λ x. Ok (Step x)) at)
        (steps_say machine some (q + 1) (k + 1) qs h.1)

    all_steps_say : 0 < n → (k : ℕ) (places : List ℕ) → Rising 0 places (n * n) → (is_machine kind ≡ false → places ≡ []) → rows understood shape (StepDue (part side kind n) 0) k (pieces 10 (step_text n places ++ rest)) ≡ Ok (on side (step_rows places) ++ others)
    all_steps_say some k places rising bare =
        ⊎_elim
        (λ machine. steps_say machine some 0 k places rising)
        (λ trace. subst (λ x. rows understood shape (StepDue (part side kind n) 0) k (pieces 10 (step_text n x ++ rest)) ≡ Ok (on side (step_rows x) ++ others)) (sym (bare trace)) (then 0 k))
        (cases_Bool (is_machine kind))

    module _ (spelled : L → Option (List ℤ)) (laws : Spelling spelled understood) (places : List ℕ) (rising : Rising 0 places (n * n)) (bare : is_machine kind ≡ false → places ≡ []) where
      -- and so are labels.
      labels_say : (s k : ℕ) (ls : List L) (numbers : List (List ℤ)) → 0 < length ls → s + length ls ≡ n → all_spelled spelled ls ≡ Some numbers →
          rows understood shape (LabelDue (part side kind n) s) k (pieces 10 (label_lines s numbers ++ (step_text n places ++ rest))) ≡ Ok (on side (label_rows s ls (step_rows places)) ++ others)
      labels_say s k [] numbers some all e = absurd (omega arith)
      labels_say s k (l ∷ ls) numbers some all e =
          let f = all_there (spelled l) (all_spelled spelled ls) numbers e in
          let few_numbers = laws.few f.first l f.first_so in
          ap (λ x. rows understood shape (LabelDue (part side kind n) s) k (pieces 10 (label_lines s x ++ (step_text n places ++ rest)))) f.are
          ∙ ap (λ x. rows understood shape (LabelDue (part side kind n) s) k (pieces 10 x)) (append_assoc (label_line s f.first) (label_lines (s + 1) f.others) (step_text n places ++ rest))
          ∙ line_read (LabelDue (part side kind n) s) k LabelWord (pos s ∷ f.first) (Label s l) (label_lines (s + 1) f.others ++ (step_text n places ++ rest)) (on side (label_rows (s + 1) ls (step_rows places)) ++ others) (omega arith)
          (All-cons Small (pos s) f.first (number_small s (omega arith)) (laws.small f.first l f.first_so))
          (knows_labels shape) refl
          (label_said understood (part side kind n) s f.first l (omega arith) (laws.forth f.first l f.first_so))
          (then_more ls f.others f.others_so all (λ p. labels_say (s + 1) (k + 1) ls f.others p (omega arith) f.others_so))
        where
          then_more : (ls : List L) (numbers : List (List ℤ)) → all_spelled spelled ls ≡ Some numbers → s + length (l ∷ ls) ≡ n →
              (0 < length ls → rows understood shape (LabelDue (part side kind n) (s + 1)) (k + 1) (pieces 10 (label_lines (s + 1) numbers ++ (step_text n places ++ rest))) ≡ Ok (on side (label_rows (s + 1) ls (step_rows places)) ++ others)) →
              rows understood shape (cond (ltb (s + 1) n) (LabelDue (part side kind n) (s + 1)) (StepDue (part side kind n) 0)) (k + 1) (pieces 10 (label_lines (s + 1) numbers ++ (step_text n places ++ rest))) ≡ Ok (on side (label_rows (s + 1) ls (step_rows places)) ++ others)
          then_more [] numbers e all more =
              let none : numbers ≡ [] = cc in
              (λ i. rows understood shape (cond-false _ (LabelDue (part side kind n) (s + 1)) (StepDue (part side kind n) 0) (le-ltb (s + 1) n (omega arith)) i) (k + 1) (pieces 10 (label_lines (s + 1) (none i) ++ (step_text n places ++ rest))))
              ∙ all_steps_say (omega arith) (k + 1) places rising bare
          then_more (y ∷ ys) numbers e all more =
              ap (λ x. rows understood shape x (k + 1) (pieces 10 (label_lines (s + 1) numbers ++ (step_text n places ++ rest)))) (cond-true _ _ _ (lt-ltb (s + 1) n (omega arith))) ∙ more (omega arith)

  module _ (spelled : L → Option (List ℤ)) (laws : Spelling spelled understood) (h : Held spelled) (due : Due) (k : ℕ) (side : Side) (here : side_at due MachineWord ≡ side) (few : states_before due + length h.labels ≤ state_bound)
      (known : knows shape (header_word h.form) ≡ true) (may : is_due due (header_word h.form) ≡ true) (on_side : side_at due (header_word h.form) ≡ side) where
    -- A side is read, and what comes after it,
    pub side_says : (rest : List ℕ) (others : Rows L) → ((place k : ℕ) → rows understood shape (StepDue (part side h.form (length h.labels)) place) k (pieces 10 rest) ≡ Ok others) → rows understood shape due k (pieces 10 (text_of h ++ rest)) ≡ Ok (on side (rows_of h) ++ others)
    side_says rest others then =
        let n = length h.labels in
        let lines = label_lines 0 h.numbers ++ (step_text n h.places ++ rest) in
        let more = labels_say side h.form n h.few rest others then spelled laws h.places h.rising h.bare 0 (k + 1) h.labels h.numbers h.some (omega arith) h.spelled_so in
        ap (λ x. rows understood shape due k (pieces 10 x)) (sym (text_then h rest))
        ∙ line_read due k (header_word h.form) (pos n ∷ []) (Header h.form n) lines (on side (label_rows 0 h.labels (step_rows h.places)) ++ others) (omega arith)
        (one_small (pos n) (number_small n (omega (arith, h.few))))
        known may (header_said understood due h.form n h.some few)
        (ap (λ x. rows understood shape (LabelDue (part x h.form n) 0) (k + 1) (pieces 10 lines)) here ∙ more)
        ∙ ap (λ x. Ok ((x, Header h.form n) ∷ (on side (label_rows 0 h.labels (step_rows h.places)) ++ others))) on_side

    -- or to the end.
    pub last_says : ((place k : ℕ) → rows understood shape (StepDue (part side h.form (length h.labels)) place) k (pieces 10 []) ≡ Ok []) → rows understood shape due k (pieces 10 (text_of h)) ≡ Ok (on side (rows_of h))
    last_says then = ap (λ x. rows understood shape due k (pieces 10 x)) (sym (append-nil (text_of h))) ∙ side_says [] [] then ∙ ap Ok (append-nil (on side (rows_of h)))
