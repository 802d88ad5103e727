-- What reading the parts of a text leaves in memory is what the text asks. Assumes nothing.
use Rattle.std.proofs.Common.{◌≡◌, ℕ, ◌+◌, ◌-◌, ◌^◌, ◌<◌, ◌≤◌, false, cond, List, length, take, drop, Option, Some, None, option_map, IfSome, Result, Ok, Err, IfErr, IsOkAnd, MatchResult, refl, sym, ap, ◌∙◌, subst, ltb, arith}
use Rattle.std.proofs.lemmas.Bool.Decides.{nat_tests}
use Rattle.std.proofs.lemmas.List.{take_at, length-append}
use Rattle.model.specs.declared.flags.FlagSet.{FlagSet}
use Rattle.model.specs.declared.band.Span.{Span}
use Rattle.model.specs.Memory.{over}
use Rattle.until.specs.declared.formula.Line.{Line}
use Rattle.until.specs.Formulas.{Formula}
use Rattle.until.specs.Lines.{denoted, all_name_earlier}
use Rattle.text.specs.declared.fault.Fault.TheVariants.{TooLong, ShortMemory}
use Rattle.text.specs.declared.fault.Side.TheVariants.{Right}
use Rattle.text.specs.declared.fault.Place.{Place}
use Rattle.text.specs.declared.fault.Refused.{Refused}
use Rattle.text.specs.declared.order.TextOrder.{TextOrder}
use Rattle.text.specs.declared.row.Form.TheVariants.{Machine}
use Rattle.text.specs.declared.question.Parts.{Parts}
use Rattle.text.specs.Questions.{question, held_parts}
use Rattle.text.specs.TextOrderLaws.{text_spelling}
use Rattle.text.specs.OrderLines.{text_spelled, text_understood}
use Rattle.text.specs.Faults.{refused, line_alone}
use Rattle.text.specs.Readings.{Rows, alone_said, by_line, text_bound, side_said, SideMemory, side_memory, is_short, filled, ReadsAlone}
use Rattle.text.specs.FormulaTexts.{size, flat, formula_places, FormulaSaid, ReadsFormula as ReadsLines}
use Rattle.text.proofs.Texts.{alone_told}
use Rattle.text.proofs.ReadTexts.{good_match}
use Rattle.text.proofs.FaultLines.{alone_line}
use Rattle.text.proofs.FormulaSizes.{size_some, length-flat}
use Rattle.text.proofs.FormulaFaultLines.{formula_near}
use Rattle.text.proofs.FormulaMeanings.{denoted_flat, earlier_flat}
use Rattle.report.specs.declared.places.Places.{Places}
use Rattle.report.specs.declared.refused.Section.TheVariants.{Machine as MachineSection, Formula as FormulaSection}
use Rattle.report.specs.declared.refused.Spot.{Spot}
use Rattle.text.specs.Statements.{machine_on}
use Rattle.report.specs.Sides.{first_states}
use Rattle.report.specs.QuestionsAsked.{moved, moved_answer, QuestionAsked, asked, AsksOf, Asks}
use Rattle.report.specs.QuestionsRead.{AreStates, ReadsMachine, AreLines, ReadsFormula, IsRead}
use Rattle.report.proofs.Sides.{side_is, side_filled}

abbrev Label : Type 0
Label = FlagSet × Span

-- A refusal whose line is no larger.
abbrev LineWithin : ℕ → Refused ℕ → Type 0
LineWithin n e = IfSome e.place (λ k. k ≤ n)

-- No line of a text has too large a number.
pub line_fits : (before : ℕ) → before ≤ text_bound → (r : Result ℕ (Refused ℕ)) → IfErr r (LineWithin (text_bound + 2)) → IfErr r (λ e. IfSome e.place (λ k. before + k < 2 ^ 63))
line_fits before low (Ok n) h = tt
line_fits before low (Err e) h = by e.place h
  where
    by : (o : Option ℕ) → IfSome o (λ k. k ≤ text_bound + 2) → IfSome o (λ k. before + k < 2 ^ 63)
    by None h = tt
    by (Some k) h = omega (arith, low, h)

wider : (n : ℕ) → n ≤ text_bound + 2 → (o : Option ℕ) → IfSome o (λ k. k ≤ n) → IfSome o (λ k. k ≤ text_bound + 2)
wider n low None h = tt
wider n low (Some k) h = omega (arith, low, h)

-- The line of a place.
on_line : (n : ℕ) (o : Option Place) → IfSome o (λ p. p.line ≤ n) → IfSome (option_map (λ p. p.line) o) (λ k. k ≤ n)
on_line n None h = tt
on_line n (Some p) h = h

module _ (order : TextOrder) (text : List ℕ) (short : length text ≤ text_bound) (memory : SideMemory Label) (long : is_short memory ≡ false) where
  -- What reading leaves where this is said.
  abbrev Leaves : Result ℕ (Refused ℕ) → SideMemory Label → Result (Rows Label) (Refused ℕ) → Type 0
  Leaves r after said = MatchResult said (λ rs. (r ≡ Ok (side_said Right rs).count) × (after ≡ filled Right rs memory)) (λ e. (r ≡ Err e) × (after ≡ memory))

  not_long : ltb text_bound (length text) ≡ false
  not_long = grind (arith, nat_tests)

  leaves : (r : Result ℕ (Refused ℕ)) (after : SideMemory Label) → ReadsAlone (text_understood order) text memory r after → Leaves r after (by_line (alone_said (text_understood order) text))
  leaves r after h =
      subst (Leaves r after) (λ i. cond (not_long i) (Err (refused TooLong (Some 1))) (cond (long i) (Err (refused ShortMemory None)) (by_line (alone_said (text_understood order) text)))) h

  states_there : (rs : Rows Label) (p : Places) → alone_said (text_understood order) text ≡ Ok rs → side_memory p.labels.items p.steps.items ≡ filled Right rs memory → AreStates p (machine_on Right rs) (side_said Right rs).count
  states_there rs p said full =
      let told = alone_told (text_spelled order) (text_understood order) (text_spelling order) text rs said in
      let header = told.told.written.counted in
      let side = side_is Right rs Machine header in
      record {
        machine = ap (λ x. first_states x.form (side_said Right rs).count p) (sym side) ∙ side_filled Right rs Machine header memory p full;
        few = omega (arith, ap (λ x. x.count) side, told.few);
      }

  pub machine_read : (r : Result ℕ (Refused ℕ)) (after : SideMemory Label) → ReadsAlone (text_understood order) text memory r after → (p : Places) → p.labels.items ≡ after.labels → p.steps.items ≡ after.steps → ReadsMachine order text p (moved_answer MachineSection 1 r)
  machine_read r after h p labels steps = by (alone_said (text_understood order) text) refl (leaves r after h)
    where
      by : (said : Result (Rows Label) (Refused Place)) → alone_said (text_understood order) text ≡ said → Leaves r after (by_line said) →
          MatchResult said (λ rs. IsOkAnd (moved_answer MachineSection 1 r) (AreStates p (machine_on Right rs))) (λ e. moved_answer MachineSection 1 r ≡ Err (moved MachineSection 1 (line_alone e)))
      by (Ok rs) said t = subst (λ x. IsOkAnd (moved_answer MachineSection 1 x) (AreStates p (machine_on Right rs))) (sym t.0) (states_there rs p said ((λ i. side_memory (labels i) (steps i)) ∙ t.1))
      by (Err e) said t = ap (moved_answer MachineSection 1) t.0

  pub machine_line : (r : Result ℕ (Refused ℕ)) (after : SideMemory Label) → ReadsAlone (text_understood order) text memory r after → IfErr r (LineWithin (text_bound + 2))
  machine_line r after h = by (alone_said (text_understood order) text) refl (leaves r after h)
    where
      by : (said : Result (Rows Label) (Refused Place)) → alone_said (text_understood order) text ≡ said → Leaves r after (by_line said) → IfErr r (LineWithin (text_bound + 2))
      by (Ok rs) said t = subst (λ x. IfErr x (LineWithin (text_bound + 2))) (sym t.0) tt
      by (Err e) said t =
          subst (λ x. IfErr x (LineWithin (text_bound + 2))) (sym t.0)
          (wider (length text + 2) (omega (arith, short)) (line_alone e).place (on_line (length text + 2) e.place (alone_line (text_understood order) text e said)))

module _ (order : TextOrder) (text : List ℕ) (memory after : List (Line Label)) (room : length memory ≡ formula_places) (same_room : length after ≡ formula_places) where
  lines_there : (F : Formula Label) → after ≡ over (flat 0 F) memory → AreLines after F (size F)
  lines_there F full =
      let front = ap (take (size F)) full ∙ take_at (flat 0 F) _ (size F) (length-flat 0 F) in
      let all = ap length full ∙ length-append (flat 0 F) (drop (length (flat 0 F)) memory) in
      record {
        some = size_some F;
        few = omega (arith, all, same_room, length-flat 0 F);
        earlier = ap (all_name_earlier 0) front ∙ earlier_flat 0 F;
        denote = ap (λ ls. denoted ls (size F - 1)) front ∙ denoted_flat F;
      }

  module _ (r : Result ℕ (Refused ℕ)) (h : ReadsLines (text_understood order) text memory r after) where
    pub formula_read : (before : ℕ) → ReadsFormula order text before after (moved_answer FormulaSection before r)
    formula_read before = record { said = h.said; says = subst (λ n. FormulaSaid (text_understood order) text n h.said) room h.says; reads = by h.said h.answers }
      where
        by : (said : Result (Formula Label) (Refused ℕ)) → MatchResult said (λ F. (r ≡ Ok (size F)) × (after ≡ over (flat 0 F) memory)) (λ e. (r ≡ Err e) × (after ≡ memory)) →
            MatchResult said (λ F. IsOkAnd (moved_answer FormulaSection before r) (AreLines after F)) (λ e. moved_answer FormulaSection before r ≡ Err (moved FormulaSection before e))
        by (Ok F) t = subst (λ x. IsOkAnd (moved_answer FormulaSection before x) (AreLines after F)) (sym t.0) (lines_there F t.1)
        by (Err e) t = ap (moved_answer FormulaSection before) t.0

    pub formula_line : IfErr r (LineWithin (text_bound + 2))
    formula_line = by h.said h.says h.answers
      where
        by : (said : Result (Formula Label) (Refused ℕ)) → FormulaSaid (text_understood order) text (length memory) said →
            MatchResult said (λ F. (r ≡ Ok (size F)) × (after ≡ over (flat 0 F) memory)) (λ e. (r ≡ Err e) × (after ≡ memory)) → IfErr r (LineWithin (text_bound + 2))
        by (Ok F) s t = subst (λ x. IfErr x (LineWithin (text_bound + 2))) (sym t.0) tt
        by (Err e) s t =
            subst (λ x. IfErr x (LineWithin (text_bound + 2))) (sym t.0)
            (wider 2 (omega arith) e.place (formula_near (text_understood order) text (length memory) e s))

-- All parts read are what is asked.
module _ (text : List ℕ) (parts : Parts) (formula : List ℕ) (n k : ℕ) (places : Places) (lines : List (Line Label)) (cut : Ok (held_parts parts) ≡ question text) (there : option_map (λ bytes. bytes.now) parts.formula ≡ Some formula) where
  abbrev ReadAsAsked : Type 0
  ReadAsAsked = (a : QuestionAsked) × Asks text (Ok a) × IsRead a (record { order = parts.order; states = n; lines = k }) places lines

  -- A good answer of a part.
  abbrev good : ℕ → Result ℕ (Refused Spot)
  good i = Ok i

  pub read_as_asked : ReadsMachine parts.order parts.machine.now places (Ok n) → ReadsFormula parts.order formula parts.lines lines (Ok k) → ReadAsAsked
  read_as_asked m f = rows (alone_said (text_understood parts.order) parts.machine.now) refl m
    where
      with_formula : (rs : Rows Label) → alone_said (text_understood parts.order) parts.machine.now ≡ Ok rs → AreStates places (machine_on Right rs) n → (said : Result (Formula Label) (Refused ℕ)) →
          FormulaSaid (text_understood parts.order) formula formula_places said → MatchResult said (λ F. IsOkAnd (good k) (AreLines lines F)) (λ e. good k ≡ Err (moved FormulaSection parts.lines e)) → ReadAsAsked
      with_formula rs read states (Ok F) says are =
          let a = asked parts.order (machine_on Right rs) F in
          let of = subst (λ f. AsksOf (held_parts parts) (machine_on Right rs) f (Ok a)) (sym there) (Ok F, says, refl) in
          (a, good_match _ _ (question text) (held_parts parts) (sym cut) (good_match _ _ _ rs read of), record { order = refl; machine = states; formula = are })
      with_formula rs read states (Err e) says are = absurd (cc)

      rows : (said : Result (Rows Label) (Refused Place)) → alone_said (text_understood parts.order) parts.machine.now ≡ said →
          MatchResult said (λ rs. IsOkAnd (good n) (AreStates places (machine_on Right rs))) (λ e. good n ≡ Err (moved MachineSection 1 (line_alone e))) → ReadAsAsked
      rows (Ok rs) read m = with_formula rs read m f.said f.says f.reads
      rows (Err e) read m = absurd (cc)
