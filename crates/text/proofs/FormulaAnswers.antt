-- What reading a formula answers, from what its text says. Assumes nothing.
use Rattle.std.proofs.Common.{◌≡◌, ℕ, ◌-◌, ◌<◌, ◌≤◌, true, lt-ltb, le-ltb, List, [], ◌∷◌, length, take, Option, Some, None, IfSome, Result, Ok, Err, MatchResult, ℤ, refl, sym, ap, subst, ◌∙◌, arith}
use Rattle.std.proofs.lemmas.Grind.{common_steps}
use Rattle.std.proofs.lemmas.List.{length-map}
use Rattle.std.specs.Prelude.{nat_lt}
use Rattle.model.specs.Memory.{over}
use Rattle.until.specs.declared.formula.Line.{Line}
use Rattle.until.specs.Formulas.{Formula}
use Rattle.until.specs.Lines.{denoted, all_name_earlier}
use Rattle.text.specs.declared.fault.Fault.{Fault}
use Rattle.text.specs.declared.fault.Fault.TheVariants.{ShortMemory, TooLong}
use Rattle.text.specs.declared.fault.Refused.{Refused}
use Rattle.text.specs.Faults.{refused, refused_at}
use Rattle.text.specs.Lines.{pieces, first_piece}
use Rattle.text.specs.Spelling.{Spelling}
use Rattle.text.specs.Readings.{unless_refused}
use Rattle.text.specs.FormulaTexts.{size, flat, placed_first, line_checked, line_in, Writes, alone, FormulaSaid, SaysOne, ReadsFormula}
use Rattle.text.specs.FormulaParts.{line_with, shown, lines_of, Gives, ReadsText}
use Rattle.text.proofs.FormulaFilling.{length-lines_of}
use Rattle.text.proofs.FormulaMeanings.{denoted_flat, earlier_flat}
use Rattle.text.proofs.FormulaReading.{Lines}
use Rattle.text.proofs.FormulaSizes.{length-flat}
use Rattle.text.proofs.FormulaWritten.{writes_one}

-- A text is looked at where it is not too long and memory is not short.
looked_at : (text : List ℕ) (room : ℕ) (s : Result (List ℕ) (Refused ℕ)) → length text ≤ 60000 → 80 ≤ room → unless_refused text 1 (nat_lt room 80) s ≡ s
looked_at text room s short enough = rw (le-ltb 60000 (length text) short, le-ltb room 80 enough) refl

module _ {L : Type 0} (understood : List ℤ → Option L) (text : List ℕ) where
  abbrev SaysBy : Result (List ℕ) (Refused ℕ) → Result (Formula L) (Refused ℕ) → Type 0
  SaysBy s said = MatchResult s (λ line. (F : Option (Formula L)) × Writes understood line F × (said ≡ alone understood F (pieces 10 text))) (λ e. said ≡ Err e)

  abbrev ReadsBy : Result (List ℕ) (Refused ℕ) → Result Lines (Refused ℕ) → Type 0
  ReadsBy s r = MatchResult s (λ line. (F : Option (Formula L)) × Writes understood line F × Gives understood (alone understood F (pieces 10 text)) r) (λ e. r ≡ Err e)

  -- what is read is what is said
  said_by : (s : Result (List ℕ) (Refused ℕ)) (r : Result Lines (Refused ℕ)) → ReadsBy s r → (said : Result (Formula L) (Refused ℕ)) × SaysBy s said × Gives understood said r
  said_by (Err e) r reads = (Err e, refl, reads)
  said_by (Ok line) r (F, writes, gives) = (alone understood F (pieces 10 text), (F, writes, refl), gives)

  module _ (memory : List (Line L)) where
    refused_by : (s : Result (List ℕ) (Refused ℕ)) (e : Refused ℕ) → s ≡ Err e → SaysBy s (Err e)
    refused_by (Err f) e is = let same : e ≡ f = cc in ap (λ g. Err g) same
    refused_by (Ok line) e is = cc

    refused_before : (e : Refused ℕ) (r : Result ℕ (Refused ℕ)) → unless_refused text 1 (nat_lt (length memory) 80) (line_in (pieces 10 text)) ≡ Err e → r ≡ Err e → ReadsFormula understood text memory r memory
    refused_before e r is answer = record { said = Err e; says = refused_by _ e is; answers = (answer, refl) }

    pub too_long : (r : Result ℕ (Refused ℕ)) → 60000 < length text → r ≡ Err (refused_at TooLong 1) → ReadsFormula understood text memory r memory
    too_long r long answer = refused_before (refused_at TooLong 1) r (rw (lt-ltb 60000 (length text) long) refl) answer

    pub short_memory : (r : Result ℕ (Refused ℕ)) → length text ≤ 60000 → length memory < 80 → r ≡ Err (refused ShortMemory None) → ReadsFormula understood text memory r memory
    short_memory r short room answer = refused_before (refused ShortMemory None) r (rw (le-ltb 60000 (length text) short, lt-ltb (length memory) 80 room) refl) answer

    pub text_refused : (e : Refused ℕ) (r : Result ℕ (Refused ℕ)) → length text ≤ 60000 → 80 ≤ length memory → ReadsText understood text (Err e) → r ≡ Err e → ReadsFormula understood text memory r memory
    text_refused e r short enough reads answer =
        let said = said_by (line_in (pieces 10 text)) (Err e) reads in
        by_said said.0 said.1 said.2
      where
        by_said : (said : Result (Formula L) (Refused ℕ)) → SaysBy (line_in (pieces 10 text)) said → Gives understood said (Err e) → ReadsFormula understood text memory r memory
        by_said (Ok F) says gives = absurd gives
        by_said (Err f) says gives = record {
          said = Err f;
          says = subst (λ s. SaysBy s (Err f)) (sym (looked_at text (length memory) (line_in (pieces 10 text)) short enough)) says;
          answers = (answer ∙ (let same : e ≡ f = cc in ap (λ g. Err g) same), refl);
        }

    -- a text that is read, and its lines in memory
    pub record Filled (n : ℕ) (after : List (Line L)) : Type 0 where
      pub formula : Formula L
      pub says : FormulaSaid understood text (length memory) (Ok formula)
      pub writes : Writes understood (first_piece (pieces 10 text)) (Some formula)
      pub count : n ≡ size formula
      pub lines : after ≡ over (flat 0 formula) memory

    pub filled_read : (n : ℕ) (after : List (Line L)) → Filled n after → ReadsFormula understood text memory (Ok n) after
    filled_read n after h = record { said = Ok h.formula; says = h.says; answers = (ap (λ k. Ok k) h.count, h.lines) }

    front_of : (F : Formula L) (n : ℕ) (after : List (Line L)) → n ≡ size F → after ≡ over (flat 0 F) memory → take n after ≡ flat 0 F
    front_of F n after count lines = let m = length-flat 0 F in rw (lines, count) (grind (arith, common_steps))

    pub filled_denotes : (n : ℕ) (after : List (Line L)) → Filled n after → Writes understood (first_piece (pieces 10 text)) (Some (denoted (take n after) (n - 1)))
    filled_denotes n after h =
        let same : denoted (take n after) (n - 1) ≡ h.formula = (λ i. denoted (front_of h.formula n after h.count h.lines i) (h.count i - 1)) ∙ denoted_flat h.formula in
        subst (λ F. Writes understood (first_piece (pieces 10 text)) (Some F)) (sym same) h.writes

    pub filled_earlier : (n : ℕ) (after : List (Line L)) → Filled n after → all_name_earlier 0 (take n after) ≡ true
    filled_earlier n after h = ap (all_name_earlier 0) (front_of h.formula n after h.count h.lines) ∙ earlier_flat 0 h.formula

abbrev Said : {L : Type 0} → Formula L → Result (Formula L) (Refused ℕ)
Said F = Ok F

module _ {L : Type 0} (understood : List ℤ → Option L) where
  -- what a text says, its first line writes
  alone_same : (line : List ℕ) (ps : List (List ℕ)) (F G : Formula L) → Said F ≡ alone understood (Some G) (line ∷ ps) → G ≡ F
  alone_same line [] F G e = cc
  alone_same line ([] ∷ []) F G e = cc
  alone_same line ([] ∷ q ∷ qs) F G e = cc
  alone_same line ((b ∷ bs) ∷ qs) F G e = cc

  writes_checked : (line piece : List ℕ) (more : List (List ℕ)) (F : Formula L) (checked : Result (Unit {0}) Fault) →
      MatchResult (placed_first line checked) (λ l. (G : Option (Formula L)) × Writes understood l G × (Said F ≡ alone understood G (line ∷ piece ∷ more))) (λ e. Said F ≡ Err e) → Writes understood line (Some F)
  writes_checked line piece more F (Err f) says = cc
  writes_checked line piece more F (Ok u) (None, writes, e) = cc
  writes_checked line piece more F (Ok u) (Some G, writes, e) = subst (λ H. Writes understood line (Some H)) (alone_same line (piece ∷ more) F G e) writes

  writes_by : (ps : List (List ℕ)) (F : Formula L) →
      MatchResult (line_in ps) (λ l. (G : Option (Formula L)) × Writes understood l G × (Said F ≡ alone understood G ps)) (λ e. Said F ≡ Err e) → Writes understood (first_piece ps) (Some F)
  writes_by [] F says = cc
  writes_by ([] ∷ []) F says = cc
  writes_by ((b ∷ bs) ∷ []) F says = cc
  writes_by (line ∷ piece ∷ more) F says = writes_checked line piece more F (line_checked line) says

  pub filled : (text : List ℕ) (memory : List (Line L)) (read : Lines) (n : ℕ) (after : List (Line L)) → length text ≤ 60000 → 80 ≤ length memory → ReadsText understood text (Ok read) →
      n ≡ length read.items → IfSome (lines_of understood (shown read.items)) (λ front. after ≡ over front memory) → Filled understood text memory n after
  filled text memory read n after short enough reads count written =
      let said = said_by understood text (line_in (pieces 10 text)) (Ok read) reads in
      by_said said.0 said.1 said.2
    where
      by_said : (said : Result (Formula L) (Refused ℕ)) → SaysBy understood text (line_in (pieces 10 text)) said → Gives understood said (Ok read) → Filled understood text memory n after
      by_said (Err e) says gives = cc
      by_said (Ok F) says gives = record {
        formula = F;
        says = subst (λ s. SaysBy understood text s (Ok F)) (sym (looked_at text (length memory) (line_in (pieces 10 text)) short enough)) says;
        writes = writes_by (pieces 10 text) F says;
        count = count ∙ sym (length-map read.items (line_with (λ b. b.now))) ∙ length-lines_of understood (shown read.items) (flat 0 F) gives ∙ length-flat 0 F;
        lines = subst (λ o. IfSome o (λ front. after ≡ over front memory)) gives written;
      }

-- no text says two things
module _ {L : Type 0} {spelled : L → Option (List ℤ)} (understood : List ℤ → Option L) (spelling : Spelling spelled understood) where
  one_by : (text : List ℕ) (line : Result (List ℕ) (Refused ℕ)) (s t : Result (Formula L) (Refused ℕ)) → SaysBy understood text line s → SaysBy understood text line t → s ≡ t
  one_by text (Err e) s t p q = p ∙ sym q
  one_by text (Ok line) s t p q = p.2 ∙ ap (λ F. alone understood F (pieces 10 text)) (writes_one understood spelling line p.0 q.0 p.1 q.1) ∙ sym q.2

  pub says_one : SaysOne understood
  says_one text room s t p q = one_by text (unless_refused text 1 (nat_lt room 80) (line_in (pieces 10 text))) s t p q
