-- A formula's text, from its line and what comes after it. Assumes nothing.
use Rattle.std.proofs.Common.{◌≡◌, ℕ, ◌<◌, List, [], ◌∷◌, length, Option, Some, None, Result, Ok, Err, MatchResult, Bor, ℤ, refl, sym, ap, subst, ◌∙◌, arith}
use Rattle.std.specs.Prelude.{ok_or}
use Rattle.std.specs.List.{join_with_byte}
use Rattle.arrayvec.specs.ArrayVec.{ArrayVec}
use Rattle.until.specs.declared.formula.Line.{Line}
use Rattle.until.specs.Formulas.{Formula}
use Rattle.text.specs.declared.fault.Fault.{Fault}
use Rattle.text.specs.declared.fault.Fault.TheVariants.{NoForm, WrongItems, OutOfOrder}
use Rattle.text.specs.declared.fault.Refused.{Refused}
use Rattle.text.specs.Faults.{refused_at}
use Rattle.text.specs.Lines.{pieces}
use Rattle.text.specs.FormulaTexts.{placed_first, line_in, line_checked, Writes, alone}
use Rattle.text.specs.FormulaParts.{AreLinesOf, Gives, ReadsLine, ReadsText}
use Rattle.text.proofs.Pieces.{some_pieces, pieces_joined}

abbrev pub Lines : Type 0
Lines = ArrayVec (Line (Bor (List ℕ)))

abbrev pub failed : Fault → Result Lines Fault
failed fault = Err fault

abbrev pub found : Lines → Result Lines Fault
found lines = Ok lines

module _ {L : Type 0} (understood : List ℤ → Option L) where
  abbrev ReadsPieces : List (List ℕ) → Result Lines (Refused ℕ) → Type 0
  ReadsPieces ps r =
      MatchResult (line_in ps)
      (λ line. (F : Option (Formula L)) × Writes understood line F × Gives understood (alone understood F ps) r)
      (λ e. r ≡ Err e)

  -- where there is no newline
  bytes_alone : (line : List ℕ) (r : Result Lines (Refused ℕ)) → 0 < length line → r ≡ Err (refused_at NoForm 1) → ReadsPieces (line ∷ []) r
  bytes_alone [] r some e = absurd (omega arith)
  bytes_alone (b ∷ bs) r some e = e

  pub no_newline : (text line : List ℕ) (r : Result Lines (Refused ℕ)) → pieces 10 text ≡ line ∷ [] → 0 < length text → r ≡ Err (refused_at NoForm 1) → ReadsText understood text r
  no_newline text line r is some e =
      let whole : line ≡ text = sym (ap (join_with_byte 10) is) ∙ sym (pieces_joined 10 text (pieces 10 text) refl) in
      subst (λ ps. ReadsPieces ps r) (sym is) (bytes_alone line r (omega (arith, ap length whole)) e)

  -- where the line is refused
  fault_same : (e f : Fault) → failed e ≡ failed f → f ≡ e
  fault_same e f is = cc

  refused_line : (line piece : List ℕ) (more : List (List ℕ)) (fault : Fault) (r : Result Lines (Refused ℕ)) (checked : Result (Unit {0}) Fault) →
      MatchResult checked (λ _. (F : Option (Formula L)) × Writes understood line F × Gives understood (ok_or F WrongItems) (Err fault)) (λ f. failed fault ≡ failed f) → r ≡ Err (refused_at fault 1) →
      MatchResult (placed_first line checked) (λ l. (F : Option (Formula L)) × Writes understood l F × Gives understood (alone understood F (line ∷ piece ∷ more)) r) (λ e. r ≡ Err e)
  refused_line line piece more fault r (Err f) reads e = e ∙ ap (λ g. Err (refused_at g 1)) (sym (fault_same fault f reads))
  refused_line line piece more fault r (Ok u) (None, writes, gives) e = (None, writes, e ∙ ap (λ g. Err (refused_at g 1)) (sym (fault_same fault WrongItems gives)))
  refused_line line piece more fault r (Ok u) (Some G, writes, gives) e = absurd gives

  after_refused : (line : List ℕ) (ps : List (List ℕ)) (fault : Fault) (r : Result Lines (Refused ℕ)) → 0 < length ps → ReadsLine understood line (Err fault) → r ≡ Err (refused_at fault 1) → ReadsPieces (line ∷ ps) r
  after_refused line [] fault r some reads e = absurd (omega arith)
  after_refused line (piece ∷ more) fault r some reads e = refused_line line piece more fault r (line_checked line) reads e

  pub text_refused : (text line after : List ℕ) (fault : Fault) (r : Result Lines (Refused ℕ)) → pieces 10 text ≡ line ∷ pieces 10 after → ReadsLine understood line (Err fault) → r ≡ Err (refused_at fault 1) → ReadsText understood text r
  text_refused text line after fault r cut reads e =
      subst (λ ps. ReadsPieces ps r) (sym cut) (after_refused line (pieces 10 after) fault r (some_pieces 10 after) reads e)

  -- where it is read
  read_line_alone : (line : List ℕ) (ps : List (List ℕ)) (lines : Lines) (r : Result Lines (Refused ℕ)) (checked : Result (Unit {0}) Fault) →
      MatchResult checked (λ _. (F : Option (Formula L)) × Writes understood line F × Gives understood (ok_or F WrongItems) (Ok lines)) (λ f. found lines ≡ failed f) →
      ((G : Formula L) → AreLinesOf understood G lines → Gives understood (alone understood (Some G) ps) r) →
      MatchResult (placed_first line checked) (λ l. (F : Option (Formula L)) × Writes understood l F × Gives understood (alone understood F ps) r) (λ e. r ≡ Err e)
  read_line_alone line ps lines r (Err f) reads gives = cc
  read_line_alone line ps lines r (Ok u) (None, writes, given) gives = cc
  read_line_alone line ps lines r (Ok u) (Some G, writes, given) gives = (Some G, writes, gives G given)

  -- something comes after it
  more_said : (line : List ℕ) (ps : List (List ℕ)) (G : Formula L) (r : Result Lines (Refused ℕ)) → (ps ≡ [] ∷ [] → ⊥) → r ≡ Err (refused_at OutOfOrder 2) → Gives understood (alone understood (Some G) (line ∷ ps)) r
  more_said line [] G r more e = e
  more_said line ([] ∷ []) G r more e = absurd (more refl)
  more_said line ([] ∷ q ∷ qs) G r more e = e
  more_said line ((b ∷ bs) ∷ qs) G r more e = e

  more_after : (line : List ℕ) (ps : List (List ℕ)) (lines : Lines) (r : Result Lines (Refused ℕ)) → 0 < length ps → (ps ≡ [] ∷ [] → ⊥) → ReadsLine understood line (Ok lines) → r ≡ Err (refused_at OutOfOrder 2) → ReadsPieces (line ∷ ps) r
  more_after line [] lines r some more reads e = absurd (omega arith)
  more_after line (piece ∷ rest) lines r some more reads e =
      read_line_alone line (line ∷ piece ∷ rest) lines r (line_checked line) reads (λ G given. more_said line (piece ∷ rest) G r more e)

  pub text_goes_on : (text line after : List ℕ) (lines : Lines) (r : Result Lines (Refused ℕ)) → pieces 10 text ≡ line ∷ pieces 10 after → 0 < length after → ReadsLine understood line (Ok lines) → r ≡ Err (refused_at OutOfOrder 2) → ReadsText understood text r
  text_goes_on text line after lines r cut some reads e =
      subst (λ ps. ReadsPieces ps r) (sym cut)
      (more_after line (pieces 10 after) lines r (some_pieces 10 after) (λ none. omega (arith, ap (λ ps. length (join_with_byte 10 ps)) none, ap length (sym (pieces_joined 10 after (pieces 10 after) refl)))) reads e)

  -- nothing comes after it
  pub text_read : (text line after : List ℕ) (lines : Lines) → pieces 10 text ≡ line ∷ pieces 10 after → length after ≡ 0 → ReadsLine understood line (Ok lines) → ReadsText understood text (Ok lines)
  text_read text line (b ∷ bs) lines cut none reads = absurd (omega arith)
  text_read text line [] lines cut none reads =
      subst (λ ps. ReadsPieces ps (Ok lines)) (sym cut) (read_line_alone line (line ∷ [] ∷ []) lines (Ok lines) (line_checked line) reads (λ G given. given))
