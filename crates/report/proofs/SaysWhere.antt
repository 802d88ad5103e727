-- What is printed of the last row of an evaluation says where the last line holds. Assumes nothing.
use Rattle.std.proofs.Common.{◌≡◌, ℕ, zero, suc, ◌+◌, ◌-◌, ◌*◌, ◌<◌, Bool, List, length, drop, Ok, slice_index, sym, ap, ◌∙◌, subst, arith}
use Rattle.std.proofs.lemmas.List.{get_or-take, get_or-drop, length-take, length-drop}
use Rattle.model.specs.Machines.{Meaning, states}
use Rattle.model.proofs.Checks.{answered_at}
use Rattle.until.specs.declared.formula.Line.{Line}
use Rattle.until.specs.Formulas.{Holds}
use Rattle.until.specs.Lines.{Says, denoted, evaluate_refusal, Evaluated, Evaluates}
use Rattle.until.specs.Rows.{row_of}
use Rattle.report.specs.Printed.{holds_lines}
use Rattle.report.specs.QuestionsAsked.{SaysWhere}

rows_before : (k n : ℕ) → 0 < k → (k - 1) * n + n ≡ k * n
rows_before zero n h = absurd (omega arith)
rows_before (suc k) n h = grind arith

module _ {L : Type 0} (at_most : L → L → Bool) (m : Meaning L) (ls : List (Line L)) (before bytes : List ℕ) (some : 0 < length ls) (size : length bytes ≡ length ls * states m) where
  abbrev pub last : ℕ
  last = length ls - 1

  abbrev pub row : List ℕ
  row = row_of (states m) bytes last

  before_last : last * states m + states m ≡ length ls * states m
  before_last = rows_before (length ls) (states m) some

  row_length : length row ≡ states m
  row_length = omega (arith, before_last, size, length-take (states m) (drop (last * states m) bytes), length-drop (last * states m) bytes)

  byte_there : (s : ℕ) → s < states m → slice_index row s ≡ slice_index bytes (last * states m + s)
  byte_there s h = get_or-take (states m) (drop (last * states m) bytes) s 0 h ∙ get_or-drop (last * states m) bytes s 0

  pub says_where : Evaluates at_most m ls before (Ok tt) bytes → (lines : List ℕ) → lines ≡ holds_lines row (length row) → SaysWhere at_most m (denoted ls last) lines
  says_where e lines is =
      let q : Evaluated at_most m ls before bytes = (answered_at (evaluate_refusal (states m) ls (length before)) tt e).0 in
      record {
        row = row;
        says = λ s h. subst (λ b. Says b (Holds at_most m (denoted ls last) s)) (sym (byte_there s h)) (q.said last s (omega (arith, some)) h);
        is = is ∙ ap (holds_lines row) row_length;
      }
