-- The rows of a text are those of its lines, one by one. Assumes nothing.
use Rattle.std.proofs.Common.{◌≡◌, ℕ, ◌+◌, true, List, [], ◌∷◌, ◌++◌, length, Option, Some, None, Result, Ok, Err, ℤ, refl, sym, ap, ◌∙◌, arith, rules}
use Rattle.text.specs.declared.fault.Fault.{Fault}
use Rattle.text.specs.declared.fault.Side.{Side}
use Rattle.text.specs.declared.fault.Place.{Place}
use Rattle.text.specs.declared.fault.Refused.{Refused}
use Rattle.text.specs.declared.row.Shape.{Shape}
use Rattle.text.specs.declared.row.Row.{Row}
use Rattle.text.specs.declared.row.Due.{Due}
use Rattle.text.specs.Lines.{pieces, is_line}
use Rattle.text.specs.Rows.{row_of, side_of, side_of_line, after, may_end}
use Rattle.text.specs.Readings.{Rows, rows, ended, end_fault, placed, then_rows, also_row}
use Rattle.text.proofs.Leading.{leads_row}
use Rattle.text.proofs.FormLines.{line_has_no_newline}
use Rattle.text.proofs.Pieces.{some_pieces, pieces_joined, more_pieces}

same_front : {A B : Type 0} (a c : A) (b d : B) (xs ys : List (A × B)) → (a, b) ∷ xs ≡ (c, d) ∷ ys → (a ≡ c) × (b ≡ d) × (xs ≡ ys)
same_front {A} {B} a c b d xs ys h = let first : ◌≡◌ {A = A × B} (a, b) (c, d) = cc in (ap (λ x. x.0) first, ap (λ x. x.1) first, cc)

-- Where nothing is wrong with the end, nothing follows the last newline, and the text may end.
ends_well : (due : Due) (last : List ℕ) → end_fault due last ≡ None → (last ≡ []) × (may_end due ≡ true)
ends_well due [] none = (refl, search rules)
ends_well due (b ∷ bs) none = cc

module _ {L : Type 0} where
  ended_well : (side : Side) (k : ℕ) (o : Option Fault) (rs : Rows L) → ended side k o ≡ Ok rs → (o ≡ None) × (rs ≡ [])
  ended_well side k None rs h = (refl, cc)
  ended_well side k (Some fault) rs h = cc

  -- Rows of which the first is that of a line: the line says it, and the others come after it.
  record Begun (side : Side) (said_by : Result (Row L) Fault) (rest : Row L → Result (Rows L) (Refused Place)) (all : Rows L) : Type 0 where
    row : Row L
    others : Rows L
    said : said_by ≡ Ok row
    read : rest row ≡ Ok others
    is : (side, row) ∷ others ≡ all

  begun : (side : Side) (k : ℕ) (said_by : Result (Row L) Fault) (rest : Row L → Result (Rows L) (Refused Place)) (all : Rows L) → then_rows side (placed side k said_by) rest ≡ Ok all → Begun side said_by rest all
  begun side k (Err e) rest all h = cc
  begun side k (Ok r) rest all h = before (rest r) refl h
    where
      before : (o : Result (Rows L) (Refused Place)) → rest r ≡ o → also_row (side, r) o ≡ Ok all → Begun side (Ok r) rest all
      before (Err e) read h = cc
      before (Ok rs) read h = record { row = r; others = rs; said = refl; read = read; is = cc }

module _ {L : Type 0} (understood : List ℤ → Option L) (shape : Shape) where
  -- The first line of a text says the first row, and the lines after it the others.
  pub record FirstRow (due : Due) (k : ℕ) (text : List ℕ) (side : Side) (row : Row L) (rs : Rows L) : Type 0 where
    pub line : List ℕ
    pub rest : List ℕ
    pub cut : text ≡ line ++ 10 ∷ rest
    pub on : side_of_line due line ≡ side
    pub said : row_of understood shape due line ≡ Ok row
    pub more : rows understood shape (after due row) (k + 1) (pieces 10 rest) ≡ Ok rs

  module _ (due : Due) (k : ℕ) (text : List ℕ) where
    begun_with : (p q : List ℕ) (ps : List (List ℕ)) (all : Rows L) → rows understood shape due k (p ∷ q ∷ ps) ≡ Ok all → Begun (side_of_line due p) (row_of understood shape due p) (λ r. rows understood shape (after due r) (k + 1) (q ∷ ps)) all
    begun_with p q ps all h = begun (side_of_line due p) k _ _ all h

    -- A text with no row is empty, where it may end.
    pub rows_end : rows understood shape due k (pieces 10 text) ≡ Ok [] → (text ≡ []) × (may_end due ≡ true)
    rows_end h = by (pieces 10 text) refl h
      where
        by : (ps : List (List ℕ)) → pieces 10 text ≡ ps → rows understood shape due k ps ≡ Ok [] → (text ≡ []) × (may_end due ≡ true)
        by [] cut h = absurd (omega (arith, ap length cut, some_pieces 10 text))
        by (last ∷ []) cut h =
            let end = ends_well due last (ended_well (side_of due) k (end_fault due last) [] h).0 in
            (pieces_joined 10 text (last ∷ []) cut ∙ end.0, end.1)
        by (p ∷ q ∷ ps) cut h = let b = begun_with p q ps [] h in let is = b.is in cc

    pub rows_first : (side : Side) (row : Row L) (rs : Rows L) → rows understood shape due k (pieces 10 text) ≡ Ok ((side, row) ∷ rs) → FirstRow due k text side row rs
    rows_first side row rs h = by (pieces 10 text) refl h
      where
        by : (ps : List (List ℕ)) → pieces 10 text ≡ ps → rows understood shape due k ps ≡ Ok ((side, row) ∷ rs) → FirstRow due k text side row rs
        by [] cut h = absurd (omega (arith, ap length cut, some_pieces 10 text))
        by (last ∷ []) cut h = let none = (ended_well (side_of due) k (end_fault due last) ((side, row) ∷ rs) h).1 in cc
        by (p ∷ q ∷ ps) cut h =
            let b = begun_with p q ps ((side, row) ∷ rs) h in
            let m = more_pieces 10 text p q ps cut in
            let same = same_front _ _ _ _ _ _ b.is in
            record {
              line = p;
              rest = m.0;
              cut = m.1;
              on = same.0;
              said = b.said ∙ ap Ok same.1;
              more = (λ i. rows understood shape (after due (sym same.1 i)) (k + 1) (m.2 i)) ∙ b.read ∙ ap Ok same.2;
            }

    pub rows_more : (l rest : List ℕ) (r : Row L) (rs : Rows L) → text ≡ l ++ 10 ∷ rest → row_of understood shape due l ≡ Ok r → rows understood shape (after due r) (k + 1) (pieces 10 rest) ≡ Ok rs → rows understood shape due k (pieces 10 text) ≡ Ok ((side_of_line due l, r) ∷ rs)
    rows_more l rest r rs is said more =
        let line : is_line l ≡ true = grind arith in
        leads_row understood shape due k text l rest (ap (pieces 10) is ∙ line_has_no_newline l rest line) r said
        ∙ ap (also_row (side_of_line due l, r)) more
