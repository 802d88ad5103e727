-- A text of two machines is the line of its order and the sides. Assumes nothing.
use Rattle.std.proofs.Common.{◌≡◌, ℕ, true, List, [], ◌∷◌, ◌++◌, drop, Option, Some, None, Result, Ok, Err, ok_or, bytes_eq, codes, refl, sym, ap, ◌∙◌, append_assoc, arith}
use Rattle.std.proofs.lemmas.Slice.Eq.{bytes_eq-Decides}
use Rattle.model.specs.declared.flags.FlagSet.{FlagSet}
use Rattle.model.specs.declared.band.Span.{Span}
use Rattle.text.specs.declared.fault.Fault.{Fault}
use Rattle.text.specs.declared.fault.Fault.TheVariants.{WrongItems}
use Rattle.text.specs.declared.fault.Side.TheVariants.{Left}
use Rattle.text.specs.declared.fault.Place.{Place}
use Rattle.text.specs.declared.fault.Refused.{Refused}
use Rattle.text.specs.declared.order.Base.TheVariants.{Flags, Band}
use Rattle.text.specs.declared.order.TextOrder.{TextOrder}
use Rattle.text.specs.declared.order.TextOrder.TheVariants.{Plain, Turned, Exact, Both}
use Rattle.text.specs.declared.word.Word.{Word}
use Rattle.text.specs.declared.row.Shape.TheVariants.{Two}
use Rattle.text.specs.declared.row.Due.TheVariants.{Header as HeaderDue}
use Rattle.text.specs.Lines.{newline, pieces, is_line, inside, first_word}
use Rattle.text.specs.Words.{word_of}
use Rattle.text.specs.OrderLines.{order_letters, all_orders, order_named, text_understood}
use Rattle.text.specs.Readings.{Rows, Said, rows, order_of, order_by, first_line, then_sides, ordered, two_said}
use Rattle.text.specs.Writings.{order_line}
use Rattle.text.proofs.Pieces.{more_pieces}
use Rattle.text.proofs.LineBytes.{line_in_brackets}
use Rattle.text.proofs.FormLines.{line_has_no_newline}
use Rattle.text.proofs.WordsFound.{found_passes}
use Rattle.text.proofs.OrderSays.{line_then, line_first}

-- An order's name in brackets.
abbrev order_form : TextOrder → List ℕ
order_form order = 40 ∷ (order_letters order ++ 41 ∷ [])

order_read : (line : List ℕ) (o : Option TextOrder) (order : TextOrder) → order_named line ≡ o → ok_or o WrongItems ≡ Ok order → line ≡ order_letters order
order_read line None order e h = cc
order_read line (Some found) order e h =
    let is : order_named line ≡ Some order = cc in
    sym ((bytes_eq-Decides (order_letters order) line).0 (found_passes (λ o. bytes_eq (order_letters o) line) all_orders order is))

order_by_word : (line : List ℕ) (o : Option Word) (order : TextOrder) → order_by line o ≡ Ok order → inside line ≡ order_letters order
order_by_word line None order h = cc
order_by_word line (Some w) order h = order_read (inside line) (order_named (inside line)) order refl (grind arith)

-- A line that says an order is that order's,
order_is : (line : List ℕ) (order : TextOrder) → order_of line ≡ Ok order → line ≡ order_form order
order_is line order h =
    let bracketed : is_line line ≡ true = grind arith in
    line_in_brackets line bracketed ∙ ap (λ x. 40 ∷ (x ++ 41 ∷ [])) (order_by_word line (word_of (first_word line)) order (grind arith))

-- and it says the order.
order_says : (order : TextOrder) → (is_line (order_form order) ≡ true) × (order_of (order_form order) ≡ Ok order)
order_says (Plain Flags) = (refl, refl)
order_says (Plain Band) = (refl, refl)
order_says (Turned Flags) = (refl, refl)
order_says (Turned Band) = (refl, refl)
order_says (Exact Flags) = (refl, refl)
order_says (Exact Band) = (refl, refl)
order_says Both = (refl, refl)

order_then : (order : TextOrder) (rest : List ℕ) → order_line order ++ rest ≡ order_form order ++ newline ∷ rest
order_then order rest =
    append_assoc (codes "(") (order_letters order ++ codes ")\n") rest
    ∙ ap (λ x. 40 ∷ x) (append_assoc (order_letters order) (codes ")\n") rest ∙ sym (append_assoc (order_letters order) (41 ∷ []) (newline ∷ rest)))

-- The sides come after the order's line.
pub record SidesSaid (text : List ℕ) (said : Said) : Type 0 where
  pub rest : List ℕ
  pub is : text ≡ order_line said.order ++ rest
  pub read : rows (text_understood said.order) Two (HeaderDue Left 0) 2 (pieces newline rest) ≡ Ok said.rows

ordered_so : (order : TextOrder) (o : Result (Rows (FlagSet × Span)) (Refused Place)) (said : Said) → ordered order o ≡ Ok said → (order ≡ said.order) × (o ≡ Ok said.rows)
ordered_so order (Err e) said h = cc
ordered_so order (Ok rs) said h = let is : record { order = order; rows = rs } ≡ said = cc in (ap (λ x. x.order) is, ap (λ x. Ok x.rows) is)

module _ (text : List ℕ) (said : Said) where
  sides_by : (line piece : List ℕ) (more : List (List ℕ)) (o : Result TextOrder Fault) → pieces newline text ≡ line ∷ piece ∷ more → order_of line ≡ o → then_sides o (piece ∷ more) ≡ Ok said → SidesSaid text said
  sides_by line piece more (Err fault) cut e h = cc
  sides_by line piece more (Ok order) cut e h =
      let m = more_pieces newline text line piece more cut in
      let s = ordered_so order _ said h in
      record {
        rest = m.0;
        is = m.1 ∙ ap (λ l. l ++ newline ∷ m.0) (order_is line order e) ∙ ap (λ o. order_form o ++ newline ∷ m.0) s.0 ∙ sym (order_then said.order m.0);
        read = (λ i. rows (text_understood (sym s.0 i)) Two (HeaderDue Left 0) 2 (m.2 i)) ∙ s.1;
      }

  pub sides_said : two_said text ≡ Ok said → SidesSaid text said
  sides_said h = by (pieces newline text) refl h
    where
      by : (ps : List (List ℕ)) → pieces newline text ≡ ps → then_sides (first_line ps) (drop 1 ps) ≡ Ok said → SidesSaid text said
      by [] cut h = cc
      by ([] ∷ []) cut h = cc
      by ((b ∷ bs) ∷ []) cut h = cc
      by (line ∷ piece ∷ more) cut h = sides_by line piece more (order_of line) cut refl (ap (λ o. then_sides o (piece ∷ more)) (sym (line_then line piece more)) ∙ h)

pub two_from_sides : (order : TextOrder) (rest : List ℕ) (rs : Rows (FlagSet × Span)) → rows (text_understood order) Two (HeaderDue Left 0) 2 (pieces newline rest) ≡ Ok rs → two_said (order_line order ++ rest) ≡ Ok (record { order = order; rows = rs })
two_from_sides order rest rs h =
    let line = order_form order in
    let cut : pieces newline (order_line order ++ rest) ≡ line ∷ pieces newline rest = ap (pieces newline) (order_then order rest) ∙ line_has_no_newline line rest (order_says order).0 in
    (λ i. then_sides (line_first (order_line order ++ rest) line rest cut i) (drop 1 (cut i)))
    ∙ ap (λ o. then_sides o (pieces newline rest)) (order_says order).1
    ∙ ap (ordered order) h
