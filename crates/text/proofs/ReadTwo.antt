-- What reading two machines answers, once the order and the rows are known and stored. Assumes nothing.
use Rattle.std.proofs.Common.{◌≡◌, ℕ, false, ◌||◌, List, drop, Option, Result, Ok, Err, refl, ap, ◌∙◌, subst, unwrap_or}
use Rattle.std.specs.Result.{MatchResult, IfOk}
use Rattle.std.proofs.lemmas.Bool.{or_parts}
use Rattle.model.specs.declared.flags.FlagSet.{FlagSet}
use Rattle.model.specs.declared.band.Span.{Span}
use Rattle.text.specs.declared.fault.Side.{Side}
use Rattle.text.specs.declared.fault.Side.TheVariants.{Order, Left, Right}
use Rattle.text.specs.declared.fault.Place.{Place}
use Rattle.text.specs.declared.fault.Refused.{Refused}
use Rattle.text.specs.declared.order.TextOrder.{TextOrder}
use Rattle.text.specs.declared.reading.SideRead.{SideRead}
use Rattle.text.specs.declared.reading.TwoRead.{TwoRead}
use Rattle.text.specs.declared.row.Shape.TheVariants.{Two}
use Rattle.text.specs.declared.row.Due.TheVariants.{Header as HeaderDue}
use Rattle.text.specs.Lines.{pieces}
use Rattle.text.specs.Faults.{place}
use Rattle.text.specs.OrderLines.{text_spelled, text_understood}
use Rattle.text.specs.TextOrderLaws.{text_spelling}
use Rattle.text.specs.Readings.{Rows, rows, header_on, side_said, first_line, then_sides, ordered, two_said, unless_refused, is_short, no_side, Said, SideMemory, filled, two_read, ReadsTwo}
use Rattle.text.specs.Filling.{stored}
use Rattle.text.proofs.SideRows.{rows_on}
use Rattle.text.proofs.Held.{Held, rows_of}
use Rattle.text.proofs.SidesRead.{both_are_read}
use Rattle.text.proofs.Stored.{rows_said}
use Rattle.text.proofs.ReadTexts.{read_if_passed, said_good, said_bad, room, good_match, bad_match}

module _ (text rest : List ℕ) (order : TextOrder) (named : first_line (pieces 10 text) ≡ Ok order) (follow : drop 1 (pieces 10 text) ≡ pieces 10 rest) where
  -- The rows of both sides.
  abbrev pub sides : Result (Rows (FlagSet × Span)) (Refused Place)
  sides = rows (text_understood order) Two (HeaderDue Left 0) 2 (pieces 10 rest)

  two_so : two_said text ≡ ordered order sides
  two_so = ap (λ o. then_sides o (drop 1 (pieces 10 text))) named ∙ ap (then_sides (Ok order)) follow

  module _ (left right : SideMemory (FlagSet × Span)) (passed : unless_refused {A = Unit {0}} text (place Order 1) (is_short left || is_short right) (Ok tt) ≡ Ok tt) (h : Result (Option SideRead × Option SideRead) (Refused Place))
      (tells : MatchResult sides (λ rs. h ≡ Ok (header_on Left rs, header_on Right rs)) (λ e. h ≡ Err e)) where
    pub two_refused : (e : Refused Place) → h ≡ Err e → ReadsTwo text left right (Err e) left right
    two_refused e bad =
        let s = said_bad (λ rs. (header_on Left rs, header_on Right rs)) h sides tells e bad in
        let p = read_if_passed text (place Order 1) (is_short left || is_short right) passed (two_said text) in
        let answer : Result TwoRead (Refused Place) = Err e in
        bad_match
        (λ said. (answer ≡ Ok (two_read said)) × (left ≡ filled Left said.rows left) × (right ≡ filled Right said.rows right))
        (λ e. (answer ≡ Err e) × (left ≡ left) × (right ≡ right))
        (unless_refused text (place Order 1) (is_short left || is_short right) (two_said text)) e (p.1 ∙ two_so ∙ ap (ordered order) s)
        (refl, refl, refl)

    -- A side whose rows are stored holds what they say.
    side_filled : (rs : Rows (FlagSet × Span)) → sides ≡ Ok rs → (h : Held (text_spelled order)) (side : Side) → rows_on side rs ≡ rows_of h → (memory after : SideMemory (FlagSet × Span)) → is_short memory ≡ false →
        IfOk sides (λ rs. after ≡ stored side rs memory) → after ≡ filled side rs memory
    side_filled rs read h side are memory after long keeps =
        let kept : after ≡ stored side rs memory = subst (λ x. IfOk x (λ rs. after ≡ stored side rs memory)) read keeps in
        kept ∙ rows_said h side rs are memory (room memory long)

    pub two_good : (a b : Option SideRead) → h ≡ Ok (a, b) → (left_after right_after : SideMemory (FlagSet × Span)) →
        IfOk sides (λ rs. left_after ≡ stored Left rs left) → IfOk sides (λ rs. right_after ≡ stored Right rs right) →
        (x y : SideRead) → x ≡ unwrap_or a no_side → y ≡ unwrap_or b no_side → ReadsTwo text left right (Ok (record { order = order; left = x; right = y.count })) left_after right_after
    two_good a b good left_after right_after left_keeps right_keeps x y is_x is_y =
        let s = said_good (λ rs. (header_on Left rs, header_on Right rs)) h sides tells (a, b) good in
        let rs = s.0 in
        let p = read_if_passed text (place Order 1) (is_short left || is_short right) passed (two_said text) in
        let q = or_parts _ _ p.0 in
        let both = both_are_read (text_spelled order) (text_understood order) (text_spelling order) Two 2 rest rs s.1 in
        let said : Said = record { order = order; rows = rs } in
        let answer : Result TwoRead (Refused Place) = Ok (record { order = order; left = x; right = y.count }) in
        good_match
        (λ said. (answer ≡ Ok (two_read said)) × (left_after ≡ filled Left said.rows left) × (right_after ≡ filled Right said.rows right))
        (λ e. (answer ≡ Err e) × (left_after ≡ left) × (right_after ≡ right))
        (unless_refused text (place Order 1) (is_short left || is_short right) (two_said text)) said (p.1 ∙ two_so ∙ ap (ordered order) s.1) (
          ap (λ z. Ok (record { order = order; left = z; right = y.count })) (is_x ∙ ap (λ z. unwrap_or z no_side) (ap (λ z. z.0) s.2))
              ∙ ap (λ z. Ok (record { order = order; left = side_said Left rs; right = z.count })) (is_y ∙ ap (λ z. unwrap_or z no_side) (ap (λ z. z.1) s.2)),
          side_filled rs s.1 both.left Left both.on_left left left_after q.0 left_keeps,
          side_filled rs s.1 both.right Right both.on_right right right_after q.1 right_keeps,
        )
