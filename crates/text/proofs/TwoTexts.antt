-- A text of two machines that is read is that of what it says and of nothing else, and the text of two machines is read. Assumes nothing.
use Rattle.std.proofs.Common.{◌≡◌, ℕ, ◌+◌, ◌≤◌, true, List, ◌++◌, length, Ok, refl, sym, ap, ◌∙◌, arith}
use Rattle.std.specs.Prelude.{unwrap_or}
use Rattle.text.specs.declared.fault.Side.TheVariants.{Left, Right}
use Rattle.text.specs.declared.row.Form.{Form}
use Rattle.text.specs.declared.row.Form.TheVariants.{Machine, Trace}
use Rattle.text.specs.declared.row.Shape.TheVariants.{Two}
use Rattle.text.specs.declared.row.Due.TheVariants.{Header as HeaderDue, Step as StepDue}
use Rattle.text.specs.declared.order.TextOrder.{TextOrder}
use Rattle.text.specs.Lines.{pieces}
use Rattle.text.specs.OrderLines.{text_spelled, text_understood}
use Rattle.text.specs.TextOrderLaws.{text_spelling}
use Rattle.text.specs.Rows.{part, is_due, side_at}
use Rattle.text.specs.Readings.{Said, rows, two_said, no_side}
use Rattle.text.specs.Writings.{order_line}
use Rattle.text.specs.Statements.{TwoIsWritten, TwoIsRead, SameTwoTexts}
use Rattle.text.proofs.SideLines.{header_word}
use Rattle.text.proofs.SideRows.{on, rows_of_left, rows_of_right}
use Rattle.text.proofs.Held.{Held, rows_of, text_of, says_header}
use Rattle.text.proofs.SidesRead.{both_are_read}
use Rattle.text.proofs.SideTexts.{SideTold, told_as, side_told, same_side_text}
use Rattle.text.proofs.SidesWritten.{written_held, written_text, same_machine}
use Rattle.text.proofs.ReadsInOrder.{side_says, last_says}
use Rattle.text.proofs.OrderTexts.{sides_said, two_from_sides}
use Rattle.text.proofs.TextLength.{two_length}

-- What a text of two machines says of each side, and how the text is put together.
record TwoTold (text : List ℕ) (said : Said) : Type 0 where
  form : Form
  left_text : List ℕ
  right_text : List ℕ
  left : SideTold (text_spelled said.order) Left form said.rows left_text
  right : SideTold (text_spelled said.order) Right Machine said.rows right_text
  is : text ≡ order_line said.order ++ (left_text ++ right_text)

two_told : (text : List ℕ) (said : Said) → two_said text ≡ Ok said → TwoTold text said
two_told text said h =
    let sides = sides_said text said h in
    let spelled = text_spelled said.order in
    let both = both_are_read spelled (text_understood said.order) (text_spelling said.order) Two 2 sides.rest said.rows sides.read in
    record {
      form = both.left.form;
      left_text = text_of both.left;
      right_text = text_of both.right;
      left = side_told both.left Left said.rows both.on_left;
      right = told_as spelled Right said.rows both.machine refl (side_told both.right Right said.rows both.on_right);
      is = sides.is ∙ ap (λ x. order_line said.order ++ x) both.is;
    }

pub two_is_written : TwoIsWritten
two_is_written text said h =
    let t = two_told text said h in
    record { form = t.form; left = t.left.written; right = t.right.written; is = t.is ∙ (λ i. order_line said.order ++ (t.left.is i ++ t.right.is i)) }

pub same_two_texts : SameTwoTexts
same_two_texts a b p q h k order form left right =
    let x = two_told a p h in
    let y = two_told b q k in
    let same_form : x.form ≡ y.form = sym (ap (λ o. (unwrap_or o no_side).form) x.left.written.counted) ∙ form ∙ ap (λ o. (unwrap_or o no_side).form) y.left.written.counted in
    let left_text = same_side_text Left p.rows q.rows (λ i. text_spelled (order i)) same_form x.left y.left left in
    let right_text = same_side_text Right p.rows q.rows (λ i. text_spelled (order i)) refl x.right y.right right in
    x.is ∙ (λ i. order_line (order i) ++ (left_text i ++ right_text i)) ∙ sym y.is

left_first : (form : Form) → is_due (HeaderDue Left 0) (header_word form) ≡ true
left_first Machine = refl
left_first Trace = refl

-- Both sides are read, the right after the left.
both_said : (order : TextOrder) (l r : Held (text_spelled order)) → r.form ≡ Machine → length l.labels + length r.labels ≤ 64 → rows (text_understood order) Two (HeaderDue Left 0) 2 (pieces 10 (text_of l ++ text_of r)) ≡ Ok (on Left (rows_of l) ++ on Right (rows_of r))
both_said order l r machine few =
    let laws = text_spelling order in
    side_says (text_understood order) Two (text_spelled order) laws l (HeaderDue Left 0) 2 Left refl (omega (arith, l.few)) refl (left_first l.form) refl (text_of r) (on Right (rows_of r))
    (λ place k. last_says (text_understood order) Two (text_spelled order) laws r (StepDue (part Left l.form (length l.labels)) place) k Right refl few refl
    (ap (λ x. is_due (StepDue (part Left l.form (length l.labels)) place) (header_word x)) machine) (ap (λ x. side_at (StepDue (part Left l.form (length l.labels)) place) (header_word x)) machine) (λ place k. refl))

pub two_is_read : TwoIsRead
two_is_read order form left right formed bounded some more few ls rs e f =
    let spelled = text_spelled order in
    let l = written_held spelled form left some (omega arith) ls e in
    let r = written_held spelled Machine right more bounded.few rs f in
    let said : Said = record { order = order; rows = on Left (rows_of l) ++ on Right (rows_of r) } in
    let on_left = rows_of_left (rows_of l) (rows_of r) in
    let on_right = rows_of_right (rows_of l) (rows_of r) in
    record {
      said = said;
      read = ap (λ x. two_said (order_line order ++ x)) (λ i. written_text spelled form left some (omega arith) ls e i ++ written_text spelled Machine right more bounded.few rs f i) ∙ two_from_sides order (text_of l ++ text_of r) said.rows (both_said order l r refl few);
      same_order = refl;
      left_is = ap (λ o. unwrap_or o no_side) (says_header l Left said.rows on_left);
      right_is = ap (λ o. unwrap_or o no_side) (says_header r Right said.rows on_right);
      same_left = same_machine spelled form left some (omega arith) ls e Left said.rows on_left formed;
      same_right = same_machine spelled Machine right more bounded.few rs f Right said.rows on_right bounded;
      short = two_length order form left right ls rs few e f;
    }
