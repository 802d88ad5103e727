-- In a text of two machines that is read, the header of each side counts its labels, and there are not too many. Assumes nothing.
use Rattle.std.proofs.Common.{◌≡◌, ℕ, ◌+◌, ◌<◌, ◌≤◌, List, length, Some, Ok, sym, ap, ◌∙◌, arith}
use Rattle.model.specs.Machines.{state_bound}
use Rattle.text.specs.declared.fault.Side.TheVariants.{Left, Right}
use Rattle.text.specs.declared.row.Form.{Form}
use Rattle.text.specs.declared.row.Form.TheVariants.{Machine}
use Rattle.text.specs.declared.row.Shape.TheVariants.{Two}
use Rattle.text.specs.OrderLines.{text_spelled, text_understood}
use Rattle.text.specs.TextOrderLaws.{text_spelling}
use Rattle.text.specs.Readings.{Rows, Said, labels_on, header_on, side_read, two_said}
use Rattle.text.proofs.Held.{says_header, says_labels}
use Rattle.text.proofs.SidesRead.{both_are_read}
use Rattle.text.proofs.OrderTexts.{sides_said}

pub record Counted {L : Type 0} (rs : Rows L) : Type 0 where
  pub form : Form
  pub left : header_on Left rs ≡ Some (side_read form (length (labels_on Left rs)))
  pub right : header_on Right rs ≡ Some (side_read Machine (length (labels_on Right rs)))
  pub some_left : 0 < length (labels_on Left rs)
  pub some_right : 0 < length (labels_on Right rs)
  pub few : length (labels_on Left rs) + length (labels_on Right rs) ≤ state_bound

pub two_counted : (text : List ℕ) (said : Said) → two_said text ≡ Ok said → Counted said.rows
two_counted text said h =
    let rs = said.rows in
    let sides = sides_said text said h in
    let both = both_are_read (text_spelled said.order) (text_understood said.order) (text_spelling said.order) Two 2 sides.rest rs sides.read in
    let left = ap length (says_labels both.left Left rs both.on_left) in
    let right = ap length (says_labels both.right Right rs both.on_right) in
    record {
      form = both.left.form;
      left = says_header both.left Left rs both.on_left ∙ ap (λ n. Some (side_read both.left.form n)) (sym left);
      right = says_header both.right Right rs both.on_right ∙ (λ i. Some (side_read (both.machine i) (sym right i)));
      some_left = omega (arith, left, both.left.some);
      some_right = omega (arith, right, both.right.some);
      few = omega (arith, left, right, both.few);
    }
