use Rattle.std.proofs.Common.{◌≡◌, Err, rules, subst}
use Rattle.text.specs.Readings.{side_memory, ReadsTwo}
use Rattle.text.proofs.ReadTwo.{two_refused, two_good}
use Rattle.text.proofs.reading.read_two.Goals as goal

pub returns-in_err-left : goal.returns-in_err-left
returns-in_err-left c =
    let at = c.new-reader.ensures in
    let left = side_memory c.args.left_labels.now c.args.left_steps.now in
    let right = side_memory c.args.right_labels.now c.args.right_steps.now in
    let refused : Err c.in_err-left.field-0.0 ≡ c.from_residual-in_err-left.result = search rules in
    subst (λ r. ReadsTwo c.args.text.now left right r left right) refused
    (two_refused c.args.text.now c.in_ok-order.rest.now c.in_ok-order.order (search rules) (search rules) left right (search rules) c.headers.result (rw (at.bytes, at.line, at.due) at c.headers.ensures) c.in_err-left.field-0.0 c.in_err-left.was)

pub returns : goal.returns
returns c =
    let at = c.new-reader.ensures in
    let left = side_memory c.args.left_labels.now c.args.left_steps.now in
    let right = side_memory c.args.right_labels.now c.args.right_steps.now in
    two_good c.args.text.now c.in_ok-order.rest.now c.in_ok-order.order (search rules) (search rules) left right (search rules) c.headers.result (rw (at.bytes, at.line, at.due) at c.headers.ensures) c.in_ok-left.left c.in_ok-left.right (c.in_ok-left.was)
    _ _ (search rules) (search rules) c.unwrap_or.result c.unwrap_or-2.result c.unwrap_or.ensures c.unwrap_or-2.ensures
