use Rattle.std.proofs.Common.{take, length-take-le, arith}
use Rattle.text.proofs.AllSpelled.{not_spelled}
use Rattle.text.proofs.Labels.{label_found, labelled_more, labelled_length}
use Rattle.text.proofs.writing.Pen.put_labels.Goals as goal

pub returns-in_err-numbers : goal.returns-in_err-numbers
returns-in_err-numbers g c =
    let m = g.M.Machine.meaning c.args.machine.now in
    let spelled = g.O.Spelled.spelled c.args.order.now in
    let label = label_found spelled m.labels c.loop-s.s c.label.result c.in_ok-label.field-0 c.label.ensures c.in_ok-label.was in
    rw (not_spelled spelled m.labels c.loop-s.s c.in_ok-label.field-0 label c.in_err-numbers.ensures) c.from_residual-in_err-numbers.ensures

pub put_line-requires-clause-room : goal.put_line-requires-clause-room
put_line-requires-clause-room g c =
    let few = (g.M.Machine.bounded c.args.machine.now).few in
    let laws = g.met.O.Spelled.spelling c.args.order.now in
    let ls = (g.M.Machine.meaning c.args.machine.now).labels in
    let count = length-take-le c.loop-s.s ls (omega (arith, few)) in
    omega (arith, labelled_length _ _ laws (take c.loop-s.s ls) (omega (arith, few, count)) c.loop-s.invariant)

pub loop-s-preserved : goal.loop-s-preserved
loop-s-preserved g c =
    let m = g.M.Machine.meaning c.args.machine.now in
    let spelled = g.O.Spelled.spelled c.args.order.now in
    let label = label_found spelled m.labels c.loop-s.s c.label.result c.in_ok-label.field-0 c.label.ensures c.in_ok-label.was in
    labelled_more spelled m.labels c.loop-s.s c.in_ok-label.field-0 c.in_ok-numbers.numbers.items c.loop-s.invariant
    label c.in_ok-numbers.ensures (rw c.deref.ensures.0 at c.put_line.ensures)
