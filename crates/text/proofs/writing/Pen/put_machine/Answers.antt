use Rattle.std.proofs.Common.{arith}
use Rattle.model.specs.Machines.{states}
use Rattle.text.proofs.Lengths.{header_length}
use Rattle.text.proofs.Labels.{labelled_all, labelled_length}
use Rattle.text.proofs.Machines.{machine_laid}
use Rattle.text.proofs.writing.Pen.put_machine.Goals as goal

pub put_labels-requires : goal.put_labels-requires
put_labels-requires g c =
    let m = g.M.Machine.meaning c.args.machine.now in
    let header = rw c.count.ensures at c.put_line.ensures in
    omega (arith, header.length, header_length (states m) (g.M.Machine.bounded c.args.machine.now).few)

pub put_steps-requires : goal.put_steps-requires
put_steps-requires g c =
    let m = g.M.Machine.meaning c.args.machine.now in
    let few = (g.M.Machine.bounded c.args.machine.now).few in
    let laws = g.met.O.Spelled.spelling c.args.order.now in
    let header = rw c.count.ensures at c.put_line.ensures in
    let labels = labelled_all (g.O.Spelled.spelled c.args.order.now) m.labels _ c.in_ok-put_labels.ensures in
    omega (arith, header.length, header_length (states m) few, labelled_length _ _ laws m.labels few labels)

pub returns : goal.returns
returns g c =
    let m = g.M.Machine.meaning c.args.machine.now in
    let spelled = g.O.Spelled.spelled c.args.order.now in
    let labels = labelled_all spelled m.labels _ c.in_ok-put_labels.ensures in
    machine_laid spelled m (rw c.count.ensures at c.put_line.ensures) labels c.put_steps.ensures
