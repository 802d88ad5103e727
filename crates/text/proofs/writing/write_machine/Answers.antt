use Rattle.std.proofs.Common.{◌≡◌, true, Some, sym, ◌∙◌, arith}
use Rattle.std.proofs.lemmas.Grind.{common_steps}
use Rattle.model.specs.Machines.{states, is_sized}
use Rattle.text.specs.Writings.{all_spelled}
use Rattle.text.proofs.Written.{text_length, not_written, written_whole}
use Rattle.text.proofs.writing.write_machine.Goals as goal

pub returns-then-out-size : goal.returns-then-out-size
returns-then-out-size g c =
    let m = g.M.Machine.meaning c.args.machine.now in
    let spelled = g.O.Spelled.spelled c.args.order.now in
    let sized : text_length spelled m (all_spelled spelled m.labels) ≡ Some c.in_ok-size.size = sym c.lay_machine.ensures.answer ∙ c.in_ok-size.ensures.ok_part in
    let counted : is_sized (states m) ≡ true = grind (arith, common_steps) in
    not_written spelled m c.args.out.now c.in_ok-size.size sized counted c.if-out-size.true

pub returns : goal.returns
returns g c =
    let m = g.M.Machine.meaning c.args.machine.now in
    let spelled = g.O.Spelled.spelled c.args.order.now in
    let sized : text_length spelled m (all_spelled spelled m.labels) ≡ Some c.in_ok-size.size = sym c.lay_machine.ensures.answer ∙ c.in_ok-size.ensures.ok_part in
    let counted : is_sized (states m) ≡ true = grind (arith, common_steps) in
    written_whole spelled m c.args.out.now c.lay_machine-2.new.out c.in_ok-size.size sized counted c.if-out-size.false c.lay_machine-2.ensures.memory
