use Rattle.std.proofs.Common.{◌≡◌, false, arith, rules}
use Rattle.std.specs.Vec.{with_items}
use Rattle.std.proofs.lemmas.Grind.{common_steps}
use Rattle.std.proofs.lemmas.List.{with_items_is}
use Rattle.text.specs.Readings.{side_memory, is_short}
use Rattle.report.specs.declared.places.Places.{Places}
use Rattle.report.proofs.QuestionsRead.{line_fits, machine_read, machine_line}
use Rattle.report.proofs.holding.read_states.Goals as goal

pub moved_answer-requires : goal.moved_answer-requires
moved_answer-requires c =
    let memory = side_memory c.deref_mut.result.now c.deref_mut-2.result.now in
    let after = side_memory c.read_machine-answer.new.labels c.read_machine-answer.new.steps in
    let long : is_short memory ≡ false = grind (arith, common_steps) in
    line_fits 1 (omega arith) c.read_machine-answer.result (machine_line c.args.order.now c.args.text.now c.requires.short memory long c.read_machine-answer.result after c.read_machine-answer.ensures)

pub returns-clause-reads : goal.returns-clause-reads
returns-clause-reads c =
    let memory = side_memory c.deref_mut.result.now c.deref_mut-2.result.now in
    let after = side_memory c.read_machine-answer.new.labels c.read_machine-answer.new.steps in
    let long : is_short memory ≡ false = grind (arith, common_steps) in
    let before = c.args.places.now in
    let places : Places = record { labels = with_items before.labels after.labels; steps = with_items before.steps after.steps } in
    let all =
    machine_read c.args.order.now c.args.text.now c.requires.short memory long c.read_machine-answer.result after c.read_machine-answer.ensures places
    (with_items_is before.labels after.labels (grind (arith, common_steps))) (with_items_is before.steps after.steps (grind (arith, common_steps))) in
    search (rules, all)
