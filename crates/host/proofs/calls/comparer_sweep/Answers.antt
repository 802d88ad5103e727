use Rattle.std.proofs.Common.{Ok, refl, sym, ap, ◌∙◌, rules}
use Rattle.model.specs.Orders.{flags_at_most}
use Rattle.model.specs.Memory.{over}
use Rattle.sheet.specs.declared.request.Request.TheVariants.{Sweep}
use Rattle.sheet.specs.declared.request.Reply.TheVariants.{Swept}
use Rattle.sheet.specs.Verdicts.{setting}
use Rattle.sheet.specs.Calls.{Sweeps}
use Rattle.sheet.specs.Replies.{reply}
use Rattle.sheet.specs.Promises.{Promise}
use Rattle.host.specs.Bytes.{with_made, table}
use Rattle.host.proofs.Pages.{meaning_of, page_on}
use Rattle.host.proofs.Bounds.{sweep_small}
use Rattle.host.proofs.Hosting.{hosted}
use Rattle.host.proofs.Striking.{long_enough, made_later, struck}
use Rattle.host.proofs.calls.comparer_sweep.Goals as goal

pub write_made-requires-clause-few : goal.write_made-requires-clause-few
write_made-requires-clause-few c = (sweep_small c.new-machine.result (page_on c.sheet_in-now.result c.args.pairs.now c.args.strikes.now) (page_on c.sweep.new.self c.sweep.new.pairs c.sweep.new.strikes.bytes.now) c.args.s c.sweep.result c.in-Ok.struck c.in-Ok.is c.sweep.ensures.answer).0.made

pub number_bytes-requires : goal.number_bytes-requires
number_bytes-requires c = (sweep_small c.new-machine.result (page_on c.sheet_in-now.result c.args.pairs.now c.args.strikes.now) (page_on c.sweep.new.self c.sweep.new.pairs c.sweep.new.strikes.bytes.now) c.args.s c.sweep.result c.in-Ok.struck c.in-Ok.is c.sweep.ensures.answer).1

pub returns-in-Ok : goal.returns-in-Ok
returns-in-Ok c =
    let t = table c.args.count c.args.labels.now c.args.steps.now in
    let small = (sweep_small c.new-machine.result (page_on c.sheet_in-now.result c.args.pairs.now c.args.strikes.now) (page_on c.sweep.new.self c.sweep.new.pairs c.sweep.new.strikes.bytes.now) c.args.s c.sweep.result c.in-Ok.struck c.in-Ok.is c.sweep.ensures.answer).0 in
    let enough = sym c.lacks.ensures ∙ c.if-lacks.false in
    let long = long_enough t c.args.sheet.now c.args.answer.now 2 enough in
    let read = made_later c.args.sheet.now c.write_made.new.area c.sheet_in-now.result c.sweep.new.self c.sheet_in-now.ensures long small.made small.kept c.write_made.ensures in
    hosted (Ok c.in-Ok.struck) enough
    (struck (λ m p r after. Sweeps (setting flags_at_most m) p c.args.s r after) (λ m p r after. Promise (setting flags_at_most m) p (Sweep c.args.s) (reply Swept r) after) with_made
    t (meaning_of c.new-machine.result) c.args.sheet.now c.args.pairs.now c.args.strikes.now c.write_made.new.area c.sweep.new.pairs _ c.sweep.new.strikes.bytes.now c.sheet_in-now.result c.sweep.new.self c.sweep.result c.in-Ok.struck _ c.sweep.new.strikes.bytes.ghost_name
    c.new-machine.ensures c.sheet_in-now.ensures c.in-Ok.is read c.write_made.ensures (search rules) c.sweep.ensures.filled small.room c.sweep.ensures.answer c.sweep.ensures.promise)
    refl (c.lay.ensures ∙ ap (λ bytes. over bytes c.args.answer.now) c.number_bytes.ensures)
