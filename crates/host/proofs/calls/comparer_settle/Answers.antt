use Rattle.std.proofs.Common.{set, Ok, refl, sym, ap, ◌∙◌, rules}
use Rattle.model.specs.Orders.{flags_at_most}
use Rattle.model.specs.Memory.{over}
use Rattle.sheet.specs.declared.request.Request.TheVariants.{Settle}
use Rattle.sheet.specs.declared.request.Reply.TheVariants.{Settled}
use Rattle.sheet.specs.Verdicts.{setting}
use Rattle.sheet.specs.Calls.{Settles}
use Rattle.sheet.specs.Replies.{reply}
use Rattle.sheet.specs.Promises.{Promise}
use Rattle.host.specs.Bytes.{with_made, table}
use Rattle.host.proofs.Pages.{meaning_of, page_on}
use Rattle.host.proofs.Bounds.{settle_small}
use Rattle.host.proofs.Hosting.{hosted}
use Rattle.host.proofs.Striking.{long_enough, settled_later, struck}
use Rattle.host.proofs.calls.comparer_settle.Goals as goal

pub write_made-requires-clause-few : goal.write_made-requires-clause-few
write_made-requires-clause-few c = (settle_small c.new-machine.result (page_on c.sheet_in-now.result c.args.pairs.now c.args.strikes.now) (page_on c.settle.new.self c.settle.new.pairs c.settle.new.strikes.bytes.now) c.settle.result (c.in-Ok.struck, c.in-Ok.passes) c.in-Ok.is c.settle.ensures.answer).0.made

pub settled_bytes-requires-clause-made : goal.settled_bytes-requires-clause-made
settled_bytes-requires-clause-made c = (settle_small c.new-machine.result (page_on c.sheet_in-now.result c.args.pairs.now c.args.strikes.now) (page_on c.settle.new.self c.settle.new.pairs c.settle.new.strikes.bytes.now) c.settle.result (c.in-Ok.struck, c.in-Ok.passes) c.in-Ok.is c.settle.ensures.answer).1

pub settled_bytes-requires-clause-passes : goal.settled_bytes-requires-clause-passes
settled_bytes-requires-clause-passes c = (settle_small c.new-machine.result (page_on c.sheet_in-now.result c.args.pairs.now c.args.strikes.now) (page_on c.settle.new.self c.settle.new.pairs c.settle.new.strikes.bytes.now) c.settle.result (c.in-Ok.struck, c.in-Ok.passes) c.in-Ok.is c.settle.ensures.answer).2

pub returns-in-Ok : goal.returns-in-Ok
returns-in-Ok c =
    let t = table c.args.count c.args.labels.now c.args.steps.now in
    let small = (settle_small c.new-machine.result (page_on c.sheet_in-now.result c.args.pairs.now c.args.strikes.now) (page_on c.settle.new.self c.settle.new.pairs c.settle.new.strikes.bytes.now) c.settle.result (c.in-Ok.struck, c.in-Ok.passes) c.in-Ok.is c.settle.ensures.answer).0 in
    let enough = sym c.lacks.ensures ∙ c.if-lacks.false in
    let long = long_enough t c.args.sheet.now c.args.answer.now 4 enough in
    let read = settled_later c.args.sheet.now (set c.write_made.new.area 1 1) c.sheet_in-now.result c.settle.new.self c.sheet_in-now.ensures long small.made small.kept (ap (λ bytes. set bytes 1 1) c.write_made.ensures) in
    hosted (Ok (c.in-Ok.struck, c.in-Ok.passes)) enough
    (struck (λ m p r after. Settles (setting flags_at_most m) p r after) (λ m p r after. Promise (setting flags_at_most m) p Settle (reply (λ a. Settled a.0 a.1) r) after) (λ k bytes. set (with_made k bytes) 1 1)
    t (meaning_of c.new-machine.result) c.args.sheet.now c.args.pairs.now c.args.strikes.now (set c.write_made.new.area 1 1) c.settle.new.pairs _ c.settle.new.strikes.bytes.now c.sheet_in-now.result c.settle.new.self c.settle.result (c.in-Ok.struck, c.in-Ok.passes) _ c.settle.new.strikes.bytes.ghost_name
    c.new-machine.ensures c.sheet_in-now.ensures c.in-Ok.is read (ap (λ bytes. set bytes 1 1) c.write_made.ensures) (search rules) c.settle.ensures.filled small.room c.settle.ensures.answer c.settle.ensures.promise)
    refl (c.lay.ensures ∙ ap (λ bytes. over bytes c.args.answer.now) c.settled_bytes.ensures)
