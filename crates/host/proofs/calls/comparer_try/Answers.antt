use Rattle.std.proofs.Common.{Ok, refl, sym, ap, ◌∙◌, rules}
use Rattle.model.specs.Orders.{flags_at_most}
use Rattle.model.specs.Memory.{over}
use Rattle.sheet.specs.declared.request.Request.TheVariants.{Try}
use Rattle.sheet.specs.declared.request.Reply.TheVariants.{Tried}
use Rattle.sheet.specs.Verdicts.{setting}
use Rattle.sheet.specs.Calls.{Tries}
use Rattle.sheet.specs.Replies.{reply}
use Rattle.sheet.specs.Promises.{Promise}
use Rattle.host.specs.Bytes.{with_made, table}
use Rattle.host.proofs.Pages.{meaning_of, page_on}
use Rattle.host.proofs.Bounds.{try_small}
use Rattle.host.proofs.Hosting.{hosted}
use Rattle.host.proofs.Striking.{long_enough, made_later, struck}
use Rattle.host.proofs.calls.comparer_try.Goals as goal

pub write_made-requires-clause-few : goal.write_made-requires-clause-few
write_made-requires-clause-few c = (try_small c.new-machine.result (page_on c.sheet_in-now.result c.args.pairs.now c.args.strikes.now) (page_on c.try_pair.new.self c.try_pair.new.pairs c.try_pair.new.strikes.bytes.now) c.args.s c.args.t c.try_pair.result c.in-Ok.verdict c.in-Ok.is c.try_pair.ensures.answer).made

pub returns-in-Ok : goal.returns-in-Ok
returns-in-Ok c =
    let t = table c.args.count c.args.labels.now c.args.steps.now in
    let small = try_small c.new-machine.result (page_on c.sheet_in-now.result c.args.pairs.now c.args.strikes.now) (page_on c.try_pair.new.self c.try_pair.new.pairs c.try_pair.new.strikes.bytes.now) c.args.s c.args.t c.try_pair.result c.in-Ok.verdict c.in-Ok.is c.try_pair.ensures.answer in
    let enough = sym c.lacks.ensures ∙ c.if-lacks.false in
    let long = long_enough t c.args.sheet.now c.args.answer.now 5 enough in
    let read = made_later c.args.sheet.now c.write_made.new.area c.sheet_in-now.result c.try_pair.new.self c.sheet_in-now.ensures long small.made small.kept c.write_made.ensures in
    hosted (Ok c.in-Ok.verdict) enough
    (struck (λ m p r after. Tries (setting flags_at_most m) p c.args.s c.args.t r after) (λ m p r after. Promise (setting flags_at_most m) p (Try c.args.s c.args.t) (reply Tried r) after) with_made
    t (meaning_of c.new-machine.result) c.args.sheet.now c.args.pairs.now c.args.strikes.now c.write_made.new.area c.try_pair.new.pairs _ c.try_pair.new.strikes.bytes.now c.sheet_in-now.result c.try_pair.new.self c.try_pair.result c.in-Ok.verdict _ c.try_pair.new.strikes.bytes.ghost_name
    c.new-machine.ensures c.sheet_in-now.ensures c.in-Ok.is read c.write_made.ensures (search rules) c.try_pair.ensures.filled small.room c.try_pair.ensures.answer c.try_pair.ensures.promise)
    refl (c.lay.ensures ∙ ap (λ bytes. over bytes c.args.answer.now) c.verdict_bytes.ensures)
