use Rattle.std.proofs.Common.{List, length, ◌≤◌, Ok, refl, sym, ◌∙◌, subst, arith}
use Rattle.model.specs.Machines.{states, tabled}
use Rattle.model.specs.MachineLaws.{tabled_bounded}
use Rattle.strikes.specs.declared.strike.Strike.{Strike}
use Rattle.sheet.specs.declared.request.Request.TheVariants.{Answer}
use Rattle.sheet.specs.declared.request.Reply.TheVariants.{Walked}
use Rattle.sheet.specs.Pages.{page}
use Rattle.sheet.specs.Calls.{Answers}
use Rattle.sheet.specs.Replies.{reply}
use Rattle.sheet.specs.Promises.{PromiseUnderAll}
use Rattle.host.specs.Bytes.{labels_in}
use Rattle.host.proofs.Bounds.{walk_small}
use Rattle.host.proofs.Hosting.{hosted, carried}
use Rattle.host.proofs.calls.comparer_answer.Goals as goal

pub overflow_cast-places : goal.overflow_cast-places
overflow_cast-places c =
    let machine = c.new-machine.result in
    let m = tabled (labels_in machine.labels.now) machine.steps.now in
    let answers = subst (λ r. Answers m c.sheet_in.result c.args.pairs.now c.args.s c.args.t c.args.u c.args.walk.now r c.answer.new.walk) c.in-Ok.is c.answer.ensures.answer in
    omega (arith, walk_small m (tabled_bounded (labels_in machine.labels.now) machine.steps.now machine.few) c.sheet_in.result c.args.pairs.now c.args.s c.args.t c.args.u c.args.walk.now c.answer.new.walk c.in-Ok.places answers)

pub returns-in-Ok : goal.returns-in-Ok
returns-in-Ok c =
    hosted (Ok c.in-Ok.places) (sym c.lacks.ensures ∙ c.if-lacks.false)
    (record {
      answer = carried (λ m sheet r. Answers m sheet c.args.pairs.now c.args.s c.args.t c.args.u c.args.walk.now r c.answer.new.walk) c.new-machine.ensures c.sheet_in.ensures c.in-Ok.is c.answer.ensures.answer;
      promise = carried (λ m sheet r. states m ≤ length c.args.walk.now → (records : List Strike) → PromiseUnderAll m (page sheet c.args.pairs.now records) (Answer c.args.s c.args.t c.args.u) (reply (λ k. Walked k c.answer.new.walk) r)) c.new-machine.ensures c.sheet_in.ensures c.in-Ok.is (λ places records. c.answer.ensures.promise records places);
      leaves = tt;
    }) refl c.lay.ensures
