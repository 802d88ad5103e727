use Rattle.std.proofs.Common.{List, Ok, refl, sym, ◌∙◌, subst, arith}
use Rattle.model.specs.Machines.{states, tabled}
use Rattle.strikes.specs.declared.strike.Strike.{Strike}
use Rattle.sheet.specs.declared.request.Request.TheVariants.{Class}
use Rattle.sheet.specs.declared.request.Reply.TheVariants.{ClassIs}
use Rattle.sheet.specs.Pages.{page}
use Rattle.sheet.specs.Calls.{Classes}
use Rattle.sheet.specs.Replies.{reply}
use Rattle.sheet.specs.Promises.{PromiseUnderAll}
use Rattle.host.specs.Bytes.{labels_in}
use Rattle.host.proofs.Bounds.{class_small}
use Rattle.host.proofs.Hosting.{hosted, carried}
use Rattle.host.proofs.calls.comparer_class.Goals as goal

pub overflow_cast-class : goal.overflow_cast-class
overflow_cast-class c =
    let n = states (tabled (labels_in c.new-machine.result.labels.now) c.new-machine.result.steps.now) in
    omega (arith, class_small n c.sheet_in.result c.args.pairs.now c.args.s c.in-Ok.class c.new-machine.result.few (subst (λ r. Classes n c.sheet_in.result c.args.pairs.now c.args.s r) c.in-Ok.is c.class.ensures.answer))

pub returns-in-Ok : goal.returns-in-Ok
returns-in-Ok c =
    hosted (Ok c.in-Ok.class) (sym c.lacks.ensures ∙ c.if-lacks.false)
    (record {
      answer = carried (λ m sheet r. Classes (states m) sheet c.args.pairs.now c.args.s r) c.new-machine.ensures c.sheet_in.ensures c.in-Ok.is c.class.ensures.answer;
      promise = carried (λ m sheet r. (records : List Strike) → PromiseUnderAll m (page sheet c.args.pairs.now records) (Class c.args.s) (reply ClassIs r)) c.new-machine.ensures c.sheet_in.ensures c.in-Ok.is c.class.ensures.promise;
      leaves = tt;
    }) refl c.lay.ensures
