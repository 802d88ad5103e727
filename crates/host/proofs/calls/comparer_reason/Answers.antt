use Rattle.std.proofs.Common.{Ok, refl, sym, ap, ◌∙◌}
use Rattle.model.specs.Machines.{states}
use Rattle.model.specs.Memory.{over}
use Rattle.sheet.specs.declared.request.Request.TheVariants.{Reason}
use Rattle.sheet.specs.declared.request.Reply.TheVariants.{ReasonIs}
use Rattle.sheet.specs.Pages.{page}
use Rattle.sheet.specs.Calls.{Reasons}
use Rattle.sheet.specs.Replies.{reply}
use Rattle.sheet.specs.Promises.{PromiseUnderAll}
use Rattle.host.specs.Bytes.{records_in}
use Rattle.host.proofs.Hosting.{hosted, carried}
use Rattle.host.proofs.calls.comparer_reason.Goals as goal

pub returns-in-Ok : goal.returns-in-Ok
returns-in-Ok c =
    hosted (Ok c.in-Ok.strike) (sym c.lacks.ensures ∙ c.if-lacks.false)
    (record {
      answer = carried (λ m sheet r. Reasons (states m) (page sheet c.args.pairs.now (records_in c.args.strikes.now)) c.args.s c.args.t r) c.new-machine.ensures c.sheet_in.ensures c.in-Ok.is c.reason.ensures.answer;
      promise = carried (λ m sheet r. PromiseUnderAll m (page sheet c.args.pairs.now (records_in c.args.strikes.now)) (Reason c.args.s c.args.t) (reply ReasonIs r)) c.new-machine.ensures c.sheet_in.ensures c.in-Ok.is c.reason.ensures.promise;
      leaves = tt;
    }) refl (c.lay.ensures ∙ ap (λ four. over four c.args.answer.now) c.record_bytes.ensures)
