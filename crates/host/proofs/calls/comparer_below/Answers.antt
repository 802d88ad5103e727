use Rattle.std.proofs.Common.{List, [], ◌∷◌, Ok, refl, sym, ap, ◌∙◌}
use Rattle.model.specs.Machines.{states}
use Rattle.model.specs.Memory.{over}
use Rattle.strikes.specs.declared.strike.Strike.{Strike}
use Rattle.sheet.specs.declared.request.Request.TheVariants.{Below}
use Rattle.sheet.specs.declared.request.Reply.TheVariants.{IsBelow}
use Rattle.sheet.specs.Pages.{page}
use Rattle.sheet.specs.Calls.{Belows}
use Rattle.sheet.specs.Replies.{reply}
use Rattle.sheet.specs.Promises.{PromiseUnderAll}
use Rattle.host.proofs.SheetBytes.{byte_of}
use Rattle.host.proofs.Hosting.{hosted, carried}
use Rattle.host.proofs.calls.comparer_below.Goals as goal

pub returns-in-Ok : goal.returns-in-Ok
returns-in-Ok c =
    hosted (Ok c.in-Ok.is_below) (sym c.lacks.ensures ∙ c.if-lacks.false)
    (record {
      answer = carried (λ m sheet r. Belows (states m) sheet c.args.pairs.now c.args.s c.args.t r) c.new-machine.ensures c.sheet_in.ensures c.in-Ok.is c.below.ensures.answer;
      promise = carried (λ m sheet r. (records : List Strike) → PromiseUnderAll m (page sheet c.args.pairs.now records) (Below c.args.s c.args.t) (reply IsBelow r)) c.new-machine.ensures c.sheet_in.ensures c.in-Ok.is c.below.ensures.promise;
      leaves = tt;
    }) refl (c.lay.ensures ∙ ap (λ b. over (b ∷ []) c.args.answer.now) (c.from-in-Ok.ensures ∙ byte_of c.in-Ok.is_below))
