use Rattle.std.proofs.Common.{◌≡◌, Ok, refl, sym, ap, subst, ◌∙◌, arith}
use Rattle.std.proofs.lemmas.Result.{IfOk-at_ok}
use Rattle.model.specs.Machines.{states, tabled}
use Rattle.model.specs.Refusals.{cause}
use Rattle.model.proofs.Checks.{answered_at}
use Rattle.model.specs.Memory.{over}
use Rattle.sheet.specs.declared.sheet.Sheet.{Sheet}
use Rattle.sheet.specs.Pages.{page}
use Rattle.sheet.specs.Causes.{begin_tests}
use Rattle.sheet.specs.Calls.{Begins}
use Rattle.sheet.specs.Promises.{CameUnderAll}
use Rattle.host.specs.Bytes.{labels_in, records_in, sheet_in, table, machine_in}
use Rattle.host.proofs.SheetBytes.{sheet_read}
use Rattle.host.proofs.Hosting.{hosted}
use Rattle.host.proofs.calls.comparer_begin.Goals as goal

pub returns-in-Ok : goal.returns-in-Ok
returns-in-Ok c =
    let machine = c.new-machine.result in
    let m = tabled (labels_in machine.labels.now) machine.steps.now in
    let records = records_in c.args.strikes.now in
    let begins = subst (λ r. Begins (states m) c.args.pairs.now records r c.begin.new.pairs) c.in-Ok.is c.begin.ensures.answer in
    let bare : c.in-Ok.begun.strikes ≡ 0 = ap (λ (x : Sheet). x.strikes) (answered_at (cause (begin_tests (states m) c.args.pairs.now records)) c.in-Ok.begun begins).0.0 in
    let written = c.lay.ensures ∙ ap (λ bytes. over bytes c.args.sheet.now) c.sheet_bytes.ensures in
    let read = ap sheet_in written ∙ sheet_read c.in-Ok.begun c.args.sheet.now (omega (arith, bare)) in
    let same = ap (λ x. page x c.begin.new.pairs records) read in
    let came = IfOk-at_ok (λ sheet. CameUnderAll m (page sheet c.begin.new.pairs records)) c.in-Ok.is c.begin.ensures.came in
    hosted (Ok c.in-Ok.begun) (sym c.lacks_at_begin.ensures ∙ c.if-lacks_at_begin.false)
    (record {
      answer = subst (λ m. Begins (states m) c.args.pairs.now records (Ok c.in-Ok.begun) c.begin.new.pairs) c.new-machine.ensures begins;
      promise = (same, subst (λ p. CameUnderAll (machine_in (table c.args.count c.args.labels.now c.args.steps.now)) p) (sym same) (subst (λ m. CameUnderAll m (page c.in-Ok.begun c.begin.new.pairs records)) c.new-machine.ensures came));
      leaves = refl;
    }) refl written
