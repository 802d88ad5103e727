use Rattle.std.proofs.Common.{rules, arith, subst}
use Rattle.std.proofs.lemmas.Result.{IfOk-at_ok}
use Rattle.sheet.specs.Verdicts.{setting, size}
use Rattle.sheet.specs.Pages.{page}
use Rattle.sheet.specs.Calls.{Begins, Settles}
use Rattle.sheet.specs.Promises.{CameUnderAll}
use Rattle.report.specs.Settled.{IsSettled}
use Rattle.report.proofs.Settles.{settles}
use Rattle.report.proofs.settled.settle.Goals as goal

pub returns : goal.returns
returns g c =
    let on = setting (g.O.Order.relation c.args.on.now.order.now) (g.M.Machine.meaning c.args.on.now.machine.now) in
    let before = page c.unwrap-sheet.result c.begin.new.pairs c.args.strikes.now in
    let after = page c.settle.new.self c.settle.new.pairs c.settle.new.strikes.items.now in
    let b = subst (λ r. Begins (size on) c.args.pairs.now c.args.strikes.now r c.begin.new.pairs) c.unwrap-sheet.ensures c.begin.ensures.answer in
    let came = IfOk-at_ok (λ sheet. CameUnderAll on.machine (page sheet c.begin.new.pairs c.args.strikes.now)) c.unwrap-sheet.ensures c.begin.ensures.came on.at_most in
    let s = subst (λ r. Settles on before r after) c.unwrap.ensures c.settle.ensures.answer in
    let all : IsSettled on after = settles on c.args.pairs.now c.begin.new.pairs c.args.strikes.now c.unwrap-sheet.result (omega (arith, c.requires.pairs)) c.requires.strikes b came c.unwrap.result _ after s c.settle.ensures.promise in
    search (rules, all)
