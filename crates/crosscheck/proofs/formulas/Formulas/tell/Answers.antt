use Rattle.std.proofs.Common.{rules}
use Rattle.crosscheck.proofs.Joining.{added_as}
use Rattle.crosscheck.proofs.Telling.{told_as, tells_label, tells_no_label, tells_step}
use Rattle.crosscheck.proofs.formulas.Formulas.tell.Goals as goal
use Rattle.crosscheck.proofs.formulas.Formulas.tell.Goals.{in-ByLabel+in-Some, in-ByLabel+in-None, in-ByStep+in_ok-first-in-ByStep+in_ok-last-in-ByStep}

pub returns : goal.returns
returns g c strikes f =
    let m = g.M.Machine.meaning c.args.machine.now in
    let ls = c.args.self.now.lines.items in
    let ts = c.args.self.now.told.items in
    let k = c.args.strike in
    let n = c.in_ok-number.number in
    let after = c.add.new.lines.items in
    elim c.match-strike.branch [
      | in-ByLabel+in-Some w ↦
          let added = added_as (λ i. (w.self-is i).lines.items) w.line-is c.in_ok-number.ensures in
          told_as m (k, n) c.in_ok-push.ensures.items (λ i. (w.self-is i).told.items) (tells_label m strikes ls ts f after n k w.in-Some.label w.in-ByLabel.is (search rules) added)
      | in-ByLabel+in-None w ↦
          let added = added_as (λ i. (w.self-is i).lines.items) w.line-is c.in_ok-number.ensures in
          told_as m (k, n) c.in_ok-push.ensures.items (λ i. (w.self-is i).told.items) (tells_no_label m strikes ls ts f after n k w.in-ByLabel.is (search rules) added)
      | in-ByStep+in_ok-first-in-ByStep+in_ok-last-in-ByStep w ↦
          let added = added_as (λ i. (w.self-is i).lines.items) w.line-is c.in_ok-number.ensures in
          let step = tells_step m strikes ls ts f w.join.new.lines.items w.join-in-ByStep.new.lines.items after w.in_ok-first-in-ByStep.first w.in_ok-last-in-ByStep.last n k w.in-ByStep.u in
          told_as m (k, n) c.in_ok-push.ensures.items (λ i. (w.self-is i).told.items) (step w.in-ByStep.is (search rules) (search rules) added)
    ]
