use Rattle.std.proofs.Common.{◌≡◌, ◌∙◌, get_or, ap, arith}
use Rattle.text.specs.Lines.{sort_of, depth_after}
use Rattle.text.proofs.FormulaDepths.{one_deeper, deepest_step}
use Rattle.text.proofs.form.deepest.Goals as goal

pub loop-byte-preserved : goal.loop-byte-preserved
loop-byte-preserved c =
    let at = c.loop-byte in
    let sort = sort_of (get_or c.args.line.now at.byte-index 0) in
    let e : c.depth_after-depth.result ≡ depth_after sort at.depth = c.depth_after-depth.ensures ∙ ap (λ s. depth_after s at.depth) c.of.ensures in
    let more = one_deeper sort at.depth in
    record {
      slow = omega (arith, at.invariant.slow);
      within = omega arith;
      ahead = rw (c.max-deepest.ensures, e) (deepest_step c.args.line.now at.byte-index at.depth at.deepest c.loop-byte-test.true at.invariant.within ∙ at.invariant.ahead);
    }
