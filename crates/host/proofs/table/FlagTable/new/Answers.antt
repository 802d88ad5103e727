use Rattle.std.proofs.Common.{sym, ◌∙◌}
use Rattle.host.specs.Bytes.{table}
use Rattle.host.proofs.ByFour.{fit_labels}
use Rattle.host.proofs.table.FlagTable.new.Goals as goal

pub invariant_of-result-2 : goal.invariant_of-result-2
invariant_of-result-2 c =
    let fit = fit_labels (table c.args.count c.args.labels.now c.args.steps.now) (sym c.is_fit.ensures ∙ c.if-not-is_fit.false) in
    record { few = fit.0; square = fit.1 }
