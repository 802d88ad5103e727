use Rattle.std.proofs.Common.{arith, rules}
use Rattle.std.proofs.lemmas.Grind.{rows}
use Rattle.until.proofs.Evaluating.{evaluating_more}
use Rattle.until.proofs.evaluation.evaluate.Goals as goal

pub fill_row-requires : goal.fill_row-requires
fill_row-requires g c = grind (arith, rows)

pub loop-k-preserved : goal.loop-k-preserved
loop-k-preserved g c = evaluating_more _ _ _ _ (search rules) (search rules) (search rules) (search rules) c.fill_row.ensures
