use Rattle.std.proofs.Common.{arith}
use Rattle.std.proofs.lemmas.Grind.{common_steps}
use Rattle.until.proofs.Reach.{meets_decides, exists_test}
use Rattle.until.proofs.search.walk_exists.Goals as goal

pub returns-clause-means : goal.returns-clause-means
returns-clause-means g c = meets_decides _ _ _ _ _ _ c.reached.ensures (grind (arith, common_steps))

pub returns-clause-test : goal.returns-clause-test
returns-clause-test g c =
    exists_test (g.M.Machine.bounded c.args.machine.now) c.args.row.now c.args.goal.now c.args.start _ (meets_decides _ _ _ _ _ _ c.reached.ensures (grind (arith, common_steps)))
