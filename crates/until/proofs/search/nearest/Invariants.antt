use Rattle.std.proofs.Common.{◌<◌}
use Rattle.until.specs.Searches.{Marked}
use Rattle.until.specs.Explored.{visit, Chosen}
use Rattle.until.proofs.search.nearest.Given as goal

abbrev pub invariant-loop-u : goal.invariant-loop-u
invariant-loop-u l = Chosen (λ v. (v < l.u) × Marked l.goal v) (visit l.found) l.best
