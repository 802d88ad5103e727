use Rattle.std.proofs.Common.{◌≡◌, length, vec_len}
use Rattle.second.proofs.backward.leading.Given as goal

abbrev pub invariant-loop-place : goal.invariant-loop-place
invariant-loop-place g l = vec_len l.found ≡ length l.goal
