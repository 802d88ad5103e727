use Rattle.host.proofs.Runs.{host_runs_keep_the_law}
use Rattle.host.proofs.theory.host_runs_keep_the_law.Goals as goal

pub returns : goal.returns
returns c = host_runs_keep_the_law
