use Rattle.script_runs.proofs.Once.{once}
use Rattle.script_runs.proofs.answers.Goals as goal

pub returns : goal.returns
returns c = once
