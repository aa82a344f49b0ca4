use Rattle.scripts.proofs.Whole.{output_once}
use Rattle.scripts.proofs.outputs.Goals as goal

pub returns : goal.returns
returns c = output_once
