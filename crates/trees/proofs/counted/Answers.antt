use Rattle.trees.proofs.Numbered as laws
use Rattle.trees.proofs.counted.Goals as goal

pub returns : goal.returns
returns c = laws.counted
