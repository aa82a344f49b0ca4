use Rattle.listed_readings.proofs.Causes.{cause_by_nodes}
use Rattle.listed_readings.proofs.causes_by_nodes.Goals as goal

pub returns : goal.returns
returns c = cause_by_nodes
