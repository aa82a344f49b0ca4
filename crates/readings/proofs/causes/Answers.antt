use Rattle.readings.proofs.Laws as laws
use Rattle.readings.proofs.causes.Goals as goal

pub returns : goal.returns
returns c = (laws.cause_stands, laws.cause_once)
