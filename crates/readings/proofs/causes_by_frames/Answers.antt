use Rattle.readings.proofs.Laws as laws
use Rattle.readings.proofs.causes_by_frames.Goals as goal

pub returns : goal.returns
returns c = (laws.cause-from_back, laws.cause_at_root)
