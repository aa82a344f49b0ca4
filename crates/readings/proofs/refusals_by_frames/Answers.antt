use Rattle.readings.proofs.Laws as laws
use Rattle.readings.proofs.refusals_by_frames.Goals as goal

pub returns : goal.returns
returns c = (laws.frames_in_order, laws.first_not_live_by_frames, laws.live_by_frames)
