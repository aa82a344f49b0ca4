use Rattle.readings.proofs.Laws as laws
use Rattle.readings.proofs.verdicts_by_frames.Goals as goal

pub returns : goal.returns
returns c = ((laws.class_over_frames, laws.any-over_frames), (laws.class_by_frames, laws.any_by_frames, laws.verdict_by_frames))
