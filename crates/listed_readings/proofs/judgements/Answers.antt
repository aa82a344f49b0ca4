use Rattle.listed_readings.proofs.Judging.{judged_by_frames, retries_as_verdict, frame_errors_of_nodes}
use Rattle.listed_readings.proofs.judgements.Goals as goal

pub returns : goal.returns
returns c = (judged_by_frames, retries_as_verdict, frame_errors_of_nodes)
