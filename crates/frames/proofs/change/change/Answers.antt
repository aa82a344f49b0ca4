use Rattle.std.proofs.Common.{slice_set, refl, ap}
use Rattle.frames.proofs.change.change.Goals as goal

pub returns-in-Some : goal.returns-in-Some
returns-in-Some g c = λ make makes. rw c.in-Some.is (ap (slice_set c.args.frames.now c.in-Some.i) (makes _ _ (record { shown = _; shows = refl; left = _; met = c.f.ensures; leaves = refl })))
