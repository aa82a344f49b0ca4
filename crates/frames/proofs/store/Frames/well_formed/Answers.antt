use Rattle.layout.proofs.Invariant.{well_formed}
use Rattle.layout.proofs.Roots.{roots_differ}
use Rattle.frames.proofs.store.Frames.well_formed.Goals as goal

pub returns : goal.returns
returns c = record { links = well_formed c.args.self.now.sound; roots = roots_differ c.args.self.now.sound }
