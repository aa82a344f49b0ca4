use Rattle.std.proofs.Common.{rules}
use Rattle.layout.specs.Layout.{blank}
use Rattle.layout.proofs.Empty.{EachFree, empty_sound, empty_means}
use Rattle.frames.proofs.store.Frames.new.Goals as goal
use Rattle.frames.proofs.store.Frames.new.Goals.{After-from_fn}

each : (c : After-from_fn) → EachFree c.from_fn.result
each c = λ i lt. let u = (c.from_fn.ensures.items.at i blank lt).2 in search rules

pub invariant_of-result : goal.invariant_of-result
invariant_of-result c = record { sound = empty_sound _ c.from_fn.ensures.items.long (each (goal.at.invariant_of-result c).After-from_fn) }

pub returns : goal.returns
returns c = empty_means _ c.from_fn.ensures.items.long (each (goal.at.returns c).After-from_fn)
