use Rattle.std.proofs.Common.{◌≡◌, ◌≤◌, List, length}
use Rattle.trees.specs.Trees.{Tree, Listing}
use Rattle.layout.specs.declared.frame.Frame.{Frame}
use Rattle.frames.specs.Of.{frames_of}
use Rattle.rebuilding.specs.Steps.{WithReport}
use Rattle.rebuilding.proofs.Adopt.{Adopting}
use Rattle.rebuilding.proofs.build.TreeRow.adopt.Given as goal

abbrev pub invariant-loop : goal.invariant-loop
invariant-loop l = record {
  same_frames : l.self.frames.ghost_name ≡ l.initial.self.frames.ghost_name;
  adopts : (before : List Frame) (row : Listing) (t : Tree) → WithReport before (frames_of l.initial.self.frames.now) l.initial.self.head row l.root t → l.count ≤ length row
      → Adopting before l.root t row (frames_of l.self.frames.now) l.self.head l.counter;
}
