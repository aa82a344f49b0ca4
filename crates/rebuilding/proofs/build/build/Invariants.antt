use Rattle.std.proofs.Common.{◌≡◌, length, take}
use Rattle.std.specs.Iterator.Adapters.{enumerate_count, enumerate_source, rev_source}
use Rattle.std.specs.Slice.Iter.{iter_rest}
use Rattle.model.specs.Host.{Errors}
use Rattle.trees.specs.Trees.{Tree}
use Rattle.frames.specs.Of.{frames_of}
use Rattle.nodes.specs.Begins.{Flattens}
use Rattle.rebuilding.proofs.Building.{Building}
use Rattle.rebuilding.proofs.build.build.Given as goal

-- the nodes that are left are the first ones of the list
abbrev pub invariant-loop-i : goal.invariant-loop-i
invariant-loop-i l = record {
  can : (goal.iterator-loop-i).can_next l.i-iterator × (goal.iterator-loop-i).is_finite l.i-iterator;
  numbered : enumerate_count (rev_source l.i-iterator) ≡ 0;
  front : iter_rest (enumerate_source (rev_source l.i-iterator)) ≡ take (length (iter_rest (enumerate_source (rev_source l.i-iterator)))) l.nodes;
  same_frames : l.row.frames.ghost_name ≡ l.initial.row.frames.ghost_name;
  built : (h : Errors) (t : Tree) → Flattens h l.nodes t
      → Building (frames_of l.initial.row.frames.now) (frames_of l.row.frames.now) l.nodes l.row.head l.end (length (iter_rest (enumerate_source (rev_source l.i-iterator)))) h t;
}
