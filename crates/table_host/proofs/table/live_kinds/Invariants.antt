use Rattle.std.proofs.Common.{vec_items}
use Rattle.std.specs.Iterator.Adapters.{enumerate_count, enumerate_source, take_count, take_source}
use Rattle.std.specs.Slice.Iter.{iter_rest}
use Rattle.table_host.specs.TableLaws.{Pass}
use Rattle.table_host.proofs.table.live_kinds.Given as goal

abbrev pub invariant-loop-error : goal.invariant-loop-error
invariant-loop-error l =
    (goal.iterator-loop-error).can_next l.error-iterator × (goal.iterator-loop-error).is_finite l.error-iterator
    × Pass l.records l.size (vec_items l.kinds) (iter_rest (take_source (enumerate_source l.error-iterator))) (take_count (enumerate_source l.error-iterator)) (enumerate_count l.error-iterator)
