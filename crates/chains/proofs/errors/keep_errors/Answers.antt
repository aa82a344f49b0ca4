use Rattle.std.proofs.Common.{sym, ◌∙◌, arith}
use Rattle.chains.proofs.Keeping.{kept_marker, kept_error}
use Rattle.chains.proofs.errors.keep_errors.Goals.{then-not-is_marker, else-not-is_marker}
use Rattle.chains.proofs.errors.keep_errors.Goals as goal

pub loop-i-preserved : goal.loop-i-preserved
loop-i-preserved g c =
    elim c.if-not-is_marker.branch [
      | then-not-is_marker w ↦ rw (w.list-is, w.found-is) (kept_error _ _ _ _ _ c.loop-i.invariant (let t = c.loop-i-test.true in omega arith) _ w.error_node.ensures (sym c.is_marker.ensures ∙ w.if-not-is_marker.true))
      | else-not-is_marker w ↦ rw (w.list-is, w.found-is) (kept_marker _ _ _ _ _ c.loop-i.invariant (let t = c.loop-i-test.true in omega arith) (sym c.is_marker.ensures ∙ w.if-not-is_marker.false))
    ]
