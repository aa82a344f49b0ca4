use Rattle.std.proofs.Common.{sym, ◌∙◌, arith}
use Rattle.prints.proofs.Errors.{put_none, put_some}
use Rattle.prints.proofs.chain.put_errors.Goals.{then-not-is_marker+in_ok-at, else-not-is_marker}
use Rattle.prints.proofs.chain.put_errors.Goals as goal

pub loop-node-preserved : goal.loop-node-preserved
loop-node-preserved g c =
    elim c.if-not-is_marker.branch [
      | then-not-is_marker+in_ok-at w ↦ rw (w.out-is, w.at-is, w.shown-is) (put_some _ _ _ _ _ _ _ _ c.loop-node.invariant (let t = c.loop-node-test.true in omega arith) _ _ _ _ (sym c.is_marker.ensures ∙ w.if-not-is_marker.true) w.put_separator-at.ensures w.in_ok-at.ensures.1)
      | else-not-is_marker w ↦ rw (w.out-is, w.at-is, w.shown-is) (put_none _ _ _ _ _ _ _ _ c.loop-node.invariant (let t = c.loop-node-test.true in omega arith) (sym c.is_marker.ensures ∙ w.if-not-is_marker.false))
    ]
