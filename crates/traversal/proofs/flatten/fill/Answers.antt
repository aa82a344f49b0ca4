use Rattle.std.proofs.Common.{arith, length-set}
use mathlib.Core.Logic.{∥∥₁_elim, ∥∥₁_map}
use native.Mathlib.Bridge.{le_prop}
use Rattle.traversal.proofs.Spreads.{first_there, room, spread_none, spread_more, spread_all, waits, w, flat}
use Rattle.traversal.proofs.flatten.fill.Goals as goal

pub bounds-order-0 : goal.bounds-order-0
bounds-order-0 g c = ∥∥₁_elim c.requires le_prop (λ b.
    first_there (g.H.Host.errors c.args.host.now) _ (g.met.H.Host.lawful c.args.host.now) c.args.order.now c.args.list.now b.0 b.1)

pub bounds-list-0 : goal.bounds-list-0
bounds-list-0 g c = ∥∥₁_elim c.requires le_prop (λ b.
    room (g.H.Host.errors c.args.host.now) _ (g.met.H.Host.lawful c.args.host.now) c.args.order.now c.args.list.now b.0 b.1)

pub loop-i-init : goal.loop-i-init
loop-i-init g c = λ t b.
    spread_none (g.H.Host.errors c.args.host.now) _ (g.met.H.Host.lawful c.args.host.now) _ _ t (simp length-set at b) _ c.node.ensures

pub append_below-at-requires : goal.append_below-at-requires
append_below-at-requires g c =
    let h = g.H.Host.errors c.args.host.now in
    let law = g.met.H.Host.lawful c.args.host.now in
    record {
      inside = let k = c.loop-i.auto.list in let t = c.loop-i-test.true in omega arith;
      waits = ∥∥₁_map c.requires (λ b.
          let s = c.loop-i.invariant b.0 (simp length-set b.1) in
          (w h _ law _ _ _ _ _ _ s c.loop-i-test.true, waits h _ law _ _ _ _ _ _ s c.loop-i-test.true c.loop-i.auto.list));
    }

pub loop-i-preserved : goal.loop-i-preserved
loop-i-preserved g c = λ t b.
    let h = g.H.Host.errors c.args.host.now in
    let law = g.met.H.Host.lawful c.args.host.now in
    let s = c.loop-i.invariant t b in
    spread_more h _ law _ _ _ _ _ _ s c.loop-i-test.true _ _ (c.append_below-at.ensures _ (waits h _ law _ _ _ _ _ _ s c.loop-i-test.true c.loop-i.auto.list))

pub returns : goal.returns
returns g c = λ t b.
    let h = g.H.Host.errors c.args.host.now in
    let law = g.met.H.Host.lawful c.args.host.now in
    flat h _ law c.args.order.now _ t b _ _ (spread_all h _ law _ _ _ _ _ _ (c.loop-i.invariant t (simp length-set b)) c.loop-i-test.false)
