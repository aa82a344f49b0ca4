use Rattle.std.proofs.Common.{refl}
use Rattle.store.proofs.Trees.{fits, tree_built}
use Rattle.store.proofs.store.Store.rebuild.Goals as goal

pub build-requires : goal.build-requires
build-requires g c =
    let f = c.in_ok-check_flattening.ensures in
    ∣ (_, (f.0, record { flattens = f.1; room = fits c.args.self.now _ _ _ _ f c.explicit_nodes-need.ensures c.free.ensures c.if-free-need.false })) ∣₁

pub returns : goal.returns
returns g c =
    let f = c.in_ok-check_flattening.ensures in
    tree_built c.args.self.now _ _ _ _ _ _ f c.explicit_nodes-need.ensures c.free.ensures c.if-free-need.false refl (c.build.ensures _ f.0 f.1)
