use Rattle.std.proofs.Common.{List, drop, ◌++◌, sym, ap}
use Rattle.std.proofs.lemmas.List.{length-take-le}
use mathlib.Core.Logic.{∥∥₁_elim, ∥∥₁_map}
use native.Mathlib.Bridge.{le_prop}
use Rattle.nodes.specs.declared.node.Node.{Node}
use Rattle.traversal.proofs.Spreads.{part}
use Rattle.traversal.proofs.flatten.flatten.Goals as goal

pub slice_bounds-fill-end : goal.slice_bounds-fill-end
slice_bounds-fill-end g c = ∥∥₁_elim c.requires le_prop (λ b. b.1.fits)

pub slice_bounds-fill-end-2 : goal.slice_bounds-fill-end-2
slice_bounds-fill-end-2 g c = sym (length-take-le c.args.total c.args.list.now (∥∥₁_elim c.requires le_prop (λ b. b.1.fits)))

pub fill-requires : goal.fill-requires
fill-requires g c = ∥∥₁_map c.requires (λ b. (b.0, part _ _ _ _ b.0 b.1))

pub returns : goal.returns
returns g c = λ t b. ap (λ (z : List Node). z ++ drop c.args.total c.args.list.now) (c.fill.ensures t (part _ _ _ _ t b))
