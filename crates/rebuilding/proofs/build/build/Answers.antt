use mathlib.Core.Bool.{Bool-set}
use mathlib.Core.HLevel.{×_prop}
use mathlib.Core.Logic.{∥∥₁_elim, ∥∥₁_map}
use Rattle.std.proofs.Common.{◌≡◌, ℕ, suc, ◌+◌, ◌<◌, List, length, take, drop, Option, None, refl, sym, ap, ◌∙◌, subst, arith, rules}
use native.Mathlib.Bridge.{le_prop}
use Rattle.std.specs.Iterator.Adapters.{enumerate_source, rev_source}
use Rattle.std.specs.List.{push}
use Rattle.std.specs.Slice.Iter.{iter_rest}
use Rattle.std.proofs.lemmas.List.{length-take, length_push, take_all, same_from_push, take_more}
use Rattle.layout.specs.declared.frame.Frame.{Frame}
use Rattle.frames.specs.Of.{frames_of}
use Rattle.model.specs.Host.{Errors}
use Rattle.trees.specs.Trees.{Tree, leaf}
use Rattle.nodes.specs.declared.node.Node.{Node}
use Rattle.nodes.specs.Check.{blank, node_at}
use Rattle.rebuilding.specs.Steps.{adopting, Added, Built}
use Rattle.rebuilding.proofs.Building.{Building, fits_room, building_none, sought, enough, room, building_source, building_frame, head_there, root_row, built}
use Rattle.rebuilding.proofs.build.build.Goals as goal

-- what a turn takes from the back of the nodes that are left
record Back (nodes before rest : List Node) (i : ℕ) (x : Node) : Type 0 where
  index : i ≡ length rest
  within : i < length nodes
  front : rest ≡ take (length rest) nodes
  node : x ≡ node_at nodes i
  was : length before ≡ suc i

back : (nodes before rest : List Node) (count i : ℕ) (x : Node) → before ≡ take (length before) nodes → count ≡ 0 → before ≡ push rest x → i ≡ count + length rest → Back nodes before rest i x
back nodes before rest count i x front zero pushed numbered =
    let longer : length before ≡ length rest + 1 = ap (λ (xs : List Node). length xs) pushed ∙ length_push rest x in
    let least = ap (λ (xs : List Node). length xs) front ∙ length-take (length before) nodes in
    let within : length rest < length nodes = omega arith in
    let index : i ≡ length rest = omega arith in
    let parts = same_from_push rest (take (length rest) nodes) x (node_at nodes (length rest))
    (sym pushed ∙ front ∙ ap (λ (k : ℕ). take k nodes) longer ∙ take_more nodes (length rest) blank within) in
    record { index = index; within = omega arith; front = parts.0; node = parts.1 ∙ ap (node_at nodes) (sym index); was = omega arith }

-- the state before a turn, after one, and when none is left
module _ (start fs : List Frame) (nodes : List Node) (head : Option ℕ) (end : ℕ) (h : Errors) (t : Tree) where
  stands : {before rest : List Node} {i : ℕ} {x : Node} → Back nodes before rest i x → Building start fs nodes head end (length before) h t → Building start fs nodes head end (suc i) h t
  stands k b = subst (λ (n : ℕ). Building start fs nodes head end n h t) k.was b

  then_stands : {before rest : List Node} {i : ℕ} {x : Node} → Back nodes before rest i x → Building start fs nodes head end i h t → Building start fs nodes head end (length rest) h t
  then_stands k b = subst (λ (n : ℕ). Building start fs nodes head end n h t) k.index b

  ends : (left : ℕ) → left ≡ 0 → Building start fs nodes head end left h t → Building start fs nodes head end 0 h t
  ends left none b = subst (λ (n : ℕ). Building start fs nodes head end n h t) none b

pub loop-i-init : goal.loop-i-init
loop-i-init c =
    let nodes = c.args.nodes.now in
    let whole : iter_rest (enumerate_source (rev_source c.into_iter-i-iterator.result)) ≡ nodes = cc in
    let long = ap (λ (xs : List Node). length xs) whole in
    record {
      can = search rules;
      numbered = cc;
      front = whole ∙ sym (take_all (length (iter_rest (enumerate_source (rev_source c.into_iter-i-iterator.result)))) nodes (omega arith));
      same_frames = refl;
      built = λ h t flat.
          subst (λ (n : ℕ). Building (frames_of c.args.frames.now) (frames_of c.args.frames.now) nodes None (length nodes) n h t) (sym long) (building_none h _ t flat _);
    }

pub children_of-children-requires : goal.children_of-children-requires
children_of-children-requires c =
    let s = c.in-Some.ensures.steps in
    let v = c.loop-i.invariant in
    let k = back _ _ _ _ _ _ v.front v.numbered s.1.0 s.1.1 in
    ∥∥₁_elim c.requires (×_prop le_prop le_prop) (λ w.
    let b = stands _ _ _ _ _ _ _ k (v.built w.0 w.1.0 w.1.1.flattens) in
    sought w.0 _ w.1.0 w.1.1.flattens _ k.within _ b.ends)

pub add_frame-requires : goal.add_frame-requires
add_frame-requires c =
    let s = c.in-Some.ensures.steps in
    let v = c.loop-i.invariant in
    let k = back _ _ _ _ _ _ v.front v.numbered s.1.0 s.1.1 in
    let frame = ap (λ (x : Node). x.native) (sym k.node) ∙ c.if-not-node.true in
    record {
      room = ∥∥₁_elim c.requires le_prop (λ w.
          let b = stands _ _ _ _ _ _ _ k (v.built w.0 w.1.0 w.1.1.flattens) in
          room w.0 _ w.1.0 w.1.1.flattens _ k.within _ b.ends _ c.children_of-children.ensures _ _ _ b frame (fits_room _ _ _ _ w.1.1));
      held = ∥∥₁_map c.requires (λ w.
          let b = stands _ _ _ _ _ _ _ k (v.built w.0 w.1.0 w.1.1.flattens) in
          (_, (b.row, (b.held, enough w.0 _ w.1.0 w.1.1.flattens _ k.within _ b.ends _ c.children_of-children.ensures _ _ _ b))));
    }

pub loop-i-preserved-then-not-node : goal.loop-i-preserved-then-not-node
loop-i-preserved-then-not-node c =
    let s = c.in-Some.ensures.steps in
    let v = c.loop-i.invariant in
    let k = back _ _ _ _ _ _ v.front v.numbered s.1.0 s.1.1 in
    let frame = ap (λ (x : Node). x.native) (sym k.node) ∙ c.if-not-node.true in
    record {
      can = search rules;
      numbered = s.0 ∙ v.numbered;
      front = k.front;
      same_frames = c.add_frame.ensures.same_frames ∙ v.same_frames;
      built = λ h t flat.
          let b = stands _ _ _ _ _ _ _ k (v.built h t flat) in
          let more = enough h _ t flat _ k.within _ b.ends _ c.children_of-children.ensures _ _ _ b in
          then_stands _ _ _ _ _ _ _ k
          (building_frame h _ t flat _ k.within _ b.ends _ c.children_of-children.ensures _ _ _ b frame _ _
          (subst (λ (x : Node). Added (frames_of c.args.frames.now) (frames_of c.add_frame.new.self.frames.now) (drop c.children_of-children.result.frames b.row) (adopting (leaf x.error x.place) (take c.children_of-children.result.frames b.row)) c.add_frame.new.self.head)
          k.node (c.add_frame.ensures.adds _ b.row b.held more)));
    }

pub loop-i-preserved : goal.loop-i-preserved
loop-i-preserved c =
    let s = c.in-Some.ensures.steps in
    let v = c.loop-i.invariant in
    let k = back _ _ _ _ _ _ v.front v.numbered s.1.0 s.1.1 in
    record {
      can = search rules;
      numbered = s.0 ∙ v.numbered;
      front = k.front;
      same_frames = v.same_frames;
      built = λ h t flat.
          let b = stands _ _ _ _ _ _ _ k (v.built h t flat) in
          then_stands _ _ _ _ _ _ _ k
          (building_source h _ t flat _ k.within _ b.ends _ c.children_of-children.ensures _ _ _ b (ap (λ (x : Node). x.native) (sym k.node) ∙ c.if-not-node.false));
    }

pub unwrap-root-requires : goal.unwrap-root-requires
unwrap-root-requires c =
    let s = c.in-None.ensures.steps in
    ∥∥₁_elim c.requires (Bool-set _ _) (λ w.
    head_there w.0 _ w.1.0 w.1.1.flattens _ _ _ _ (ends _ _ _ _ _ _ _ _ s.1.0 (c.loop-i.invariant.built w.0 w.1.0 w.1.1.flattens)))

pub pop-requires : goal.pop-requires
pop-requires c =
    let s = c.in-None.ensures.steps in
    ∥∥₁_elim c.requires (Bool-set _ _) (λ w.
    root_row w.0 _ w.1.0 w.1.1.flattens _ _ _ _ (ends _ _ _ _ _ _ _ _ s.1.0 (c.loop-i.invariant.built w.0 w.1.0 w.1.1.flattens)) _ c.unwrap-root.ensures)

pub returns : goal.returns
returns c = λ h t flat.
    let s = c.in-None.ensures.steps in
    subst (λ (fs : List Frame). Built (frames_of c.args.frames.now) fs c.unwrap-root.result t) (search rules)
    (built h _ t flat _ _ _ _ (ends _ _ _ _ _ _ _ _ s.1.0 (c.loop-i.invariant.built h t flat)) _ c.unwrap-root.ensures _ c.pop.ensures.means)
