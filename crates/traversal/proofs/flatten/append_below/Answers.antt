use Rattle.std.proofs.Common.{◌-◌, ◌+◌, ◌≤◌, length, rules}
use mathlib.Core.Logic.{∥∥₁_elim, ∥∥₁_map}
use native.Mathlib.Bridge.{le_prop}
use Rattle.traversal.proofs.Grows.{source_room, past_few, shown_few, beneath, next_part, beneath_room, shown_fits, in_turn, grown}
use Rattle.traversal.proofs.flatten.append_below.Goals as goal

pub append_source-start-requires-clause-room : goal.append_source-start-requires-clause-room
append_source-start-requires-clause-room g c = ∥∥₁_elim c.requires.waits le_prop (λ w. source_room _ _ _ _ _ w.0 w.1)

pub slice_bounds-rest-count : goal.slice_bounds-rest-count
slice_bounds-rest-count g c = ∥∥₁_elim c.requires.waits le_prop (λ w. shown_few _ c.args.order.now _ _ _ w.0 w.1)

pub offset_bounds-order-at : goal.offset_bounds-order-at
offset_bounds-order-at g c = let h : c.args.at.shown ≤ length c.args.order.now = ∥∥₁_elim c.requires.waits le_prop (λ w. shown_few _ c.args.order.now _ _ _ w.0 w.1) in search rules

pub slice_bounds-rest-start : goal.slice_bounds-rest-start
slice_bounds-rest-start g c = let h : c.args.at.shown ≤ length c.args.order.now = ∥∥₁_elim c.requires.waits le_prop (λ w. shown_few _ c.args.order.now _ _ _ w.0 w.1) in search rules

pub overflow_add-result : goal.overflow_add-result
overflow_add-result g c = let h : c.args.at.past ≤ length c.args.order.now = ∥∥₁_elim c.requires.waits le_prop (λ w. past_few _ c.args.order.now _ _ _ w.0 w.1) in search rules

pub append_frames-stop-requires : goal.append_frames-stop-requires
append_frames-stop-requires g c = ∥∥₁_map c.requires.waits (λ w. (
  beneath _ c.args.order.now _ _ _ w.0 w.1 c.if-native.false,
  next_part _ c.args.order.now _ _ _ w.0 w.1 c.if-native.false,
  beneath_room _ c.args.order.now _ _ _ w.0 w.1 c.if-native.false _ _ c.append_source-start.ensures c.append_source-start.auto.list,
))

pub overflow_sub-result : goal.overflow_sub-result
overflow_sub-result g c = ∥∥₁_elim c.requires.waits le_prop (λ w.
    in_turn _ c.args.order.now _ _ _ w.0 w.1 c.if-native.false _ _ c.append_source-start.ensures _ _
    (c.append_frames-stop.ensures _ (next_part _ c.args.order.now _ _ _ w.0 w.1 c.if-native.false) (beneath_room _ c.args.order.now _ _ _ w.0 w.1 c.if-native.false _ _ c.append_source-start.ensures c.append_source-start.auto.list)))

pub overflow_add-result-2 : goal.overflow_add-result-2
overflow_add-result-2 g c =
    let h : c.args.at.shown + (c.append_frames-stop.result - c.append_source-start.result) ≤ length c.args.order.now = ∥∥₁_elim c.requires.waits le_prop (λ w.
    shown_fits _ c.args.order.now _ _ _ w.0 w.1 c.if-native.false _ _ c.append_source-start.ensures _ _
    (c.append_frames-stop.ensures _ (next_part _ c.args.order.now _ _ _ w.0 w.1 c.if-native.false) (beneath_room _ c.args.order.now _ _ _ w.0 w.1 c.if-native.false _ _ c.append_source-start.ensures c.append_source-start.auto.list))) in
    search rules

pub returns : goal.returns
returns g c = λ w s.
    grown _ c.args.order.now _ _ _ w s c.if-native.false _ _ c.append_source-start.ensures _ _
    (c.append_frames-stop.ensures _ (next_part _ c.args.order.now _ _ _ w s c.if-native.false) (beneath_room _ c.args.order.now _ _ _ w s c.if-native.false _ _ c.append_source-start.ensures c.append_source-start.auto.list))
