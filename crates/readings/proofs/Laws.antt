-- The laws of a report's readings.
use Rattle.std.proofs.Common.{Bool, false, not, ◌&&◌, ◌||◌, Some, None, sym, ap, ◌∙◌, ap₂, inl, inr}
use Rattle.std.proofs.lemmas.Simd.{map-map}
use Rattle.classes.specs.Class.{lesser}
use Rattle.vocabulary.specs.declared.frame_error.FrameError.{FrameError}
use Rattle.vocabulary.specs.declared.policy.Pair.{Pair}
use Rattle.model.specs.Judge.{least_class, any_pair, has_rank}
use Rattle.model.proofs.Judge.{cancelled_least}
use Rattle.trees.specs.Trees.{only}
use Rattle.nodes.specs.declared.node.Node.{Node}
use Rattle.nodes.specs.Breadth.{Item, breadth_first}
use Rattle.nodes.specs.Nodes.{Content, nodes_of}
use Rattle.nodes.specs.Flattening.{listed, flattening}
use Rattle.readings.specs.Back.{from_back}
use Rattle.readings.specs.ByFrames.{frame_seen}
use Rattle.readings.specs.Folds.{gathered}
use Rattle.readings.specs.Frames.{FrameContent, frame_rows, frame_list}
use Rattle.readings.specs.Laws.{CauseStands, CauseOnce, ClassOverFrames, AnyOverFrames, ClassByFrames, AnyByFrames, VerdictByFrames, CauseFromBack, CauseAtRoot, FramesInOrder, FirstNotLiveByFrames, LiveByFrames}
use Rattle.readings.specs.Readings.{marker, error_at, class_of, verdict_of, cause, report_pairs, frame_pairs, first_not_live}
use Rattle.readings.specs.Seen.{Seen, nothing, ◌or◌, ◌with◌, seen}
use Rattle.readings.proofs.Back.{back_breadth, back_root}
use Rattle.readings.proofs.CauseFold.{seen_says, caused, one-cause}
use Rattle.readings.proofs.Explicit.{first_not_live_lem, frames-listed, listed-live, tree_live}
use Rattle.readings.proofs.Folds.{right}
use Rattle.readings.proofs.Least.{lesser_monoid, or_monoid, with_monoid, least_folded, any-folded}
use Rattle.readings.proofs.SeenByFrames.{expand-seen}
use Rattle.readings.proofs.Sums.{pairs_over, over_same, frames-folded}

pub cause_stands : CauseStands
unfolding cause
cause_stands h t = caused (marker h) error_at (nodes_of h t) t.error (seen (marker h) error_at (nodes_of h t)) (seen_says (marker h) error_at (nodes_of h t))

pub cause_once : CauseOnce
cause_once h t d e (inl a) (inl b) = one-cause (marker h) error_at (nodes_of h t) d e a b
cause_once h t d e (inl a) (inr b) = absurd (b.0 a.position a.comparable)
cause_once h t d e (inr a) (inl b) = absurd (a.0 b.position b.comparable)
cause_once h t d e (inr a) (inr b) = a.1 ∙ sym b.1

pub class_over_frames : ClassOverFrames
unfolding class_of
class_over_frames h span l t =
    least_folded (report_pairs h t)
    ∙ pairs_over lesser None lesser_monoid h span l (λ (p : Pair). p.class) t
    ∙ over_same lesser None _ _ (λ (e : FrameError). sym (least_folded (frame_pairs h e))) (only t)

pub any-over_frames : AnyOverFrames
any-over_frames h span l accepts t =
    any-folded accepts (report_pairs h t)
    ∙ pairs_over ◌||◌ false or_monoid h span l accepts t
    ∙ over_same ◌||◌ false _ _ (λ (e : FrameError). sym (any-folded accepts (frame_pairs h e))) (only t)

pub class_by_frames : ClassByFrames
class_by_frames h span l t = class_over_frames h span l t ∙ frames-folded lesser None lesser_monoid (λ (e : FrameError). least_class (frame_pairs h e)) (only t)

pub any_by_frames : AnyByFrames
any_by_frames h span l accepts t = any-over_frames h span l accepts t ∙ frames-folded ◌||◌ false or_monoid (λ (e : FrameError). any_pair accepts (frame_pairs h e)) (only t)

pub verdict_by_frames : VerdictByFrames
unfolding verdict_of class_of
verdict_by_frames h span l accepts t =
    ap₂ (λ (a b : Bool). (not a && b))
    (cancelled_least (report_pairs h t) ∙ ap (has_rank 0) (class_by_frames h span l t))
    (any_by_frames h span l accepts t)

pub cause-from_back : CauseFromBack
unfolding cause
cause-from_back h t =
    ap (λ (s : Seen FrameError). s or t.error)
    (expand-seen h (only t) ∙ sym (back_breadth ◌with◌ nothing (λ (x : FrameContent). frame_seen h x.error) with_monoid (frame_rows (only t))))

pub cause_at_root : CauseAtRoot
unfolding cause
cause_at_root h t x xs q =
    let f : FrameContent → Seen FrameError → Seen FrameError = λ y. frame_seen h y.error in
    let root : FrameContent = record { error = t.error; place = t.place } in
    let b = back_root ◌with◌ nothing f with_monoid root (frame_rows t.children) x xs q in
    ap (λ (s : Seen FrameError). s or t.error)
    (expand-seen h (only t) ∙ right ◌with◌ nothing with_monoid (f root (gathered ◌with◌ nothing f (frame_rows t.children))) ∙ ap (f root) (sym b.1))
    ∙ ap (λ (y : FrameContent). frame_seen h y.error (from_back ◌with◌ nothing f 1 xs (Some 0)) or y.error) (sym b.0)

pub frames_in_order : FramesInOrder
frames_in_order h t = frames-listed h t

pub first_not_live_by_frames : FirstNotLiveByFrames
unfolding flattening
first_not_live_by_frames h span l t =
    ap (first_not_live h)
    (map-map (λ (x : Node). x.error) listed (breadth_first (nodes_of h t))
    ∙ sym (map-map (λ (v : Content). v.error) (λ (x : Item Content). x.value) (breadth_first (nodes_of h t))))
    ∙ first_not_live_lem h span l t
    ∙ ap (first_not_live h) (map-map (λ (x : FrameContent). x.error) (λ (x : Item FrameContent). x.value) (frame_list t))

pub live_by_frames : LiveByFrames
live_by_frames h t = (listed-live h t, tree_live h t)
