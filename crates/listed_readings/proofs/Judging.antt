-- What errors come to is a fold, and that of a report is that of its frames.
use Rattle.std.proofs.Common.{◌≡◌, ℕ, Bool, true, false, cond, not, ◌&&◌, ◌||◌, List, [], ◌∷◌, map, Some, None, Option, sym, refl, ap, ◌∙◌, ap₂}
use Rattle.std.proofs.lemmas.Simd.{map-map}
use Rattle.std.specs.List.{filter_map}
use Rattle.classes.specs.Class.{lesser}
use Rattle.classes.specs.declared.class.Class.{Class}
use Rattle.vocabulary.specs.declared.frame_error.FrameError.{FrameError}
use Rattle.vocabulary.specs.declared.policy.Pair.{Pair}
use Rattle.model.specs.Host.{Errors}
use Rattle.host.specs.Findings.{findings_of}
use Rattle.host.specs.declared.judge.Findings.{Findings}
use Rattle.host.proofs.Chains.{verdict}
use Rattle.nodes.specs.declared.node.Node.{Node}
use Rattle.nodes.specs.Breadth.{Item, breadth_first}
use Rattle.nodes.specs.Nodes.{Content, FrameContent, nodes_of}
use Rattle.nodes.specs.Flattening.{flattening, frame_list, listed}
use Rattle.readings.specs.ByFrames.{listed_errors}
use Rattle.readings.specs.Folds.{CommutativeMonoid, folded}
use Rattle.readings.specs.Frames.{frames_in}
use Rattle.readings.specs.Readings.{class_of, first_not_live, frame_pairs, report_pairs, verdict_of}
use Rattle.readings.proofs.Laws.{first_not_live_by_frames, frames_in_order}
use Rattle.readings.proofs.Least.{lesser_monoid, or_monoid}
use Rattle.readings.proofs.Sums.{folded_map, pairs_folded}
use Rattle.listed_readings.specs.Judged.{all_findings, both, frame_error, if_live, no_findings}
use Rattle.listed_readings.specs.Laws.{FrameErrorsOfNodes, JudgedByFrames, RetriesAsVerdict}

-- findings by their two parts
abbrev found : Option Class → Bool → Findings
found c a = record { class = c; accepted = a }

pub both_monoid : CommutativeMonoid both no_findings
both_monoid =
    let c = lesser_monoid in
    let a = or_monoid in
    record {
      unit_left = λ x. refl;
      commutes = λ x y. ap₂ found (c.commutes x.class y.class) (a.commutes x.accepted y.accepted);
      associates = λ x y z. ap₂ found (c.associates x.class y.class z.class) (a.associates x.accepted y.accepted z.accepted);
    }

-- the findings of pairs are a fold
module _ (accepts : Pair → Bool) where
  abbrev of_pair : Pair → Findings
  of_pair p = found p.class (accepts p)

  findings_folded : (ps : List Pair) → findings_of accepts ps ≡ folded both no_findings of_pair ps
  findings_folded [] = refl
  findings_folded (p ∷ ps) = ap (both (of_pair p)) (findings_folded ps)

  all_folded : (h : Errors) (es : List FrameError) → folded both no_findings (λ (e : FrameError). folded both no_findings of_pair (frame_pairs h e)) es ≡ all_findings h accepts es
  all_folded h [] = refl
  all_folded h (e ∷ es) = ap₂ both (sym (findings_folded (frame_pairs h e))) (all_folded h es)

pub judged_by_frames : JudgedByFrames
judged_by_frames h span l accepts t =
    ap₂ if_live (sym (first_not_live_by_frames h span l t))
    (sym
    (findings_folded accepts (report_pairs h t)
    ∙ pairs_folded both no_findings both_monoid h span l (of_pair accepts) t
    ∙ sym (folded_map both no_findings (λ (e : FrameError). folded both no_findings (of_pair accepts) (frame_pairs h e)) (λ (x : Item FrameContent). x.value.error) (frame_list t))
    ∙ all_folded accepts h (listed_errors (frame_list t))))

pub retries_as_verdict : RetriesAsVerdict
unfolding class_of verdict_of
retries_as_verdict h accepts t = (refl, verdict accepts (report_pairs h t))

-- the errors of the frames among listed nodes
listed_frames : (xs : List (Item Content)) → filter_map frame_error (map listed xs) ≡ map (λ (x : FrameContent). x.error) (frames_in (map (λ (x : Item Content). x.value) xs))
listed_frames [] = refl
listed_frames (x ∷ xs) = go x.value.native (listed_frames xs)
  where
    go : (b : Bool) → filter_map frame_error (map listed xs) ≡ map (λ (x : FrameContent). x.error) (frames_in (map (λ (x : Item Content). x.value) xs))
        → filter_map frame_error (listed (record { parent = x.parent; value = record { error = x.value.error; place = x.value.place; native = b } }) ∷ map listed xs)
        ≡ map (λ (x : FrameContent). x.error) (cond b (frames_in (map (λ (x : Item Content). x.value) xs)) (record { error = x.value.error; place = x.value.place } ∷ frames_in (map (λ (x : Item Content). x.value) xs)))
    go true q = q
    go false q = ap (λ (es : List FrameError). x.value.error ∷ es) q

pub frame_errors_of_nodes : FrameErrorsOfNodes
unfolding flattening
frame_errors_of_nodes h t =
    listed_frames (breadth_first (nodes_of h t))
    ∙ ap (map (λ (x : FrameContent). x.error)) (frames_in_order h t)
    ∙ map-map (λ (x : FrameContent). x.error) (λ (x : Item FrameContent). x.value) (frame_list t)
