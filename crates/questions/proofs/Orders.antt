-- The probable cause of a report whose frames stand in an order.
use Rattle.std.proofs.Common.{◌≡◌, ℕ, ◌<◌, List, map, length, get_or, Some, sym, ap, ◌∙◌, arith}
use Rattle.std.proofs.lemmas.List.{length-map}
use Rattle.vocabulary.specs.declared.frame_error.FrameError.{FrameError}
use Rattle.model.specs.Host.{Errors}
use Rattle.trees.specs.Trees.{Tree}
use Rattle.nodes.specs.Breadth.{Item}
use Rattle.nodes.specs.Flattening.{frame_list}
use Rattle.nodes.specs.Nodes.{FrameContent}
use Rattle.readings.specs.ByFrames.{frame_seen}
use Rattle.readings.specs.Readings.{cause}
use Rattle.readings.specs.Seen.{Seen, ◌or◌}
use Rattle.readings.proofs.Laws.{cause_at_root}
use Rattle.readings.proofs.Sums.{frames-length}
use Rattle.traversal.specs.declared.order.Visit.{Visit}
use Rattle.traversal.specs.Order.{visited}
use Rattle.questions.specs.Noted.{meant}
use Rattle.questions.specs.declared.seen.Seen.{Seen as Kept}
use Rattle.questions.specs.declared.seen.Seen.TheVariants.{Nothing}
use Rattle.questions.proofs.Gathering.{Gathered, first_item, shown_from}

-- what a frame shows
abbrev pub frame_shows : Errors → FrameContent → Seen FrameError → Seen FrameError
frame_shows h x s = frame_seen h x.error s

-- what the frames from `n` on show stands in an array
abbrev pub OrderGathered : Errors → List Visit → ℕ → List Kept → Type 0
OrderGathered h order n list = Gathered visited order meant Nothing (frame_shows h) n list

module _ (order : List Visit) (t : Tree) (is : map visited order ≡ frame_list t) where
  pub some : 0 < length order
  some = let a = length-map order visited in let b = ap (λ (xs : List (Item FrameContent)). length xs) is in let c = frames-length t in omega arith

  pub cause_gathered : (h : Errors) (n : ℕ) (list : List Kept) (d : Visit) (s : Seen FrameError) → OrderGathered h order n list → n ≡ 1 → s ≡ frame_seen h (get_or order 0 d).error (meant (get_or list 0 Nothing)) → (s or (get_or order 0 d).error) ≡ cause h t
  cause_gathered h n list d s g one q =
      let root = get_or order 0 d in
      let first = sym is ∙ first_item visited order d some in
      ap (λ (k : Seen FrameError). k or root.error) (q ∙ ap (frame_seen h root.error) (g.shows 0 (omega arith) ∙ ap (λ (k : ℕ). shown_from visited order meant Nothing (frame_shows h) k (Some 0)) one))
      ∙ sym (cause_at_root h t (visited root) _ first)
