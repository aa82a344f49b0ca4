-- The probable cause by the nodes of a flattening.
use Rattle.std.proofs.Common.{◌≡◌, ℕ, List, ◌∷◌, map, Some, sym, ap, ◌∙◌}
use Rattle.vocabulary.specs.declared.frame_error.FrameError.{FrameError}
use Rattle.nodes.specs.declared.node.Node.{Node}
use Rattle.nodes.specs.Breadth.{Item, breadth_first}
use Rattle.nodes.specs.Rows.{◌beside◌}
use Rattle.nodes.specs.Nodes.{Content, expand, frame, natives, nodes_of, sources_of}
use Rattle.nodes.specs.Flattening.{flattening, unlisted}
use Rattle.nodes.proofs.Rebuild.{unlisted-listed}
use Rattle.readings.specs.Back.{from_back}
use Rattle.readings.specs.Folds.{gathered}
use Rattle.readings.specs.Readings.{cause}
use Rattle.readings.specs.Seen.{Seen, nothing, ◌or◌, ◌with◌}
use Rattle.readings.proofs.Back.{back_root}
use Rattle.readings.proofs.Folds.{right}
use Rattle.readings.proofs.Least.{with_monoid}
use Rattle.listed_readings.specs.Laws.{CauseByNodes}
use Rattle.listed_readings.specs.NodesBack.{content_seen}

pub cause_by_nodes : CauseByNodes
unfolding cause flattening
cause_by_nodes h t x xs q =
    let root : Content = frame t.error t.place in
    let kids = natives t.place (sources_of h t.error) beside expand h t.children in
    let items : breadth_first (nodes_of h t) ≡ unlisted x ∷ map unlisted xs = sym (unlisted-listed (breadth_first (nodes_of h t))) ∙ ap (map unlisted) q in
    let b = back_root ◌with◌ nothing (content_seen h) with_monoid root kids (unlisted x) (map unlisted xs) items in
    ap (λ (s : Seen FrameError). s or t.error)
    (right ◌with◌ nothing with_monoid (content_seen h root (gathered ◌with◌ nothing (content_seen h) kids)) ∙ ap (content_seen h root) (sym b.1))
    ∙ ap (λ (v : Content). content_seen h v (from_back ◌with◌ nothing (content_seen h) 1 (map unlisted xs) (Some 0)) or v.error) (sym b.0)
