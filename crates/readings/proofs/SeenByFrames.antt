-- What is seen of a report, frame by frame.
use Rattle.std.proofs.Common.{◌≡◌, ℕ, Bool, true, false, cond, List, [], ◌∷◌, sym, refl, ap, ◌∙◌, ap₂}
use Rattle.vocabulary.specs.declared.frame_error.FrameError.{FrameError}
use Rattle.vocabulary.specs.declared.frame_error.FrameError.TheVariants.{Host}
use Rattle.model.specs.Host.{Errors}
use Rattle.trees.specs.Trees.{Forest, empty, tree}
use Rattle.nodes.specs.Rows.{Rows, ◌beside◌}
use Rattle.nodes.specs.Nodes.{Content, natives, sources_of, expand}
use Rattle.readings.specs.ByFrames.{chain_seen, frame_seen, last_seen}
use Rattle.readings.specs.Folds.{gathered}
use Rattle.readings.specs.Frames.{FrameContent, frame_rows}
use Rattle.readings.specs.Readings.{marker, marker_in, error_at}
use Rattle.readings.specs.Seen.{Seen, nothing, single, several, ◌with◌, node_seen, seen}
use Rattle.readings.proofs.Folds.{right, gathered_beside}
use Rattle.readings.proofs.Least.{with_monoid}

-- sources, each the child of the one before
pub natives-seen : (h : Errors) (p : ℕ) (ds : List ℕ) → seen (marker h) error_at (natives p ds) ≡ chain_seen h ds
natives-seen h p [] = refl
natives-seen h p (d ∷ ds) =
    right ◌with◌ nothing with_monoid (node_seen (marker_in h (Host d)) (Host d) (seen (marker h) error_at (natives p ds)))
    ∙ ap (node_seen (marker_in h (Host d)) (Host d)) (natives-seen h p ds)

-- sources beside other nodes
pub beside_seen : (h : Errors) (p : ℕ) (ds : List ℕ) (r : Rows Content) → seen (marker h) error_at (natives p ds beside r) ≡ (chain_seen h ds with seen (marker h) error_at r)
beside_seen h p ds r =
    gathered_beside ◌with◌ nothing with_monoid (λ (v : Content) (s : Seen FrameError). node_seen (marker h v) (error_at v) s) (natives p ds) r
    ∙ ap (λ (s : Seen FrameError). s with seen (marker h) error_at r) (natives-seen h p ds)

-- the nodes of a forest, by its frames
pub expand-seen : (h : Errors) (w : Forest) → seen (marker h) error_at (expand h w) ≡ gathered ◌with◌ nothing (λ (x : FrameContent). frame_seen h x.error) (frame_rows w)
expand-seen h empty = refl
expand-seen h (tree e p c r) =
    ap₂ ◌with◌
    (ap (node_seen (marker_in h e) e) (beside_seen h p (sources_of h e) (expand h c) ∙ ap (λ (s : Seen FrameError). chain_seen h (sources_of h e) with s) (expand-seen h c)))
    (expand-seen h r)

-- what is seen of a chain with another chain above it
abbrev further : Seen FrameError → Seen FrameError → Seen FrameError
further s nothing = s
further s (single e) = single e
further s several = several

-- not several nodes
abbrev AtMostOne : Seen FrameError → Type 0
AtMostOne nothing = Unit {0}
AtMostOne (single e) = Unit {0}
AtMostOne several = ⊥

chain-one : (h : Errors) (ds : List ℕ) → AtMostOne (chain_seen h ds)
chain-one h [] = tt
chain-one h (d ∷ ds) = go (marker_in h (Host d)) (chain_seen h ds) (chain-one h ds)
  where
    go : (b : Bool) (s : Seen FrameError) → AtMostOne s → AtMostOne (node_seen b (Host d) s)
    go true s f = f
    go false s f = tt

last_further : (h : Errors) (s : Seen FrameError) (ds : List ℕ) → last_seen h s ds ≡ further s (chain_seen h ds)
last_further h s [] = refl
last_further h s (d ∷ ds) = go (marker_in h (Host d)) (chain_seen h ds) (last_further h s ds) (last_further h (single (Host d)) ds) (chain-one h ds)
  where
    go : (b : Bool) (k : Seen FrameError) → last_seen h s ds ≡ further s k → last_seen h (single (Host d)) ds ≡ further (single (Host d)) k → AtMostOne k
        → last_seen h (cond b s (single (Host d))) ds ≡ further s (node_seen b (Host d) k)
    go true k q r f = q
    go false nothing q r f = r
    go false (single e) q r f = r
    go false several q r f = absurd f

-- along a chain the last error that is no marker is seen
pub chain_last : (h : Errors) (ds : List ℕ) → chain_seen h ds ≡ last_seen h nothing ds
chain_last h ds = sym (last_further h nothing ds ∙ none_before (chain_seen h ds))
  where
    none_before : (s : Seen FrameError) → further nothing s ≡ s
    none_before nothing = refl
    none_before (single e) = refl
    none_before several = refl
