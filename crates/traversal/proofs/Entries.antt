-- What waits in a list, as entries of the listing.
use Rattle.std.proofs.lemmas.Bool.Decides.{nat_tests}
use Rattle.std.proofs.Common.{◌≡◌, ℕ, List, [], ◌∷◌, ◌++◌, map, Some, None, Option, sym, refl, ap, ◌∙◌, ap₂, arith}
use Rattle.std.proofs.lemmas.List.{map-append}
use Rattle.vocabulary.specs.declared.frame_error.FrameError.{FrameError}
use Rattle.vocabulary.specs.declared.frame_error.FrameError.TheVariants.{Host}
use Rattle.model.specs.Host.{Error, Errors, Lawful}
use Rattle.model.specs.Sources.{chain_up_to, chain_from, source_of, sources}
use Rattle.model.proofs.Sources.{chain_is, live-told}
use Rattle.trees.specs.Trees.{Forest, empty, tree}
use Rattle.nodes.specs.Rows.{Rows, none, node, ◌beside◌}
use Rattle.nodes.specs.Breadth.{Entry, under}
use Rattle.nodes.specs.Nodes.{Content, FrameContent, expand, frame, frame_rows, natives, sources_of}
use Rattle.traversal.specs.Spread.{Wait, of_source, of_frame, born, entry_in, error_source, frames_in, from_forest, from_source}

under_beside : {A : Type 0} (o : Option ℕ) (r s : Rows A) → under o (r beside s) ≡ under o r ++ under o s
under_beside o none s = refl
under_beside o (node v c r) s = ap (λ (z : List (Entry _)). record { parent = o; value = v; children = c } ∷ z) (under_beside o r s)

pub frames_append : (q r : List Wait) → frames_in (q ++ r) ≡ frames_in q ++ frames_in r
frames_append [] r = refl
frames_append (of_source i d p ∷ q) r = frames_append q r
frames_append (of_frame i o e p c ∷ q) r = ap (λ (z : List (Entry FrameContent)). record { parent = o; value = record { error = e; place = p }; children = frame_rows c } ∷ z) (frames_append q r)

pub frames-source : (i p : ℕ) (o : Option ℕ) → frames_in (from_source i p o) ≡ []
frames-source i p None = refl
frames-source i p (Some d) = refl

pub frames-forest : (i o : ℕ) (c : Forest) → frames_in (from_forest i o c) ≡ under (Some o) (frame_rows c)
frames-forest i o empty = refl
frames-forest i o (tree e p c r) = ap (λ (z : List (Entry FrameContent)). record { parent = Some o; value = record { error = e; place = p }; children = frame_rows c } ∷ z) (frames-forest i o r)

forest-under : (h : Errors) (i o : ℕ) (c : Forest) → map (entry_in h) (from_forest i o c) ≡ under (Some i) (expand h c)
forest-under h i o empty = refl
forest-under h i o (tree e p c r) = ap (λ (z : List (Entry Content)). record { parent = Some i; value = frame e p; children = natives p (sources_of h e) beside expand h c } ∷ z) (forest-under h i o r)

module _ (h : Errors) (span : ℕ) (l : Lawful h span) where
  -- the sources begin with the source, and go on with its own
  sources-step : (e d : ℕ) → source_of (h e) ≡ Some d → sources h e ≡ d ∷ sources h d
  sources-step e d s = go (h e) refl s
    where
      go : (o : Option Error) → h e ≡ o → source_of o ≡ Some d → sources h e ≡ d ∷ sources h d
      go None q z = absurd cc
      go (Some m) q z =
          let v = live-told (h d) (l.lives e d m q z) in
          ap (chain_from h) s ∙ chain_is h span l d v.0 v.1 ∙ sym (ap (λ (o : Option Error). d ∷ chain_from h (source_of o)) v.1)

  natives-under : (i p d : ℕ) → map (entry_in h) (from_source i p (source_of (h d))) ≡ under (Some i) (natives p (sources h d))
  unfolding chain_up_to
  natives-under i p d = go (source_of (h d)) refl
    where
      go : (o : Option ℕ) → source_of (h d) ≡ o → map (entry_in h) (from_source i p (source_of (h d))) ≡ under (Some i) (natives p (sources h d))
      go None q = grind (arith, nat_tests)
      go (Some s) q = ap (λ (o : Option ℕ). map (entry_in h) (from_source i p o)) q ∙ sym (ap (λ (ds : List ℕ). under (Some i) (natives p ds)) (sources-step d s q))

  error_under : (i p : ℕ) (e : FrameError) → map (entry_in h) (from_source i p (error_source h e)) ≡ under (Some i) (natives p (sources_of h e))
  error_under i p (Host d) = natives-under i p d

  -- the children of what waits are those of its entry
  pub born-under : (i o : ℕ) (w : Wait) → map (entry_in h) (born h i o w) ≡ under (Some i) (entry_in h w).children
  born-under i o (of_source j d p) = natives-under i p d
  born-under i o (of_frame j k e p c) =
      map-append (entry_in h) (from_source i p (error_source h e)) (from_forest i o c)
      ∙ ap₂ (λ (a b : List (Entry Content)). a ++ b) (error_under i p e) (forest-under h i o c)
      ∙ sym (under_beside (Some i) (natives p (sources_of h e)) (expand h c))
