-- What is seen of the sources beneath an error: the deepest that is no marker.
use Rattle.std.proofs.Common.{◌≡◌, ℕ, Bool, true, false, cond, not, List, [], ◌∷◌, drop, Some, None, Err, Option, sym, refl, ap, ◌∙◌}
use Rattle.std.specs.List.{filter, last_or}
use Rattle.vocabulary.specs.declared.fault.HostFault.{HostFault}
use Rattle.vocabulary.specs.declared.frame_error.FrameError.{FrameError}
use Rattle.vocabulary.specs.declared.frame_error.FrameError.TheVariants.{Host}
use Rattle.vocabulary.specs.FrameError.{error_number}
use Rattle.model.specs.Host.{Error, Errors, Lawful, answer}
use Rattle.model.specs.Sources.{chain, chain_from, chain_up_to, source_of, sources}
use Rattle.nodes.specs.Nodes.{sources_of}
use Rattle.readings.specs.ByFrames.{chain_seen, last_seen}
use Rattle.readings.specs.Readings.{marker_in}
use Rattle.readings.specs.Seen.{Seen, nothing, single}
use Rattle.readings.proofs.SeenByFrames.{chain_last}
use Rattle.readings.proofs.Sums.{chain-sources}

-- the source that was found
abbrev pub seen_source : Option ℕ → Seen FrameError
seen_source None = nothing
seen_source (Some d) = single (Host d)

module _ (h : Errors) where
  abbrev pub unmarked : ℕ → Bool
  unmarked d = not (marker_in h (Host d))

  last_is : (o : Option ℕ) (ds : List ℕ) → seen_source (last_or o (filter unmarked ds)) ≡ last_seen h (seen_source o) ds
  last_is o [] = refl
  last_is o (d ∷ ds) = go (marker_in h (Host d)) (last_is o ds) (last_is (Some d) ds)
    where
      go : (b : Bool) → seen_source (last_or o (filter unmarked ds)) ≡ last_seen h (seen_source o) ds → seen_source (last_or (Some d) (filter unmarked ds)) ≡ last_seen h (single (Host d)) ds
          → seen_source (last_or o (cond (not b) (d ∷ filter unmarked ds) (filter unmarked ds))) ≡ last_seen h (cond b (seen_source o) (single (Host d))) ds
      go true p q = p
      go false p q = q

  -- no source stands beneath an error that is not live
  pub none_live : {A : Type 0} (e : FrameError) (n : ℕ) (f : HostFault) (a : Error → A) → n ≡ error_number e → Err f ≡ answer (h n) n a → nothing ≡ chain_seen h (sources_of h e)
  unfolding chain_up_to
  none_live (Host d) n f a q refused = ap (λ (o : Option Error). chain_seen h (chain_from h (source_of o))) (sym (ap h (sym q) ∙ none (h n) refused))
    where
      none : (o : Option Error) → Err f ≡ answer o n a → o ≡ None
      none None e = refl
      none (Some m) e = absurd cc

  -- the deepest
  pub deepest_seen : (span : ℕ) → Lawful h span → (e : FrameError) (n : ℕ) (o : Option ℕ) → n ≡ error_number e → o ≡ last_or None (filter unmarked (drop 1 (chain h n))) → seen_source o ≡ chain_seen h (sources_of h e)
  deepest_seen span l (Host d) n o q is =
      ap seen_source (is ∙ ap (λ (xs : List ℕ). last_or None (filter unmarked (drop 1 xs))) (ap (chain h) q ∙ chain-sources h span l d))
      ∙ last_is None (sources h d)
      ∙ sym (chain_last h (sources h d))
