-- A fold over the nodes of a report, frame by frame.
use Rattle.std.proofs.Common.{◌≡◌, ℕ, zero, suc, List, [], ◌∷◌, map, length, Some, None, Option, sym, refl, ap, ◌∙◌, ap₂, arith}
use Rattle.vocabulary.specs.declared.frame_error.FrameError.{FrameError}
use Rattle.vocabulary.specs.declared.frame_error.FrameError.TheVariants.{Host}
use Rattle.vocabulary.specs.declared.policy.Pair.{Pair}
use Rattle.model.specs.Host.{Error, Errors, Lawful}
use Rattle.model.specs.Judge.{pair_of, pairs_of}
use Rattle.model.specs.Sources.{chain, chain_from, chain_up_to, sources, source_of}
use Rattle.model.proofs.Sources.{sources_are, chain_is}
use Rattle.trees.specs.Trees.{Forest, empty, tree, Tree, only, frames}
use Rattle.nodes.specs.declared.node.Node.{Node}
use Rattle.nodes.specs.Rows.{count}
use Rattle.nodes.specs.Breadth.{Item, breadth_first}
use Rattle.nodes.specs.Nodes.{Content, natives, sources_of, expand, nodes_of}
use Rattle.nodes.specs.Flattening.{listed, flattening}
use Rattle.readings.specs.Folds.{CommutativeMonoid, folded, summed}
use Rattle.readings.specs.Frames.{FrameContent, frame_rows, frame_list, over_frames}
use Rattle.readings.specs.Readings.{pair_in, errors_of, report_pairs, frame_pairs}
use Rattle.nodes.proofs.Rebuild.{breadth_length}
use Rattle.readings.proofs.Folds.{right, gathered_beside, breadth_folded}

-- an error that is not live has no chain beneath it
chain-not_live : (h : Errors) (e : ℕ) → h e ≡ None → chain h e ≡ e ∷ sources h e
unfolding chain_up_to
chain-not_live h e q = ap (λ (o : Option Error). e ∷ chain_up_to h e (source_of o)) q ∙ ap (λ (xs : List ℕ). e ∷ xs) (none_up e) ∙ sym (ap (λ (o : Option Error). e ∷ chain_from h (source_of o)) q)
  where
    none_up : (n : ℕ) → chain_up_to h n None ≡ []
    none_up zero = refl
    none_up (suc n) = refl

-- an error's chain is the error and its sources
pub chain-sources : (h : Errors) (span : ℕ) → Lawful h span → (e : ℕ) → chain h e ≡ e ∷ sources h e
chain-sources h span l e = go (h e) refl
  where
    go : (o : Option Error) → h e ≡ o → chain h e ≡ e ∷ sources h e
    go None q = chain-not_live h e q
    go (Some m) q = chain_is h span l e m q ∙ ap (λ (xs : List ℕ). e ∷ xs) (sym (sources_are h span l e m q))

-- a fold over changed elements
pub folded_map : {A B M : Type 0} (op : M → M → M) (unit : M) (f : B → M) (g : A → B) (xs : List A) → folded op unit f (map g xs) ≡ folded op unit (λ (x : A). f (g x)) xs
folded_map op unit f g [] = refl
folded_map op unit f g (x ∷ xs) = ap (op (f (g x))) (folded_map op unit f g xs)

-- a fold by another function with the same values
pub over_same : {M : Type 0} (op : M → M → M) (unit : M) (f g : FrameError → M) → ((e : FrameError) → f e ≡ g e) → (w : Forest) → over_frames op unit f w ≡ over_frames op unit g w
over_same op unit f g q empty = refl
over_same op unit f g q (tree e p c r) = λ i. op (op (q e i) (over_same op unit f g q c i)) (over_same op unit f g q r i)

module _ {M : Type 0} (op : M → M → M) (unit : M) (c : CommutativeMonoid op unit) where
  module _ (h : Errors) (f : FrameError → M) where
    natives-summed : (p : ℕ) (ds : List ℕ) → summed op unit (λ (x : Content). f x.error) (natives p ds) ≡ folded op unit (λ (d : ℕ). f (Host d)) ds
    natives-summed p [] = refl
    natives-summed p (d ∷ ds) = right op unit c (op (f (Host d)) (summed op unit (λ (x : Content). f x.error) (natives p ds))) ∙ ap (op (f (Host d))) (natives-summed p ds)

    -- an error and its sources
    abbrev pub with_sources : FrameError → M
    with_sources e = op (f e) (folded op unit (λ (d : ℕ). f (Host d)) (sources_of h e))

    -- the nodes of a forest come to what its frames do, each with its sources
    pub expand-summed : (w : Forest) → summed op unit (λ (x : Content). f x.error) (expand h w) ≡ over_frames op unit with_sources w
    expand-summed empty = refl
    expand-summed (tree e p k r) =
        let s : M = folded op unit (λ (d : ℕ). f (Host d)) (sources_of h e) in
        ap₂ op
        (ap (op (f e)) (gathered_beside op unit c (λ (x : Content) (m : M). op (f x.error) m) (natives p (sources_of h e)) (expand h k) ∙ ap₂ op (natives-summed p (sources_of h e)) (expand-summed k))
        ∙ sym (c.associates (f e) s (over_frames op unit with_sources k)))
        (expand-summed r)

  -- the fold over a forest is that over the row of its frames
  pub frames-summed : (g : FrameError → M) (w : Forest) → over_frames op unit g w ≡ summed op unit (λ (x : FrameContent). g x.error) (frame_rows w)
  frames-summed g empty = refl
  frames-summed g (tree e p k r) = ap₂ (λ (a b : M). op (op (g e) a) b) (frames-summed g k) (frames-summed g r)

  -- and over its list
  pub frames-folded : (g : FrameError → M) (w : Forest) → over_frames op unit g w ≡ folded op unit (λ (x : Item FrameContent). g x.value.error) (breadth_first (frame_rows w))
  frames-folded g w = frames-summed g w ∙ sym (breadth_folded op unit c (λ (x : FrameContent). g x.error) (frame_rows w))

  -- a fold over the errors of a report, by its frames
  pub errors_folded : (h : Errors) (f : FrameError → M) (t : Tree) → folded op unit f (errors_of h t) ≡ over_frames op unit (with_sources h f) (only t)
  unfolding flattening
  errors_folded h f t =
      folded_map op unit f (λ (x : Node). x.error) (flattening h t)
      ∙ folded_map op unit (λ (x : Node). f x.error) listed (breadth_first (nodes_of h t))
      ∙ breadth_folded op unit c (λ (x : Content). f x.error) (nodes_of h t)
      ∙ expand-summed h f (only t)

  module _ (h : Errors) (span : ℕ) (l : Lawful h span) (k : Pair → M) where
    frame-folded : (e : FrameError) → with_sources h (λ (x : FrameError). k (pair_in h x)) e ≡ folded op unit k (frame_pairs h e)
    frame-folded (Host e) = sym (ap (λ (xs : List ℕ). folded op unit k (pairs_of h xs)) (chain-sources h span l e) ∙ ap (op (k (pair_of h e))) (folded_map op unit k (pair_of h) (sources h e)))

    -- a fold over the pairs of a report, by its frames
    pub pairs_over : (t : Tree) → folded op unit k (report_pairs h t) ≡ over_frames op unit (λ (e : FrameError). folded op unit k (frame_pairs h e)) (only t)
    pairs_over t =
        folded_map op unit k (pair_in h) (errors_of h t)
        ∙ errors_folded h (λ (x : FrameError). k (pair_in h x)) t
        ∙ over_same op unit (with_sources h (λ (x : FrameError). k (pair_in h x))) (λ (e : FrameError). folded op unit k (frame_pairs h e)) frame-folded (only t)

    -- and by the list of its frames
    pub pairs_folded : (t : Tree) → folded op unit k (report_pairs h t) ≡ folded op unit (λ (x : Item FrameContent). folded op unit k (frame_pairs h x.value.error)) (frame_list t)
    pairs_folded t = pairs_over t ∙ frames-folded (λ (e : FrameError). folded op unit k (frame_pairs h e)) (only t)

pub count-frames : (w : Forest) → count (frame_rows w) ≡ frames w
count-frames empty = refl
count-frames (tree e p c r) = let a = count-frames c in let b = count-frames r in omega arith

-- the list has as many items as the report has frames
pub frames-length : (t : Tree) → length (frame_list t) ≡ frames (only t)
frames-length t = breadth_length (frame_rows (only t)) ∙ count-frames (only t)
