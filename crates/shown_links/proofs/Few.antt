-- How many nodes a tree of few frames has.
use Rattle.std.proofs.Common.{◌≡◌, ℕ, ◌+◌, ◌*◌, ◌≤◌, List, [], ◌∷◌, length, Some, None, Option, sym, refl, subst, arith}
use Rattle.vocabulary.specs.declared.frame_error.FrameError.{FrameError}
use Rattle.vocabulary.specs.declared.frame_error.FrameError.TheVariants.{Host}
use Rattle.model.specs.Host.{Error, Errors, Lawful}
use Rattle.model.specs.Sources.{bound, chain_from, source_of}
use Rattle.model.proofs.Sources.{chain_short, source-bound}
use Rattle.trees.specs.Trees.{Forest, Tree, empty, frames, only, tree}
use Rattle.nodes.specs.Flattening.{flattening}
use Rattle.nodes.specs.Nodes.{expand, natives, sources_of}
use Rattle.nodes.specs.Rows.{count}
use Rattle.nodes.proofs.Rebuild.{flattening-length}
use Rattle.shown_links.proofs.Beside.{count_beside}

count_natives : (p : ℕ) (ds : List ℕ) → count (natives p ds) ≡ length ds
count_natives p [] = refl
count_natives p (d ∷ ds) = let a = count_natives p ds in omega arith

module _ (h : Errors) (span : ℕ) (l : Lawful h span) where
  -- an error has fewer sources than a host has numbers
  few_sources : (e : FrameError) → length (sources_of h e) ≤ 65535
  few_sources (Host e) = go (h e) refl
    where
      go : (o : Option Error) → h e ≡ o → length (chain_from h (source_of (h e))) ≤ 65535
      go None q = subst (λ (x : Option Error). length (chain_from h (source_of x)) ≤ 65535) (sym q) (let a = chain_short h 0 None in omega arith)
      go (Some m) q =
          let a = chain_short h (bound m.source) m.source in
          let b = source-bound h span l e m q in
          let c = l.within e m q in
          let d = l.small in
          subst (λ (x : Option Error). length (chain_from h (source_of x)) ≤ 65535) (sym q) (omega arith)

  few_expanded : (f : Forest) → count (expand h f) ≤ frames f * 65536
  few_expanded empty = omega arith
  few_expanded (tree e p c r) =
      let a = count_beside (natives p (sources_of h e)) (expand h c) in
      let b = count_natives p (sources_of h e) in
      let d = few_sources e in
      let x = few_expanded c in
      let y = few_expanded r in
      omega arith

  -- so a tree of at most 1,024 frames has few nodes
  pub few_nodes : (t : Tree) → frames t.children + 1 ≤ 1024 → length (flattening h t) ≤ 67108864
  few_nodes t few =
      let a = flattening-length h t in
      let b = few_expanded (only t) in
      omega arith
