-- Chains built into trees.
use Rattle.std.proofs.Common.{◌≡◌, ℕ, ◌+◌, ◌<◌, ◌≤◌, List, length, drop, sym, refl, ◌∙◌, ⊎_elim, arith}
use Rattle.std.proofs.lemmas.List.{take-append-drop}
use Rattle.std.proofs.lemmas.Bool.{cases_lt}
use Rattle.model.specs.Host.{Errors}
use Rattle.trees.specs.Trees.{frames}
use Rattle.frames.specs.Of.{frames_of, free_of}
use Rattle.nodes.specs.declared.node.Node.{Node}
use Rattle.nodes.specs.Begins.{FirstBad, Flat}
use Rattle.nodes.specs.Check.{explicit_count}
use Rattle.nodes.proofs.Explicit.{explicit-frames}
use Rattle.nodes.proofs.Rebuild.{apart}
use Rattle.ledger.specs.Ledger.{free}
use Rattle.rebuilding.specs.Steps.{Built}
use Rattle.store.specs.Chains.{NoTree, TooFew, TreeBuilt}
use Rattle.store.proofs.Rows.{free_same, fresh_as, holds_as}
use Rattle.store.specs.Store.{ledger_of}
use Rattle.store.specs.declared.store.Store.{Store}

-- a list that is bad at an index is no flattening
pub no_tree : (h : Errors) (xs : List Node) (i : ℕ) → FirstBad h xs i → NoTree h xs i
no_tree h xs i b = record { first = b; none = λ f. ⊎_elim (inside f) (at_end f) (cases_lt i (length xs)) }
  where
    inside : Flat h xs → i < length xs → ⊥
    inside f lt = b.here lt (record { tree = f.0; rest = drop (i + 1) xs; live = f.1.live; lists = f.1.lists ∙ sym (take-append-drop (i + 1) xs) })

    at_end : Flat h xs → length xs ≤ i → ⊥
    at_end f le = b.ends (let w = b.within in omega arith) f

pub too_few : (s : Store) (h : Errors) (xs : List Node) (n k : ℕ) → Flat h xs → n ≡ explicit_count xs → k ≡ free_of s.frames → k < n → TooFew (ledger_of s) h xs n
too_few s h xs n k f e q lt = record { tree = f.0; flattens = f.1; only = λ t z. apart h t f.0 (z ∙ sym f.1.lists); need = e ∙ explicit-frames h xs f.0 f.1; few = let g = free_same s in omega arith }

-- there is room for the frames of the tree
pub fits : (s : Store) (h : Errors) (xs : List Node) (n k : ℕ) (f : Flat h xs) → n ≡ explicit_count xs → k ≡ free_of s.frames → n ≤ k → frames f.0.children + 1 ≤ free_of s.frames
fits s h xs n k f e q le = let a = explicit-frames h xs f.0 f.1 in omega arith

pub tree_built : (before after : Store) (h : Errors) (xs : List Node) (root n k : ℕ) (f : Flat h xs) → n ≡ explicit_count xs → k ≡ free_of before.frames → n ≤ k → after.number ≡ before.number
    → Built (frames_of before.frames) (frames_of after.frames) root f.0 → TreeBuilt before after h xs root
tree_built before after h xs root n k f e q le same b = record {
  tree = f.0;
  flattens = f.1;
  only = λ t z. apart h t f.0 (z ∙ sym f.1.lists);
  explicit = sym (explicit-frames h xs f.0 f.1);
  room = let a = fits before h xs n k f e q le in let g = free_same before in omega arith;
  fresh = fresh_as before root (record { report = b.fresh.report; row = b.fresh.row });
  no_root = record { report = b.fresh.report; row = b.fresh.row };
  became = record { number = same; holds = holds_as after _ _ _ b.means (λ j. refl) (λ j. refl) };
}
