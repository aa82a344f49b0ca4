-- Which stores calls lead to, and the ledger that their arguments and answers tell.
use Rattle.std.specs.Prelude.{◌≡◌, ℕ, List, Some, None, Ok, Option}
use Rattle.vocabulary.specs.declared.frame_error.FrameError.TheVariants.{Host}
use Rattle.model.specs.Host.{Errors, Extends}
use Rattle.trees.specs.Trees.{Forest, Tree}
use Rattle.nodes.specs.declared.node.Node.{Node}
use Rattle.nodes.specs.Nodes.{LiveForest, LiveTree}
use Rattle.ledger.specs.Ledger.{Ledger, chained, chained_all, collected, discarded, discarded_all, drained, made, nothing, raised, raised_all, rebuilt, taken}
use Rattle.store.specs.Calls.{Chained, ChainedAll, Collected, Discarded, DiscardedAll, Drained, Made, Raised, RaisedAll, Taken}
use Rattle.store.specs.Chains.{Flattened, Rebuilt}
use Rattle.store.specs.Store.{ledger_of, Holds}
use Rattle.store.specs.declared.chain.ChainedError.{ChainedError}
use Rattle.store.specs.declared.store.Store.{Store}
use Rattle.store.specs.Token.{Basket, Exn}

-- Granted calls lead from an empty store to this one, over a host that meanwhile gained errors, and this is the ledger of
-- their arguments and answers. The tokens are any, of this store or of others, live or not. A call that is turned down
-- leaves the store as it was and is no step.
pub data Reached : Errors → Store → Ledger → Type 0 where
  empty : (h : Errors) (s : Store) → Holds s nothing → Reached h s nothing
  gains : (h h' : Errors) (s : Store) (l : Ledger) → Reached h s l → Extends h h' → Reached h' s l
  new : (h : Errors) (s s' : Store) (l : Ledger) (e p : ℕ) (y : Exn) → Reached h s l → Made s s' h e p (Ok y) → Reached h s' (made l (Host e) p y.root)
  raise : (h : Errors) (s s' : Store) (l : Ledger) (x : Exn) (e p : ℕ) (y : Exn) → Reached h s l → Raised s s' h x e p (Ok y) → Reached h s' (raised l x.root (Host e) p y.root)
  raise_all : (h : Errors) (s s' : Store) (l : Ledger) (b : Basket) (e p : ℕ) (y : Exn) → Reached h s l → RaisedAll s s' h b e p (Ok y) → Reached h s' (raised_all l b.root (Host e) p y.root)
  chain : (h : Errors) (s s' : Store) (l : Ledger) (x y : Exn) → Reached h s l → Chained s s' x y (Ok tt) → Reached h s' (chained l x.root y.root)
  chain_all : (h : Errors) (s s' : Store) (l : Ledger) (x : Exn) (b : Basket) → Reached h s l → ChainedAll s s' x b (Ok tt) → Reached h s' (chained_all l x.root b.root)
  collect : (h : Errors) (s s' : Store) (l : Ledger) (b b' : Basket) (x : Exn) → Reached h s l → Collected s s' b b' x (Ok tt) → Reached h s' (collected l b.root x.root)
  take : (h : Errors) (s s' : Store) (l : Ledger) (b b' : Basket) (y : Exn) → Reached h s l → Taken s s' b b' (Ok (Some y)) → Reached h s' (taken l y.root b'.root)
  drain_children : (h : Errors) (s s' : Store) (l : Ledger) (x : Exn) (b : Basket) → Reached h s l → Drained s s' x (Ok b) → Reached h s' (drained l x.root b.root)
  discard : (h : Errors) (s s' : Store) (l : Ledger) (x : Exn) → Reached h s l → Discarded s s' x (Ok tt) → Reached h s' (discarded l x.root)
  discard_all : (h : Errors) (s s' : Store) (l : Ledger) (b : Basket) → Reached h s l → DiscardedAll s s' b (Ok tt) → Reached h s' (discarded_all l b.root)
  into_chain : (h : Errors) (s s' : Store) (l : Ledger) (x : Exn) (list list' : List Node) (c : ChainedError) → Reached h s l → Flattened s s' h x list list' (Ok c) → Reached h s' (discarded l x.root)
  into_exn : (h : Errors) (s s' : Store) (l : Ledger) (c : ChainedError) (list : List Node) (y : Exn) → Reached h s l → (b : Rebuilt s s' h c list (Ok y)) → Reached h s' (rebuilt l b.0.tree y.root)

abbrev pub LiveReport : Errors → Option Tree → Type 0
LiveReport h None = Unit {0}
LiveReport h (Some t) = LiveTree h t

abbrev pub LiveRow : Errors → Option Forest → Type 0
LiveRow h None = Unit {0}
LiveRow h (Some f) = LiveForest h f

-- What holds of a store that calls have led to: it holds what the ledger says, and all errors there are live.
pub record Stands (h : Errors) (s : Store) (l : Ledger) : Type 0 where
  pub ledger : ledger_of s ≡ l
  pub reports : (n : ℕ) → LiveReport h (l.reports n)
  pub rows : (n : ℕ) → LiveRow h (l.rows n)
