-- What holds of every store that calls have led to.
use Rattle.std.proofs.Common.{◌≡◌, ℕ, Bool, true, false, eqb, List, Ok, Err, Result, Some, None, Option, sym, refl, ap, ap₂, ◌∙◌, subst, ⊎_elim}
use mathlib.Core.Path.{fun_ext}
use Rattle.std.proofs.lemmas.Map.{update_here, update_apart}
use Rattle.std.proofs.lemmas.Bool.{cases_eq}
use Rattle.std.specs.Map.{update}
use Rattle.vocabulary.specs.declared.fault.StoreFault.{StoreFault}
use Rattle.vocabulary.specs.declared.fault.StoreFault.TheVariants.{NotHeld}
use Rattle.vocabulary.specs.declared.frame_error.FrameError.{FrameError}
use Rattle.vocabulary.specs.declared.frame_error.FrameError.TheVariants.{Host}
use Rattle.model.specs.Host.{Errors, Extends, Live}
use Rattle.trees.specs.Listings.{bare, children_of}
use Rattle.trees.specs.Trees.{Forest, empty, tree, Tree, ◌then◌}
use Rattle.nodes.specs.declared.node.Node.{Node}
use Rattle.nodes.specs.Nodes.{LiveError, LiveForest, LiveTree}
use Rattle.nodes.proofs.Rebuild.{live-gained}
use Rattle.ledger.specs.Causes.{frame_cause, held, unless}
use Rattle.ledger.specs.Ledger.{Ledger, alone, chained, chained_all, collected, discarded, discarded_all, drained, first_of, first_root, made, opened, over, raised, raised_all, rebuilt, rest_of, row_of, taken, trees_of, under, without}
use Rattle.store.specs.Reached.{Reached, LiveReport, LiveRow, Stands, empty as at_first, gains, new, raise, raise_all, chain, chain_all, collect, take, drain_children, discard, discard_all, into_chain, into_exn}
use Rattle.store.specs.Chains.{Rebuilt, RebuiltBy, nodes_in}
use Rattle.store.specs.declared.chain.ChainedError.{ChainedError}
use Rattle.store.specs.declared.token.Refusal.{Refusal}
use Rattle.store.specs.Token.{Exn}
use Rattle.store.specs.Store.{ledger_of, Became, Holds}
use Rattle.store.specs.declared.store.Store.{Store}

-- a store that holds what a ledger says has that ledger
pub holds_is : (s : Store) (l : Ledger) → Holds s l → ledger_of s ≡ l
holds_is s l q = ap₂ (λ (g : ℕ → Option Tree) (h : ℕ → Option Forest). record { reports = g; rows = h }) (fun_ext q.reports) (fun_ext q.rows)

-- what holds of all values holds of them after an update
updated : {A : Type 0} (P : Option A → Type 0) (f : ℕ → Option A) (n : ℕ) (v : Option A) → ((j : ℕ) → P (f j)) → P v → (j : ℕ) → P (update eqb f n v j)
updated P f n v p q j = ⊎_elim (λ e. subst P (sym (ap (update eqb f n v) e ∙ update_here f n v)) q) (λ d. subst P (sym (update_apart f n v j d)) (p j)) (cases_eq j n)

-- no cause is left where a condition fails
granted : (b : Bool) (f : StoreFault) (rest : Option StoreFault) → unless b f rest ≡ None → (b ≡ true) × (rest ≡ None)
granted true f rest e = (refl, e)
granted false f rest e = cc

module _ (h : Errors) where
  live_then : (f g : Forest) → LiveForest h f → LiveForest h g → LiveForest h (f then g)
  live_then empty g u v = v
  live_then (tree e p c r) g u v = (u.0, u.1, live_then r g u.2 v)

  live_alone : (o : Option Tree) → LiveReport h o → LiveForest h (alone o)
  live_alone None u = tt
  live_alone (Some t) u = (u.0, u.1, tt)

  live_under : (o : Option Tree) (f : Forest) → LiveReport h o → LiveForest h f → LiveReport h (under o f)
  live_under None f u v = tt
  live_under (Some t) f u v = (u.0, live_then t.children f u.1 v)

  live_over : (e : FrameError) (p : ℕ) (o : Option Tree) → LiveError h e → LiveReport h o → LiveReport h (over e p o)
  live_over e p None v u = tt
  live_over e p (Some t) v u = (v, (u.0, u.1, tt))

  live_bare : (o : Option Tree) → LiveReport h o → LiveReport h (bare o)
  live_bare None u = tt
  live_bare (Some t) u = (u.0, tt)

  live_children : (o : Option Tree) → LiveReport h o → LiveForest h (children_of o)
  live_children None u = tt
  live_children (Some t) u = u.1

  live_first : (f : Forest) → LiveForest h f → LiveReport h (first_of f)
  live_first empty u = tt
  live_first (tree e p c r) u = (u.0, u.1)

  live_rest : (f : Forest) → LiveForest h f → LiveForest h (rest_of f)
  live_rest empty u = tt
  live_rest (tree e p c r) u = u.2

  live_trees : (o : Option Forest) → LiveRow h o → LiveForest h (trees_of o)
  live_trees None u = tt
  live_trees (Some f) u = u

  live_row_of : (l : Ledger) (b : Option ℕ) → ((n : ℕ) → LiveRow h (l.rows n)) → LiveForest h (row_of l b)
  live_row_of l None u = tt
  live_row_of l (Some n) u = live_trees (l.rows n) (u n)

  live_without : (rows : ℕ → Option Forest) (b : Option ℕ) → ((n : ℕ) → LiveRow h (rows n)) → (n : ℕ) → LiveRow h (without rows b n)
  live_without rows None u n = u n
  live_without rows (Some k) u n = updated (LiveRow h) rows k None u tt n

  live_opened : (rows : ℕ → Option Forest) (b : Option ℕ) (f : Forest) → ((n : ℕ) → LiveRow h (rows n)) → LiveForest h f → (n : ℕ) → LiveRow h (opened rows b f n)
  live_opened rows None f u v n = u n
  live_opened rows (Some k) f u v n = updated (LiveRow h) rows k (Some f) u v n

  -- an error that is given a frame is live
  live_error : (l : Ledger) (e : ℕ) → frame_cause l h e ≡ None → LiveError h (Host e)
  live_error l e q = (granted _ _ _ q).0

more_rows : (h h' : Errors) → Extends h h' → (f : Forest) → LiveForest h f → LiveForest h' f
more_rows h h' x empty u = tt
more_rows h h' x (tree e p c r) u =
    let t = live-gained h h' x (record { error = e; place = p; children = c }) (u.0, u.1) in (t.0, t.1, more_rows h h' x r u.2)

more_reports : (h h' : Errors) → Extends h h' → (o : Option Tree) → LiveReport h o → LiveReport h' o
more_reports h h' x None u = tt
more_reports h h' x (Some t) u = live-gained h h' x t u

more_row : (h h' : Errors) → Extends h h' → (o : Option Forest) → LiveRow h o → LiveRow h' o
more_row h h' x None u = tt
more_row h h' x (Some f) u = more_rows h h' x f u

-- the ledger after a step
step_is : (s s' : Store) (l : Ledger) (f : Ledger → Ledger) → Became s s' (f (ledger_of s)) → ledger_of s ≡ l → ledger_of s' ≡ f l
step_is s s' l f b q = holds_is s' (f (ledger_of s)) b.holds ∙ ap f q

pub stands : (h : Errors) (s : Store) (l : Ledger) → Reached h s l → Stands h s l
stands h s l (at_first _ _ q) = record { ledger = holds_is s _ q; reports = λ n. tt; rows = λ n. tt }
stands h s l (gains g _ _ _ r x) = let w = stands g s l r in record { ledger = w.ledger; reports = λ n. more_reports g h x _ (w.reports n); rows = λ n. more_row g h x _ (w.rows n) }
stands h _ _ (new _ s s' l e p y r m) =
    let w = stands h s l r in
    record {
      ledger = step_is s s' l (λ l. made l (Host e) p y.root) m.granted.became w.ledger;
      reports = updated (LiveReport h) l.reports y.root _ w.reports (live_error h _ e m.granted.free, tt);
      rows = w.rows;
    }
stands h _ _ (raise _ s s' l x e p y r m) =
    let w = stands h s l r in
    record {
      ledger = step_is s s' l (λ l. raised l x.root (Host e) p y.root) m.granted.became w.ledger;
      reports = updated (LiveReport h) _ y.root _ (updated (LiveReport h) l.reports x.root None w.reports tt) (live_over h _ p _ (live_error h _ e (granted _ _ _ m.granted.free).1) (w.reports x.root));
      rows = w.rows;
    }
stands h _ _ (raise_all _ s s' l b e p y r m) =
    let w = stands h s l r in
    record {
      ledger = step_is s s' l (λ l. raised_all l b.root (Host e) p y.root) m.granted.became w.ledger;
      reports = updated (LiveReport h) l.reports y.root _ w.reports (live_error h _ e (granted _ _ _ m.granted.free).1, live_row_of h l b.root w.rows);
      rows = live_without h l.rows b.root w.rows;
    }
stands h _ _ (chain _ s s' l x y r m) =
    let w = stands h s l r in
    record {
      ledger = step_is s s' l (λ l. chained l x.root y.root) m.became w.ledger;
      reports = updated (LiveReport h) _ x.root _ (updated (LiveReport h) l.reports y.root None w.reports tt) (live_under h _ _ (w.reports x.root) (live_alone h _ (w.reports y.root)));
      rows = w.rows;
    }
stands h _ _ (chain_all _ s s' l x b r m) =
    let w = stands h s l r in
    record {
      ledger = step_is s s' l (λ l. chained_all l x.root b.root) m.became w.ledger;
      reports = updated (LiveReport h) l.reports x.root _ w.reports (live_under h _ _ (w.reports x.root) (live_row_of h l b.root w.rows));
      rows = live_without h l.rows b.root w.rows;
    }
stands h _ _ (collect _ s s' l b b' x r m) =
    let w = stands h s l r in
    record {
      ledger = step_is s s' l (λ l. collected l b.root x.root) m.0.became w.ledger;
      reports = updated (LiveReport h) l.reports x.root None w.reports tt;
      rows = live_opened h _ (Some (first_root b.root x.root)) _ (live_without h l.rows b.root w.rows) (live_then h _ _ (live_row_of h l b.root w.rows) (live_alone h _ (w.reports x.root)));
    }
stands h _ _ (take _ s s' l b b' y r m) =
    let w = stands h s l r in
    record {
      ledger = step_is s s' l (λ l. taken l y.root b'.root) m.granted.became w.ledger;
      reports = updated (LiveReport h) l.reports y.root _ w.reports (live_first h _ (live_row_of h l (Some y.root) w.rows));
      rows = live_opened h _ b'.root _ (live_without h l.rows (Some y.root) w.rows) (live_rest h _ (live_row_of h l (Some y.root) w.rows));
    }
stands h _ _ (drain_children _ s s' l x b r m) =
    let w = stands h s l r in
    record {
      ledger = step_is s s' l (λ l. drained l x.root b.root) m.granted.became w.ledger;
      reports = updated (LiveReport h) l.reports x.root _ w.reports (live_bare h _ (w.reports x.root));
      rows = live_opened h l.rows b.root _ w.rows (live_children h _ (w.reports x.root));
    }
stands h _ _ (discard _ s s' l x r m) =
    let w = stands h s l r in
    record { ledger = step_is s s' l (λ l. discarded l x.root) m.became w.ledger; reports = updated (LiveReport h) l.reports x.root None w.reports tt; rows = w.rows }
stands h _ _ (discard_all _ s s' l b r m) =
    let w = stands h s l r in
    record { ledger = step_is s s' l (λ l. discarded_all l b.root) m.became w.ledger; reports = w.reports; rows = live_without h l.rows b.root w.rows }
stands h _ _ (into_chain _ s s' l x list list' c r m) =
    let w = stands h s l r in
    record { ledger = step_is s s' l (λ l. discarded l x.root) m.granted.became w.ledger; reports = updated (LiveReport h) l.reports x.root None w.reports tt; rows = w.rows }
stands h _ _ (into_exn _ s s' l c list y r b) =
    let w = stands h s l r in
    record { ledger = step_is s s' l (λ l. rebuilt l b.0.tree y.root) b.0.became w.ledger; reports = updated (LiveReport h) l.reports y.root _ w.reports b.0.flattens.live; rows = w.rows }

-- a chain is built by the ledger as it is by what the store holds
pub rebuilt_by : (before after : Store) (h : Errors) (c : ChainedError) (list : List Node) (r : Result Exn (Refusal ChainedError)) → Rebuilt before after h c list r → (l : Ledger) → Reached h before l → RebuiltBy before after l h (nodes_in c list) r
rebuilt_by before after h c list (Ok y) b l r =
    subst (λ (l : Ledger). RebuiltBy before after l h (nodes_in c list) (Ok y)) (stands h before l r).ledger (b.0.tree, b.0.flattens, b.0.only, b.0.room, b.0.fresh, b.0.became.holds)
rebuilt_by before after h c list (Err t) b l r = subst (λ (l : Ledger). RebuiltBy before after l h (nodes_in c list) (Err t)) (stands h before l r).ledger (b.0, b.1)
