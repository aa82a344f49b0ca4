-- Chains by names, and the other store's first report.
use Rattle.std.proofs.Common.{◌≡◌, ℕ, ◌-◌, ◌<◌, List, zero, suc, nat_lt, length, map, set, get_or, Some, None, Option, Ok, Err, Result, true, sym, refl, ap, ap₂, ◌∙◌, subst, eqb-true, arith}
use Rattle.std.proofs.lemmas.List.{get_or-map}
use Rattle.std.proofs.lemmas.Option.{get_or_from_slice_get, slice_get_within}
use Rattle.std.specs.List.{slice_get}
use Rattle.std.specs.Option.{option_map}
use Rattle.std.specs.Prelude.{IsOk}
use Rattle.std.specs.declared.vec.Vec.{Vec}
use Rattle.std.specs.declared.alloc.Global.{Global}
use Rattle.vocabulary.specs.declared.fault.StoreFault.{StoreFault}
use Rattle.vocabulary.specs.declared.fault.StoreFault.TheVariants.{NoFrames}
use Rattle.model.specs.Host.{Errors, Extends}
use Rattle.nodes.specs.declared.node.Node.{Node}
use Rattle.trees.specs.Counting.{total}
use Rattle.ledger.specs.Causes.{frame_cause, held, is_held, unless}
use Rattle.ledger.specs.Ledger.{Ledger, discarded, free, nothing, rebuilt}
use Rattle.drive_host.specs.Drive.{drive_errors}
use Rattle.store.specs.Calls as calls
use Rattle.store.specs.Calls.{report_held}
use Rattle.store.specs.Reached as reached
use Rattle.store.specs.Store.{Holds, ledger_of}
use Rattle.store.specs.Token.{Exn}
use Rattle.store.specs.declared.store.Store.{Store}
use Rattle.runs.specs.State.{Handle, State, and_named, gone, named, report_of}
use Rattle.runs.specs.Tokens.{Stood, lent, report_in, root_in, set_foreign}
use Rattle.runs.specs.Built.{ListOf}
use Rattle.runs.specs.declared.call.Name.{Name}
use Rattle.runs.specs.declared.call.Name.TheVariants.{Made, Foreign}
use Rattle.std.proofs.lemmas.Bool.{and_parts}
use Rattle.runs.proofs.Standing.{along, ledger_same}
use Rattle.runs.proofs.Handles.{handle, of_some, state_with}
use Rattle.runs.specs.Session.{state_of}
use Rattle.runs.specs.Step.{BuildCause, CallStep, NewRoot, Of}
use Rattle.runs.specs.declared.call.Answer.TheVariants.{Chain, Report}
use Rattle.runs.specs.declared.call.Call.TheVariants.{IntoChain, IntoExn}
use Rattle.runs.specs.declared.session.Session.{Session}
use Rattle.store.specs.Chains.{ChainOf, TreeBuilt, flatten_cause, list_cause_of, nodes_in}
use Rattle.store.specs.declared.chain.ChainedError.{ChainedError}
use Rattle.store.specs.Calls.{Granted}
use Rattle.nodes.specs.Begins.{Flattens}
use Rattle.nodes.specs.Flattening.{flattening}
use Rattle.trees.specs.Trees.{Tree}

abbrev pub items_of : Option (Vec Node Global) → Option (List Node)
items_of o = option_map (λ v. v.items) o

pub chain_named : (cs : List (Option (Vec Node Global))) (i : ℕ) (v : Vec Node Global) → slice_get cs i ≡ Some (Some v) → named (map items_of cs) i ≡ Some v.items
chain_named cs i v e = get_or-map items_of cs i None None (slice_get_within cs i (Some v) e) ∙ ap items_of (get_or_from_slice_get cs i (Some v) None e)

pub empty_stands : (h : Errors) (s : Store) → Holds s nothing → Stood h s
empty_stands h s e = along h s nothing e (reached.empty h s e)

total_none : (n : ℕ) → total n (λ j. 0) ≡ 0
unfolding total
total_none zero = refl
total_none (suc n) = let a = total_none n in omega arith

free_all : free nothing ≡ 1024
free_all = ap (λ (n : ℕ). 1024 - n) (total_none 1024)

no_cause : (s : Store) → Holds s nothing → frame_cause (ledger_of s) drive_errors 0 ≡ None
no_cause s e = ap (λ l. frame_cause l drive_errors 0) (ledger_same s nothing e) ∙ ap (λ (n : ℕ). unless (nat_lt 0 n) (NoFrames 1) None) free_all

pub first_made : (s s' : Store) (r : Result Exn StoreFault) → Holds s nothing → calls.Made s s' drive_errors 0 0 r → IsOk r
first_made s s' (Ok y) e m = refl
first_made s s' (Err f) e m = let n = no_cause s e in let o = m.first in absurd cc

-- a chain that becomes a report
pub into_exn_step : (h : Errors) (s : Session) (s' : State) (c : ℕ) (xs : List Node) (after : Store) (n : ℕ) (root : ℕ) → named (map items_of s.chains.items) c ≡ Some xs → (b : TreeBuilt s.store after h xs n) → root ≡ n → root < 1024
    → s' ≡ state_with after.number s.other.number (root_in s.reports.foreign) h (ledger_of after) (and_named s.reports.names.items n) s.baskets.names.items (set (map items_of s.chains.items) c None)
    → CallStep (state_of h s) (IntoExn c) (Report root) s'
into_exn_step h s s' c xs after n root e b q w p = subst (λ m. CallStep (state_of h s) (IntoExn c) (Report m) s') (sym q) (
  of_some _ xs (λ _. Unit {0}) e tt,
  of_some _ xs (λ (ys : List Node). BuildCause (state_of h s) ys None) e (b.tree, b.flattens, b.room),
  of_some _ xs (λ (ys : List Node). (t : Tree) × Flattens h ys t × ((u : Tree) → flattening h u ≡ ys → u ≡ t) × NewRoot (ledger_of s.store) n
      × (s' ≡ state_with s.store.number s.other.number (root_in s.reports.foreign) h (rebuilt (ledger_of s.store) t n) (and_named s.reports.names.items n) s.baskets.names.items (set (map items_of s.chains.items) c None))) e
      (b.tree, b.flattens, b.only, (subst (λ (m : ℕ). m < 1024) q w, b.fresh), p ∙ ap₂ (λ (m : ℕ) (l : Ledger). state_with m s.other.number (root_in s.reports.foreign) h l (and_named s.reports.names.items n) s.baskets.names.items (set (map items_of s.chains.items) c None)) b.became.number (ledger_same after _ b.became.holds)),
)

pub chain_at : (cs ds : List (Option (Vec Node Global))) (i : ℕ) (o : Option (Vec Node Global)) (v : Vec Node Global) (xs : List Node) → ds ≡ cs → i < length ds → ((d : Option (Vec Node Global)) → o ≡ get_or ds i d) → o ≡ Some v → xs ≡ v.items
    → named (map items_of cs) i ≡ Some xs
chain_at cs ds i o v xs e u w q p =
    ap (λ (zs : List (Option (Vec Node Global))). named (map items_of zs) i) (sym e) ∙ get_or-map items_of ds i None None u ∙ ap items_of (sym (w None) ∙ q) ∙ ap Some (sym p)

pub other_parts : {n o f f' : ℕ} {h : Errors} {l : Ledger} {r r' : List (Option ℕ)} {b : List (Option (Option ℕ))} {k k' : List (Option (List Node))} → f' ≡ f → r' ≡ r → k' ≡ k → state_with n o f' h l r' b k' ≡ state_with n o f h l r b k
other_parts {n} {o} {f} {f'} {h} {l} {r} {r'} {b} {k} {k'} ef er ek = ap (λ x. state_with n o x h l r' b k') ef ∙ ap₂ (λ x y. state_with n o f h l x b y) er ek

-- a call that is granted leaves the other store's report
pub foreign_stays : (s : Session) (name : Name) (x : Exn) → report_held s.store x ≡ true → lent s.reports.names.items s.reports.table.tokens.items s.reports.foreign name ≡ Some x → set_foreign s.reports.foreign name None ≡ s.reports.foreign
foreign_stays s (Made i) x v q = refl
foreign_stays s Foreign x v q = absurd (go s.reports.foreign s.foreign_kept q)
  where
    go : (o : Option Exn) → report_in s.other o ≡ true → o ≡ Some x → ⊥
    go None f q = cc
    go (Some y) f q =
        let e : y ≡ x = cc in
        s.apart (sym (eqb-true y.store s.other.number (and_parts _ _ f).0) ∙ ap (λ (z : Exn). z.store) e ∙ eqb-true x.store s.store.number (and_parts _ _ v).0)

abbrev pub flattened_state : Errors → Session → Name → ℕ → List Node → State
flattened_state h s name r xs = state_with s.store.number s.other.number (root_in s.reports.foreign) h (discarded (ledger_of s.store) r) (gone s.reports.names.items name) s.baskets.names.items (and_named (map items_of s.chains.items) xs)

-- a report that becomes a chain
pub into_chain_step : (h : Errors) (s : Session) (s' : State) (name : Name) (room : ℕ) (x : Exn) (after : Store) (count : ℕ) (v : List Node) → report_of (state_of h s) name ≡ Some (handle x) → (b : ListOf s.store after h x room v) → count ≡ length v
    → s' ≡ state_with after.number s.other.number (root_in s.reports.foreign) h (ledger_of after) (gone s.reports.names.items name) s.baskets.names.items (and_named (map items_of s.chains.items) v)
    → CallStep (state_of h s) (IntoChain name room) (Chain count) s'
into_chain_step h s s' name room x after count v e b q p = (
  of_some _ (handle x) (λ _. Unit {0}) e tt,
  of_some _ (handle x) (λ (y : Handle ℕ). None ≡ held (is_held s.store.number (ledger_of s.store) y.store y.root) (list_cause_of h ((ledger_of s.store).reports y.root) room)) e (sym b.granted.free),
  of_some _ (handle x) (λ (y : Handle ℕ). Of ((ledger_of s.store).reports y.root) (λ t. (count ≡ length (flattening h t)) × ((g : Errors) → Extends h g → Flattens g (flattening h t) t) × (s' ≡ flattened_state h s name y.root (flattening h t)))) e
      (of_some _ b.tree (λ t. (count ≡ length (flattening h t)) × ((g : Errors) → Extends h g → Flattens g (flattening h t) t) × (s' ≡ flattened_state h s name x.root (flattening h t))) b.report (
        q ∙ ap length b.nodes,
        λ g w. subst (λ (xs : List Node). Flattens g xs b.tree) b.nodes (b.again g w),
        p
            ∙ ap₂ (λ (m : ℕ) (l : Ledger). state_with m s.other.number (root_in s.reports.foreign) h l (gone s.reports.names.items name) s.baskets.names.items (and_named (map items_of s.chains.items) v)) b.granted.became.number (ledger_same after _ b.granted.became.holds)
            ∙ ap (λ (xs : List Node). flattened_state h s name x.root xs) b.nodes,
      )),
)

-- a chain that was written, as a list
pub list_of : (before after : Store) (h : Errors) (x : Exn) (list list' : List Node) (c : ChainedError) → ChainOf before after h x list list' c → (room : ℕ) → room ≡ length list → (xs : List Node) → xs ≡ nodes_in c list'
    → ListOf before after h x room xs
list_of before after h x list list' c k room r xs e = record {
  tree = k.tree;
  report = k.report;
  granted = subst (λ (n : ℕ). Granted before after (flatten_cause before h x n) (discarded (ledger_of before) x.root)) (sym r) k.granted;
  nodes = e ∙ sym (k.again h (λ e m q. q)).lists;
  again = λ g w. subst (λ (ys : List Node). Flattens g ys k.tree) (sym e) (k.again g w);
}
