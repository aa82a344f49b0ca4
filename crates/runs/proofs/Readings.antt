-- Readings of reports of a store that calls have led to.
use Rattle.std.proofs.Common.{◌≡◌, ℕ, ◌<◌, ◌≤◌, Bool, true, false, cond, List, ◌++◌, length, is_some, is_ok, IsOk, [], drop_of_length-le, Some, None, Ok, Err, Option, Result, sym, ap, ◌∙◌, subst, eqb, eq-eqb, arith, nat_le, append-nil, le-leb, nat_lt}
use mathlib.Core.Logic.{∥∥₁_elim}
use mathlib.Core.Bool.{Bool-set}
use Rattle.std.proofs.lemmas.Bool.{and_from, lt-leb}
use Rattle.vocabulary.specs.declared.fault.StoreFault.{StoreFault}
use Rattle.vocabulary.specs.declared.fault.StoreFault.TheVariants.{ListTooShort}
use Rattle.model.specs.Host.{Errors, Lawful}
use Rattle.trees.specs.Trees.{Tree}
use Rattle.nodes.specs.declared.node.Node.{Node}
use Rattle.nodes.specs.Flattening.{flattening}
use Rattle.nodes.specs.Nodes.{LiveTree}
use Rattle.nodes.proofs.Rebuild.{flattening-length}
use Rattle.ledger.specs.Causes.{all_live, held, unless}
use Rattle.ledger.specs.Ledger.{Ledger}
use Rattle.readings.proofs.Explicit.{listed-live}
use Rattle.readings.proofs.Laws.{first_not_live_by_frames}
use Rattle.store.specs.Chains.{flatten_cause, list_cause_of}
use Rattle.store.specs.Reached.{LiveReport}
use Rattle.store.specs.Store.{ledger_of}
use Rattle.store.specs.Token.{Exn}
use Rattle.store.specs.declared.store.Store.{Store}
use Rattle.store.proofs.Reached.{stands}
use Rattle.chains.specs.Iter.{ReportNodes}
use Rattle.questions.specs.Answers.{GivenByLedger}
use Rattle.vocabulary.specs.declared.fault.PrintFault.{PrintFault}
use Rattle.vocabulary.specs.declared.fault.PrintFault.TheVariants.{BufferTooShort, Host as Raised, Store as Kept}
use Rattle.print_forms.specs.Prints.{tree_print}
use Rattle.prints.specs.TreePrints.{TreePrinted, buffer_cause_of, flattened_onto, list_after, or_then, print_cause, unless_refused}
use Rattle.runs.specs.Held.{Held}
use Rattle.runs.specs.Printed.{bytes_needed}

pub ok_same : {A : Type 0} {a b : A} → ◌≡◌ {A = Result A StoreFault} (Ok a) (Ok b) → a ≡ b
ok_same e = cc

module _ (h : Errors) (s : Store) (x : Exn) where
  -- what is asked is answered by the tree
  pub given_is : {A : Type 0} (f : Tree → A) (r : Result A StoreFault) → GivenByLedger s h x f r → (t : Tree) → Held h s x t → r ≡ Ok (f t)
  given_is f r g t w = g w.ledger t w.reached w.store w.tree

  pub given_ok : {A : Type 0} (f : Tree → A) (r : Result A StoreFault) → GivenByLedger s h x f r → ∥ ((t : Tree) × Held h s x t) ∥₁ → IsOk r
  given_ok f r g w = ∥∥₁_elim w (Bool-set _ _) (λ u. ap is_ok (given_is f r g u.0 u.1))

  module _ (span : ℕ) (law : Lawful h span) (t : Tree) (w : Held h s x t) where
    pub there : (ledger_of s).reports x.root ≡ Some t
    there = ap (λ (k : Ledger). k.reports x.root) (stands h s w.ledger w.reached).ledger ∙ w.tree

    pub live : LiveTree h t
    live = subst (LiveReport h) w.tree ((stands h s w.ledger w.reached).reports x.root)

    -- only want of room keeps a report from being listed
    room_cause : (room : ℕ) → flatten_cause s h x room ≡ unless (nat_le (length (flattening h t)) room) (ListTooShort (length (flattening h t))) None
    room_cause room =
        ap (λ (b : Bool). held b (list_cause_of h ((ledger_of s).reports x.root) room)) (and_from (eqb x.store s.number) (is_some ((ledger_of s).reports x.root)) (eq-eqb _ _ w.store) (ap is_some there))
        ∙ ap (λ (o : Option Tree). list_cause_of h o room) there
        ∙ ap (λ (o : Option ℕ). all_live o (unless (nat_le (length (flattening h t)) room) (ListTooShort (length (flattening h t))) None)) (first_not_live_by_frames h span law t ∙ listed-live h t live)

    -- an empty list is refused with the number of nodes
    pub counted : (r : Result ℕ StoreFault) (list : List Node) → ReportNodes s h x [] list r → r ≡ Err (ListTooShort (length (flattening h t)))
    counted r list q = go r q (sym (room_cause 0 ∙ ap (λ (b : Bool). unless b (ListTooShort (length (flattening h t))) None) (lt-leb (length (flattening h t)) 0 some_nodes)))
      where
        some_nodes : 0 < length (flattening h t)
        some_nodes = let c = flattening-length h t in omega arith

        go : (r : Result ℕ StoreFault) → ReportNodes s h x [] list r → Some (ListTooShort (length (flattening h t))) ≡ flatten_cause s h x 0 → r ≡ Err (ListTooShort (length (flattening h t)))
        go (Ok n) q e = absurd (let f : Some (ListTooShort (length (flattening h t))) ≡ None = e ∙ q.0 in cc)
        go (Err f) q e = let g : Some f ≡ Some (ListTooShort (length (flattening h t))) = sym (e ∙ q.0) in cc

    -- and a list with so many places takes them
    pub listed : (r : Result ℕ StoreFault) (before after : List Node) → length before ≡ length (flattening h t) → ReportNodes s h x before after r → after ≡ flattening h t
    listed r before after e q = go r q (room_cause (length before) ∙ ap (λ (b : Bool). unless b (ListTooShort (length (flattening h t))) None) (le-leb (length (flattening h t)) (length before) (omega arith)))
      where
        go : (r : Result ℕ StoreFault) → ReportNodes s h x before after r → flatten_cause s h x (length before) ≡ None → after ≡ flattening h t
        go (Ok n) q c = let k = q.1 t there in k.1 ∙ ap (λ (xs : List Node). flattening h t ++ xs) (drop_of_length-le before {i = n} (let m = k.0 in omega arith)) ∙ append-nil (flattening h t)
        go (Err f) q c = absurd (let g : Some f ≡ None = sym q.0 ∙ c in cc)

    -- a list that is its flattening has room for it
    pub no_cause : (list : List Node) → list ≡ flattening h t → flatten_cause s h x (length list) ≡ None
    no_cause list e = room_cause (length list) ∙ ap (λ (b : Bool). unless b (ListTooShort (length (flattening h t))) None) (le-leb (length (flattening h t)) (length list) (let m = ap length e in omega arith))

    -- and a print leaves it as it is
    pub list_kept : (list : List Node) → list ≡ flattening h t → list_after s h x list ≡ list
    list_kept list e =
        ap (λ (o : Option StoreFault). unless_refused o (flattened_onto h ((ledger_of s).reports x.root) list) list) (no_cause list e)
        ∙ ap (λ (o : Option Tree). flattened_onto h o list) there
        ∙ ap (λ (xs : List Node). flattening h t ++ xs) (drop_of_length-le list {i = length (flattening h t)} (let m = ap length e in omega arith))
        ∙ append-nil (flattening h t)
        ∙ sym e

    -- a buffer for which an empty one was refused is no longer than the print
    short_enough : (r : Result ℕ PrintFault) (list : List Node) (out : List ℕ) → list ≡ flattening h t → TreePrinted s h x (length list) [] out r → bytes_needed r ≤ length (tree_print h t)
    short_enough (Ok n) list out e p = omega arith
    short_enough (Err (Raised f)) list out e p = omega arith
    short_enough (Err (Kept f)) list out e p = omega arith
    short_enough (Err (BufferTooShort n)) list out e p = go (nat_lt 0 (length (tree_print h t))) (sym (is_caused) ∙ p.0)
      where
        is_caused : print_cause s h x (length list) 0 ≡ cond (nat_lt 0 (length (tree_print h t))) (Some (BufferTooShort (length (tree_print h t)))) None
        is_caused = ap (λ (o : Option StoreFault). or_then o (buffer_cause_of h ((ledger_of s).reports x.root) 0)) (no_cause list e) ∙ ap (λ (o : Option Tree). buffer_cause_of h o 0) there

        go : (b : Bool) → cond b (Some (BufferTooShort (length (tree_print h t)))) None ≡ Some (BufferTooShort n) → n ≤ length (tree_print h t)
        go true q = let same : n ≡ length (tree_print h t) = cc in omega arith
        go false q = absurd (let no : ◌≡◌ {A = Option PrintFault} None (Some (BufferTooShort n)) = q in cc)

    -- and is then filled by it
    pub filled : (r : Result ℕ PrintFault) (list : List Node) (out old new : List ℕ) (n room : ℕ) → list ≡ flattening h t → TreePrinted s h x (length list) [] out r → length old ≡ bytes_needed r → TreePrinted s h x room old new (Ok n) → new ≡ tree_print h t
    filled r list out old new n room e p q w =
        let short = short_enough r list out e p in
        let k = w.1 t there in
        k.1 ∙ ap (λ (bs : List ℕ). tree_print h t ++ bs) (drop_of_length-le old {i = n} (let m = k.0 in omega arith)) ∙ append-nil (tree_print h t)
