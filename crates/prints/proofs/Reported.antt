-- What a print of a report answers and leaves.
use Rattle.std.proofs.Common.{◌≡◌, ℕ, ◌<◌, ◌≤◌, Bool, true, false, cond, eqb, leb, eq-eqb, List, ◌++◌, length, drop, is_some, Some, None, Ok, Err, Option, Result, sym, refl, ap, ap₂, ◌∙◌, subst, arith}
use Rattle.std.proofs.lemmas.Bool.{and_from, and_parts}
use Rattle.std.proofs.lemmas.Bool.Decides.{nat_tests}
use Rattle.std.proofs.lemmas.Option.{none-some, same_Some}
use Rattle.vocabulary.specs.declared.fault.PrintFault.{PrintFault}
use Rattle.vocabulary.specs.declared.fault.PrintFault.TheVariants.{BufferTooShort}
use Rattle.vocabulary.specs.declared.fault.StoreFault.{StoreFault}
use Rattle.vocabulary.specs.declared.fault.StoreFault.TheVariants.{NotHeld, ListTooShort}
use Rattle.model.specs.Host.{Errors, Lawful}
use Rattle.trees.specs.Trees.{Tree}
use Rattle.trees.proofs.Options.{there}
use Rattle.nodes.specs.declared.node.Node.{Node}
use Rattle.nodes.specs.Flattening.{flattening}
use Rattle.nodes.specs.Nodes.{LiveTree}
use Rattle.ledger.specs.Causes.{all_live, held, list_cause, unless}
use Rattle.ledger.specs.Ledger.{Ledger}
use Rattle.readings.specs.Readings.{errors_of, first_not_live}
use Rattle.readings.proofs.Explicit.{listed-live}
use Rattle.readings.proofs.Laws.{first_not_live_by_frames}
use Rattle.print_forms.specs.Prints.{tree_print}
use Rattle.store.specs.Calls.{held_root, report_held}
use Rattle.store.specs.Chains.{flatten_cause, list_cause_of}
use Rattle.store.specs.Reached.{LiveReport}
use Rattle.store.specs.Store.{ledger_of}
use Rattle.store.specs.Token.{Exn}
use Rattle.store.specs.declared.store.Store.{Store}
use Rattle.store.proofs.Reached.{stands}
use Rattle.buffers.specs.Printed.{capped}
use Rattle.prints.specs.Puts.{TextPrinted}
use Rattle.prints.specs.TreePrints.{TreeByLedger, TreePrinted, buffer_cause, buffer_cause_of, flattened_onto, list_after, or_then, print_cause, unless_refused}

module _ (s : Store) (x : Exn) where
  -- the report whose root was answered is held
  root_held : (r : ℕ) → Ok r ≡ held_root s x → (report_held s x ≡ true) × (r ≡ x.root)
  root_held r q = go (report_held s x) q
    where
      go : (b : Bool) → Ok r ≡ cond b (Ok x.root) (Err NotHeld) → (b ≡ true) × (r ≡ x.root)
      go true q = (refl, let y : r ≡ x.root = cc in y)
      go false q = absurd cc

  -- it has a tree
  pub tree_there : (r : ℕ) → Ok r ≡ held_root s x → (report_held s x ≡ true) × (r ≡ x.root) × ((t : Tree) × ((ledger_of s).reports x.root ≡ Some t))
  tree_there r q = let b = root_held r q in (b.0, b.1, there ((ledger_of s).reports x.root) (and_parts _ _ b.0).1)

  module _ (h : Errors) (t : Tree) (is : (ledger_of s).reports x.root ≡ Some t) (here : report_held s x ≡ true) (room : ℕ) (fits : list_cause h t room ≡ None) where
    pub no_cause : flatten_cause s h x room ≡ None
    no_cause = ap (λ (b : Bool). held b (list_cause_of h ((ledger_of s).reports x.root) room)) here ∙ ap (λ (o : Option Tree). list_cause_of h o room) is ∙ fits

    causes : (bytes : ℕ) → print_cause s h x room bytes ≡ buffer_cause (tree_print h t) bytes
    causes bytes = ap₂ (λ (o : Option StoreFault) (u : Option Tree). or_then o (buffer_cause_of h u bytes)) no_cause is

    buffer_fits : (text : List ℕ) (bytes : ℕ) → length text ≤ bytes → buffer_cause text bytes ≡ None
    buffer_fits text bytes le = grind (arith, nat_tests)

    buffer_short : (text : List ℕ) (bytes : ℕ) → bytes < length text → buffer_cause text bytes ≡ Some (BufferTooShort (length text))
    buffer_short text bytes lt = grind (arith, nat_tests)

    -- what is printed of the tree is printed of the report
    pub tree_printed : length (tree_print h t) ≤ 18446744073709551615 → (old new : List ℕ) (r : Result ℕ PrintFault) → TextPrinted (tree_print h t) old new r → TreePrinted s h x room old new r
    tree_printed long old new (Ok n) p = (
      causes (length old) ∙ buffer_fits (tree_print h t) (length old) p.0,
      λ u e. subst (λ (v : Tree). (n ≡ length (tree_print h v)) × (new ≡ tree_print h v ++ drop n old)) (same_Some _ _ (sym is ∙ e)) (p.1, p.2),
    )
    tree_printed long old new (Err f) p =
        let exact : length (tree_print h t) ≡ capped (length (tree_print h t)) = omega arith in
        (causes (length old) ∙ buffer_short (tree_print h t) (length old) p.1 ∙ ap (λ (k : ℕ). Some (BufferTooShort k)) exact ∙ ap Some (sym p.0), p.2)

    pub list_is : (list list' : List Node) → room ≡ length list → list' ≡ flattening h t ++ drop (length (flattening h t)) list → list' ≡ list_after s h x list
    list_is list list' long e =
        e ∙ sym (ap₂ (λ (o : Option StoreFault) (u : Option Tree). unless_refused o (flattened_onto h u list) list) (ap (λ (k : ℕ). flatten_cause s h x k) (sym long) ∙ no_cause) is)

-- a tree whose errors are all live is flattened where there is room
fits_live : (h : Errors) (t : Tree) (room : ℕ) → first_not_live h (errors_of h t) ≡ None → length (flattening h t) ≤ room → list_cause h t room ≡ None
fits_live h t room live le =
    ap (λ (o : Option ℕ). all_live o (unless (leb (length (flattening h t)) room) (ListTooShort (length (flattening h t))) None)) live ∙ grind (arith, nat_tests)

-- what is answered of every store holds by the ledger
pub by_ledger : (h : Errors) (span : ℕ) → Lawful h span → (s : Store) (x : Exn) (list list' : List Node) (old new : List ℕ) (r : Result ℕ PrintFault) → TreePrinted s h x (length list) old new r → list' ≡ list_after s h x list
    → TreeByLedger s h x list list' old new r
by_ledger h span law s x list list' old new r p q l t reached same e nodes bytes =
    let w = stands h s l reached in
    let is : (ledger_of s).reports x.root ≡ Some t = ap (λ (k : Ledger). k.reports x.root) w.ledger ∙ e in
    let here : report_held s x ≡ true = and_from (eqb x.store s.number) (is_some ((ledger_of s).reports x.root)) (eq-eqb _ _ same) (ap is_some is) in
    let live : LiveTree h t = subst (LiveReport h) e (w.reports x.root) in
    let fits = fits_live h t (length list) (first_not_live_by_frames h span law t ∙ listed-live h t live) nodes in
    let free : print_cause s h x (length list) (length old) ≡ None = causes s x h t is here (length list) fits (length old) ∙ buffer_fits s x h t is here (length list) fits (tree_print h t) (length old) bytes in
    let a = go r p is free in
    (a.0, a.1, q ∙ ap₂ (λ (o : Option StoreFault) (u : Option Tree). unless_refused o (flattened_onto h u list) list) (no_cause s x h t is here (length list) fits) is)
  where
    go : (r : Result ℕ PrintFault) → TreePrinted s h x (length list) old new r → (ledger_of s).reports x.root ≡ Some t → print_cause s h x (length list) (length old) ≡ None → (r ≡ Ok (length (tree_print h t))) × (new ≡ tree_print h t ++ drop (length (tree_print h t)) old)
    go (Ok n) p is free = let m = p.1 t is in (ap Ok m.0, m.1 ∙ ap (λ (k : ℕ). tree_print h t ++ drop k old) m.0)
    go (Err f) p is free = absurd (none-some f (sym free ∙ p.0))
