-- What is asked of the tree of a report.
use Rattle.std.proofs.Common.{◌≡◌, ℕ, Bool, true, false, cond, List, [], ◌∷◌, map, Some, None, Ok, Err, Option, Result, sym, refl, ap, ◌∙◌, ap₂, subst, eqb, eq-eqb, is_some}
use Rattle.std.specs.List.{filter_map}
use Rattle.std.proofs.lemmas.Bool.{and_from, and_parts}
use Rattle.vocabulary.specs.declared.fault.HostFault.{HostFault}
use Rattle.vocabulary.specs.declared.fault.HostFault.TheVariants.{NotLive}
use Rattle.vocabulary.specs.declared.fault.StoreFault.{StoreFault}
use Rattle.vocabulary.specs.declared.fault.StoreFault.TheVariants.{NotHeld, Host as HostRefused}
use Rattle.vocabulary.specs.declared.frame_error.FrameError.{FrameError}
use Rattle.vocabulary.specs.declared.policy.Pair.{Pair}
use Rattle.model.specs.Host.{Errors, Lawful}
use Rattle.host.specs.Findings.{findings_of, retries}
use Rattle.host.specs.declared.judge.Findings.{Findings}
use Rattle.frames.specs.declared.store.Frames.{Frames}
use Rattle.frames.specs.Of.{reports_of}
use Rattle.trees.specs.Trees.{Tree}
use Rattle.trees.proofs.Options.{there}
use Rattle.nodes.specs.Flattening.{frame_list}
use Rattle.ledger.specs.Causes.{all_live, live_cause}
use Rattle.readings.specs.ByFrames.{listed_errors}
use Rattle.readings.specs.Readings.{cause, class_of, errors_of, first_not_live, report_pairs, verdict_of}
use Rattle.store.specs.Calls.{held_root, report_held}
use Rattle.store.specs.Store.{ledger_of}
use Rattle.store.specs.Token.{Exn}
use Rattle.store.specs.declared.store.Store.{Store}
use Rattle.traversal.specs.declared.order.Visit.{Visit}
use Rattle.traversal.specs.Order.{visited, Ordered}
use Rattle.traversal.specs.Survey.{or_else}
use Rattle.traversal.proofs.Reports.{order_is}
use Rattle.listed_readings.specs.Judged.{if_live, judged}
use Rattle.listed_readings.proofs.Judging.{judged_by_frames, retries_as_verdict}
use Rattle.readings.proofs.Explicit.{listed-live}
use Rattle.readings.proofs.Laws.{cause_stands, first_not_live_by_frames}
use Rattle.store.specs.Reached.{LiveReport}
use Rattle.store.proofs.Reached.{stands}
use Rattle.nodes.specs.Nodes.{LiveTree}
use Rattle.ledger.specs.Ledger.{Ledger}
use Rattle.questions.specs.Answers.{CauseByLedger, GivenByLedger, report_answer, tree_answer, unless_caused}

-- the errors of an order of frames
pub order_errors : (order : List Visit) → filter_map (λ (v : Visit). Some v.error) order ≡ listed_errors (map visited order)
order_errors [] = refl
order_errors (v ∷ vs) = ap (λ (es : List FrameError). v.error ∷ es) (order_errors vs)

-- a fault of the host, as a fault of the store
abbrev pub handed : {A : Type 0} → Result A HostFault → Result A StoreFault
handed (Ok a) = Ok a
handed (Err f) = Err (HostRefused f)

pub handed_live : {A : Type 0} (o : Option ℕ) (a : A) → handed (if_live o a) ≡ unless_caused (all_live o None) a
handed_live None a = refl
handed_live (Some e) a = refl

module _ (s : Store) (x : Exn) where
  pub root_held : (r : ℕ) → Ok r ≡ held_root s x → (report_held s x ≡ true) × (r ≡ x.root)
  root_held r q = go (report_held s x) q
    where
      go : (b : Bool) → Ok r ≡ cond b (Ok x.root) (Err NotHeld) → (b ≡ true) × (r ≡ x.root)
      go true q = (refl, let y : r ≡ x.root = cc in y)
      go false q = absurd cc

  -- the tree of the root that was answered, and the order of its frames
  pub tree_there : (r : ℕ) → Ok r ≡ held_root s x → (t : Tree) × ((ledger_of s).reports x.root ≡ Some t)
  tree_there r q = there ((ledger_of s).reports x.root) (and_parts _ _ (root_held r q).0).1

  pub root_tree : (r : ℕ) → Ok r ≡ held_root s x → (fs : Frames) → fs ≡ s.frames → (t : Tree) → (ledger_of s).reports x.root ≡ Some t → reports_of fs r ≡ Some t
  root_tree r q fs same t e = ap₂ (λ (k : Frames) (i : ℕ). reports_of k i) same (root_held r q).1 ∙ e

  pub held_live : (r : ℕ) → Ok r ≡ held_root s x → (fs : Frames) → fs ≡ s.frames → is_some (reports_of fs r) ≡ true
  held_live r q fs same = let t = tree_there r q in ap (λ (o : Option Tree). is_some o) (root_tree r q fs same t.0 t.1)

  pub order_frames : (r : ℕ) → Ok r ≡ held_root s x → (fs : Frames) → fs ≡ s.frames → (order copy : List Visit) → Ordered (reports_of fs r) order → copy ≡ order → (t : Tree) → (ledger_of s).reports x.root ≡ Some t
      → map visited copy ≡ frame_list t
  order_frames r q fs same order copy ordered is t e = order_is (reports_of fs r) order copy t (root_tree r q fs same t e) ordered is

  module _ (h : Errors) {A : Type 0} (f : Tree → A) where
    pub answered : (r : ℕ) → Ok r ≡ held_root s x → (t : Tree) → (ledger_of s).reports x.root ≡ Some t → unless_caused (live_cause h t None) (f t) ≡ report_answer s h x f
    answered r q t e = sym (ap (λ (b : Bool). cond b (tree_answer h ((ledger_of s).reports x.root) f) (Err NotHeld)) (root_held r q).0 ∙ ap (λ (o : Option Tree). tree_answer h o f) e)

    -- what is made of an answer
    module _ {B : Type 0} (g : A → B) (k : Tree → B) (same : (t : Tree) → g (f t) ≡ k t) where
      pub made : (a : A) → Ok a ≡ report_answer s h x f → Ok (g a) ≡ report_answer s h x k
      made a q = go (report_held s x) ((ledger_of s).reports x.root) q
        where
          at_tree : (t : Tree) (o : Option StoreFault) → Ok a ≡ unless_caused o (f t) → Ok (g a) ≡ unless_caused o (k t)
          at_tree t None q = let e : a ≡ f t = cc in ap Ok (ap g e ∙ same t)
          at_tree t (Some fault) q = absurd cc

          go : (b : Bool) (o : Option Tree) → Ok a ≡ cond b (tree_answer h o f) (Err NotHeld) → Ok (g a) ≡ cond b (tree_answer h o k) (Err NotHeld)
          go true (Some t) q = at_tree t (live_cause h t None) q
          go true None q = absurd cc
          go false o q = absurd cc

-- what is asked after a survey
pub surveyed : {A : Type 0} (o : Option ℕ) (n total : ℕ) (a : A) → Ok total ≡ or_else o n → Ok a ≡ if_live o a
surveyed None n total a q = refl
surveyed (Some e) n total a q = absurd cc

pub unsurveyed : {A : Type 0} (o : Option ℕ) (n : ℕ) (a : A) (f : HostFault) → Err f ≡ or_else o n → Err f ≡ if_live o a
unsurveyed None n a f q = absurd cc
unsurveyed (Some e) n a f q = let y : f ≡ NotLive e = cc in ap Err y

-- the cause of a report whose errors are all live
pub live_made : {A : Type 0} (o : Option ℕ) (a b : A) → Ok a ≡ if_live o b → a ≡ b
live_made None a b q = cc
live_made (Some e) a b q = absurd cc

module _ (s : Store) (x : Exn) (h : Errors) where
  pub caused_report : (r : ℕ) → Ok r ≡ held_root s x → (fs : Frames) → fs ≡ s.frames → (found : Result FrameError HostFault)
      → ((t : Tree) → reports_of fs r ≡ Some t → found ≡ if_live (first_not_live h (errors_of h t)) (cause h t)) → handed found ≡ report_answer s h x (cause h)
  caused_report r q fs same found is =
      let t = tree_there s x r q in
      ap handed (is t.0 (root_tree s x r q fs same t.0 t.1))
      ∙ handed_live (first_not_live h (errors_of h t.0)) (cause h t.0)
      ∙ answered s x h (cause h) r q t.0 t.1

-- what is judged along the order of a report
module _ (s : Store) (x : Exn) (h : Errors) (span : ℕ) (l : Lawful h span) (accepts : Pair → Bool) where
  pub judged_report : (r : ℕ) → Ok r ≡ held_root s x → (fs : Frames) → fs ≡ s.frames → (found : Result Findings HostFault)
      → ((t : Tree) → reports_of fs r ≡ Some t → found ≡ judged h accepts (listed_errors (frame_list t))) → handed found ≡ report_answer s h x (λ t. findings_of accepts (report_pairs h t))
  judged_report r q fs same found is =
      let t = tree_there s x r q in
      ap handed (is t.0 (root_tree s x r q fs same t.0 t.1))
      ∙ ap handed (judged_by_frames h span l accepts t.0)
      ∙ handed_live (first_not_live h (errors_of h t.0)) (findings_of accepts (report_pairs h t.0))
      ∙ answered s x h (λ t. findings_of accepts (report_pairs h t)) r q t.0 t.1

-- class and verdict are those of the findings
module _ (s : Store) (x : Exn) (h : Errors) (accepts : Pair → Bool) (f : Findings) (q : Ok f ≡ report_answer s h x (λ t. findings_of accepts (report_pairs h t))) where
  pub class_made : Ok f.class ≡ report_answer s h x (class_of h)
  class_made = made s x h _ (λ (k : Findings). k.class) (class_of h) (λ t. (retries_as_verdict h accepts t).0) f q

  pub verdict_made : (r : Bool) → r ≡ retries f → Ok r ≡ report_answer s h x (verdict_of h accepts)
  verdict_made r e = ap Ok e ∙ made s x h _ retries (verdict_of h accepts) (λ t. (retries_as_verdict h accepts t).1) f q

-- what is answered of every store is given of one that calls have led to
pub given : {A : Type 0} (h : Errors) (span : ℕ) → Lawful h span → (s : Store) (x : Exn) (f : Tree → A) (r : Result A StoreFault) → r ≡ report_answer s h x f → GivenByLedger s h x f r
given h span law s x f r q l t reached same e =
    let w = stands h s l reached in
    let there : (ledger_of s).reports x.root ≡ Some t = ap (λ (k : Ledger). k.reports x.root) w.ledger ∙ e in
    let live : LiveTree h t = subst (LiveReport h) e (w.reports x.root) in
    let none : first_not_live h (errors_of h t) ≡ None = first_not_live_by_frames h span law t ∙ listed-live h t live in
    q ∙ ap (λ (b : Bool). cond b (tree_answer h ((ledger_of s).reports x.root) f) (Err NotHeld)) (and_from (eqb x.store s.number) (is_some ((ledger_of s).reports x.root)) (eq-eqb _ _ same) (ap is_some there))
    ∙ ap (λ (o : Option Tree). tree_answer h o f) there ∙ ap (λ (o : Option ℕ). unless_caused (all_live o None) (f t)) none

pub cause_given : (h : Errors) (s : Store) (x : Exn) (r : Result FrameError StoreFault) → GivenByLedger s h x (cause h) r → CauseByLedger s h x r
cause_given h s x r g l t reached same e = (cause h t, g l t reached same e, cause_stands h t)
