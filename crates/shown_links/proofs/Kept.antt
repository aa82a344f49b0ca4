-- What stays of a list in which nothing but links is written, and what is read of it after an element is written.
use Rattle.std.proofs.Common.{◌≡◌, ◌≢◌, ℕ, ◌<◌, None, List, map, length, set, sym, ap, ◌∙◌, ⊎_elim, get_or-set_other, arith}
use Rattle.std.proofs.lemmas.Bool.{cases_eq}
use Rattle.std.proofs.lemmas.Grind.{get_or-set_at}
use Rattle.std.proofs.lemmas.List.{length-set}
use Rattle.std.proofs.Math.Seq.{map-set_same}
use Rattle.nodes.specs.declared.node.Node.{Node}
use Rattle.nodes.specs.declared.node.Plan.{Plan}
use Rattle.nodes.specs.Notes.{cleared}
use Rattle.nodes.specs.Check.{blank, node_at}
use Rattle.shown_links.specs.Linked.{plan_at, plan_in, with_plan}
use Rattle.shown_links.specs.Linking.{ParentsBefore, unlinked, with_links}
use Rattle.shown_links.proofs.Alike.{alike_at, alike_in, alike_length}

module _ (before now : List Node) (same : map unlinked now ≡ map unlinked before) where
  pub same_length : length now ≡ length before
  same_length = alike_length unlinked now before same

  pub same_node : (i : ℕ) → unlinked (node_at now i) ≡ unlinked (node_at before i)
  same_node = alike_at unlinked now before same

  pub same_parent : (i : ℕ) → (node_at now i).parent ≡ (node_at before i).parent
  same_parent i = ap (λ (x : Node). x.parent) (same_node i)

  pub same_marker : (i : ℕ) → (plan_at now i).marker ≡ (plan_at before i).marker
  same_marker i = ap (λ (x : Node). (plan_in x.note).marker) (same_node i)

  pub parents_kept : ParentsBefore before → ParentsBefore now
  parents_kept b = record { before = λ i p lt q. b.before i p (let n = same_length in omega arith) (sym (same_parent i) ∙ q) }

  pub same_cleared : map cleared now ≡ map cleared before
  same_cleared = alike_in unlinked now before same cleared

  pub same_line : (i : ℕ) → (plan_at now i).line ≡ (plan_at before i).line
  same_line i = ap (λ (x : Node). (plan_in x.note).line) (same_node i)

-- what holds of a list after one of its elements is written: all that is not its plan is as it was, and what is asked of
-- plans is as it was where the two plans have the same
module _ (xs : List Node) (i : ℕ) (x : Node) (lt : i < length xs) where
  pub written_kept : unlinked x ≡ unlinked (node_at xs i) → map unlinked (set xs i x) ≡ map unlinked xs
  written_kept q = map-set_same unlinked xs i x blank q

  pub written_other : (j : ℕ) → j ≢ i → plan_at (set xs i x) j ≡ plan_at xs j
  written_other j ne = ap (λ (z : Node). plan_in z.note) (get_or-set_other xs i j x blank ne)

  pub written_alike : {A : Type 0} (f : Plan → A) → f (plan_in x.note) ≡ f (plan_at xs i) → (j : ℕ) → f (plan_at (set xs i x) j) ≡ f (plan_at xs j)
  written_alike f q j =
      ⊎_elim (λ e. ap (λ (z : Node). f (plan_in z.note)) (get_or-set_at xs i j x blank e lt) ∙ q ∙ ap (λ (k : ℕ). f (plan_at xs k)) (sym e)) (λ e. ap f (written_other j e)) (cases_eq j i)

-- the same where a second one is written
module _ (xs : List Node) (i p : ℕ) (x y : Node) (lt : i < length xs) (less : p < i) where
  abbrev written : List Node
  written = set xs i x

  there : p < length written
  there = let n = length-set xs i x in omega arith

  second : plan_at written p ≡ plan_at xs p
  second = written_other xs i x lt p (λ e. omega arith)

  pub twice_kept : unlinked x ≡ unlinked (node_at xs i) → unlinked y ≡ with_plan (node_at written p) (with_links (plan_at xs p) None None) → map unlinked (set written p y) ≡ map unlinked xs
  twice_kept q r =
      written_kept written p y there (r ∙ ap (λ (k : Plan). with_plan (node_at written p) (with_links k None None)) (sym second)) ∙ written_kept xs i x lt q

  pub twice_first : {A : Type 0} (f : Plan → A) → f (plan_in x.note) ≡ f (plan_at xs i) → (j : ℕ) → j ≢ p → f (plan_at (set written p y) j) ≡ f (plan_at xs j)
  twice_first f q j ne = ap f (written_other written p y there j ne) ∙ written_alike xs i x lt f q j

  pub twice_second : {A : Type 0} (f : Plan → A) → f (plan_in y.note) ≡ f (plan_at xs p) → (j : ℕ) → j ≢ i → f (plan_at (set written p y) j) ≡ f (plan_at xs j)
  twice_second f q j ne = written_alike written p y there f (q ∙ ap f (sym second)) j ∙ ap f (written_other xs i x lt j ne)
