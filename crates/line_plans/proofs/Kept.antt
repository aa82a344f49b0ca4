-- What stands as it was while lines are planned.
use Rattle.std.proofs.Common.{◌≡◌, ℕ, ◌+◌, ◌<◌, ◌≤◌, Bool, List, [], ◌∷◌, length, Some, Option, refl, ap, ◌∙◌, arith}
use Rattle.nodes.specs.declared.node.Node.{Node}
use Rattle.nodes.specs.declared.node.Position.{Position}
use Rattle.nodes.specs.declared.node.Position.TheVariants.{Head, Main, Nested}
use Rattle.nodes.specs.Check.{node_at}
use Rattle.nodes.specs.Nodes.{Content}
use Rattle.nodes.specs.Rows.{Rows, none, node}
use Rattle.print_forms.specs.Layout.{Line, cause, head}
use Rattle.shown_links.specs.Linked.{Linked, content_of, plan_at, plan_in}
use Rattle.shown_links.proofs.Alike.{alike_at, alike_length}
use Rattle.line_plans.specs.Plans.{Above, Planning, PlannedAs, Plans, Stands, line_at, unlined, value_of}

-- lines that stand for levels stand before any later line
pub above_later : (xs : List Node) (j k : ℕ) (o : Option ℕ) (cs : List Bool) → j ≤ k → Above xs j o cs → Above xs k o cs
above_later xs j k o [] le e = e
above_later xs j k o (c ∷ cs) le w = let lt = w.4 in (w.0, w.1, w.2, w.3, omega arith, w.5, w.6, w.7)

module _ (xs ys : List Node) (k : ℕ) (v : Planning xs ys k) where
  pub same_length : length ys ≡ length xs
  same_length = alike_length unlined ys xs v.nodes

  same_node : (i : ℕ) → unlined (node_at ys i) ≡ unlined (node_at xs i)
  same_node = alike_at unlined ys xs v.nodes

  same_content : (i : ℕ) → content_of (node_at ys i) ≡ content_of (node_at xs i)
  same_content i = ap content_of (same_node i)

  pub same_first : (i : ℕ) → (plan_at ys i).first ≡ (plan_at xs i).first
  same_first i = ap (λ (x : Node). (plan_in x.note).first) (same_node i)

  pub same_next : (i : ℕ) → (plan_at ys i).next ≡ (plan_at xs i).next
  same_next i = ap (λ (x : Node). (plan_in x.note).next) (same_node i)

  pub still_linked : (r : Rows Content) (o : Option ℕ) → Linked xs o r → Linked ys o r
  still_linked none o e = e
  still_linked (node v c r) o w =
      let n = same_length in
      let lt = w.2 in
      (w.0, w.1, omega arith, same_content w.0 ∙ w.3, rw (same_first w.0) (still_linked c _ w.4), rw (same_next w.0) (still_linked r _ w.5))

  pub still_above : (j : ℕ) (o : Option ℕ) (cs : List Bool) → j ≤ k → Above xs j o cs → Above ys j o cs
  still_above j o [] le e = e
  still_above j o (c ∷ cs) le w =
      let lt = w.4 in
      (w.0, w.1, w.2, w.3, lt, v.lines w.0 (omega arith) ∙ w.5, w.6, still_above w.0 w.1 cs (omega arith) w.7)

  still_stands : (j : ℕ) (p : Position) (x : Line Content) → j ≤ k → Stands xs j p x → Stands ys j p x
  still_stands j p (head after n x) le w = w
  still_stands j (Head later causes) (cause x) le w = w
  still_stands j (Main n) (cause x) le w = w
  still_stands j (Nested n up follows more) (cause x) le w = (w.0, w.1, still_above j up w.0 le w.2, w.3, w.4)

  pub still_planned : (j : ℕ) (x : Line Content) → j < k → PlannedAs xs j x → PlannedAs ys j x
  still_planned j x lt w =
      let n = same_length in
      let i = w.within in
      record {
        line = w.line;
        is = v.lines j lt ∙ w.is;
        within = omega arith;
        shows = same_content w.line.node ∙ w.shows;
        stands = still_stands j w.line.position x (omega arith) w.stands;
      }

  pub still_plans : (j : ℕ) (ls : List (Line Content)) → j + length ls ≤ k → Plans xs j ls → Plans ys j ls
  still_plans j [] le w = tt
  still_plans j (x ∷ ls) le w = (still_planned j x (omega arith) w.0, still_plans (j + 1) ls (omega arith) w.1)

  -- more lines after them
  pub planning_more : (zs : List Node) (m : ℕ) → k ≤ m → Planning ys zs m → Planning xs zs k
  planning_more zs m le w = record { nodes = w.nodes ∙ v.nodes; lines = λ j lt. w.lines j (omega arith) ∙ v.lines j lt }

pub planning_none : (xs : List Node) (k : ℕ) → Planning xs xs k
planning_none xs k = record { nodes = refl; lines = λ j lt. refl }

-- a line put down
pub line_stands : (xs ys : List Node) (k i : ℕ) (v : Planning xs ys k) (p : Position) (x : Line Content) → line_at ys k ≡ Some (record { node = i; position = p }) → i < length xs
    → content_of (node_at xs i) ≡ value_of x → Stands ys k p x → PlannedAs ys k x
line_stands xs ys k i v p x is within shows stands =
    let n = same_length xs ys k v in
    record { line = record { node = i; position = p }; is = is; within = omega arith; shows = same_content xs ys k v i ∙ shows; stands = stands }
