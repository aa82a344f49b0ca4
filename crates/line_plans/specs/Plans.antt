-- The lines of a printed tree, planned: how each stands in the list.
use Rattle.std.specs.Prelude.{◌≡◌, ℕ, ◌+◌, ◌<◌, Bool, not, List, [], ◌∷◌, map, length, Some, None, Option, ◌==◌}
use Rattle.nodes.specs.declared.node.Line.{Line as Planned}
use Rattle.nodes.specs.declared.node.Node.{Node}
use Rattle.nodes.specs.declared.node.Plan.{Plan}
use Rattle.nodes.specs.declared.node.Position.{Position}
use Rattle.nodes.specs.declared.node.Position.TheVariants.{Head, Main, Nested}
use Rattle.nodes.specs.Check.{node_at}
use Rattle.nodes.specs.Nodes.{Content}
use Rattle.print_forms.specs.Layout.{Cause, Line, columns, continues, cause, head, label, number}
use Rattle.shown_links.specs.Linked.{content_of, plan_at, plan_in, with_plan}

-- the line at an index
abbrev pub line_at : List Node → ℕ → Option Planned
line_at xs k = (plan_at xs k).line

-- a plan without its line
abbrev pub unlined : Node → Node
unlined x =
    let p : Plan = plan_in x.note in
    with_plan x (record { marker = p.marker; first = p.first; next = p.next; line = None })

-- lines are planned from `k` on: nothing but lines changes, and none before `k`
pub record Planning (before now : List Node) (k : ℕ) : Type 0 where
  pub nodes : map unlined now ≡ map unlined before
  pub lines : (j : ℕ) → j < k → line_at now j ≡ line_at before j

-- the column of a line at its own level, and the line that stands for the level above
abbrev pub Column : Position → Bool → Option ℕ → Type 0
Column (Head later causes) c above = ⊥
Column (Main n) c above = ⊥
Column (Nested n up follows more) c above = (follows ≡ c) × (up ≡ above)

-- from a line on, which stands before `k`, the lines that stand for the levels have these columns, the deepest first
abbrev pub Above : List Node → ℕ → Option ℕ → List Bool → Type 0
Above xs k o [] = o ≡ None
Above xs k o (c ∷ cs) =
    (j : ℕ) × (up : Option ℕ) × (l : Planned) × (o ≡ Some j) × (j < k) × (line_at xs j ≡ Some l) × Column l.position c up × Above xs j up cs

-- a cause stands so, in the line `k`
abbrev pub CauseStands : List Node → ℕ → Position → Cause Content → Type 0
CauseStands xs k (Head later causes) x = ⊥
CauseStands xs k (Main n) x = (columns x.path ≡ []) × (n ≡ number x.path)
CauseStands xs k (Nested n up follows more) x =
    (cs : List Bool) × (columns x.path ≡ follows ∷ cs) × Above xs k up cs × (n ≡ label x) × (more ≡ continues x)

-- a head stands so
abbrev pub HeadStands : Position → Bool → ℕ → Type 0
HeadStands (Head later causes) after n = (later ≡ after) × (causes ≡ not (n == 0))
HeadStands (Main m) after n = ⊥
HeadStands (Nested m up follows more) after n = ⊥

abbrev pub value_of : Line Content → Content
value_of (head after n v) = v
value_of (cause x) = x.value

abbrev pub Stands : List Node → ℕ → Position → Line Content → Type 0
Stands xs k p (head after n v) = HeadStands p after n
Stands xs k p (cause x) = CauseStands xs k p x

-- the line at an index is planned as a line of the layout
pub record PlannedAs (xs : List Node) (k : ℕ) (x : Line Content) : Type 0 where
  pub line : Planned
  pub is : line_at xs k ≡ Some line
  pub within : line.node < length xs
  pub shows : content_of (node_at xs line.node) ≡ value_of x
  pub stands : Stands xs k line.position x

-- the lines from `k` on are planned as those of the layout
abbrev pub Plans : List Node → ℕ → List (Line Content) → Type 0
Plans xs k [] = Unit {0}
Plans xs k (x ∷ xs') = PlannedAs xs k x × Plans xs (k + 1) xs'
