-- What is known while the causes beneath a node are planned.
use Rattle.std.specs.Prelude.{◌≡◌, ℕ, ◌+◌, ◌<◌, ◌≤◌, Bool, false, cond, List, [], ◌∷◌, ◌++◌, length, is_some, Some, None, Option}
use Rattle.nodes.specs.declared.node.Node.{Node}
use Rattle.nodes.specs.Nodes.{Content}
use Rattle.nodes.specs.Rows.{Rows, count}
use Rattle.print_forms.specs.Layout.{Cause, Path, at_branch, at_only_cause, cause_lines, causes_of, columns, continues, number}
use Rattle.print_forms.specs.Shown.{width}
use Rattle.shown_links.specs.Linked.{Linked, plan_at}
use Rattle.line_plans.specs.Plans.{Above, Plans}

-- a link goes nowhere, or to a node of the list
abbrev pub Within : List Node → Option ℕ → Type 0
Within xs None = Unit {0}
Within xs (Some i) = i < length xs

-- the node to which a link goes, if no other one follows beside it
abbrev pub only_cause : List Node → Option ℕ → Option ℕ
only_cause xs None = None
only_cause xs (Some i) = cond (is_some (plan_at xs i).next) None (Some i)

-- the causes beneath a head or a branch are linked, and there is room for their lines from `k` on; the line of the branch, none
-- for a head, stands for its level
pub record Beneath (xs : List Node) (k : ℕ) (o branch : Option ℕ) (r : Rows Content) (p : Path) : Type 0 where
  pub linked : Linked xs o r
  -- the way leads to a head or a branch
  pub top : at_only_cause p ≡ false
  pub above : Above xs k branch (columns p)
  pub room : k + count r ≤ length xs

-- the columns of a run of only causes: none on the main chain, which stands beneath a head
abbrev pub RunColumns : List Node → ℕ → Option ℕ → List Bool → Type 0
RunColumns xs k None cs = cs ≡ []
RunColumns xs k (Some j) cs = (up : List Bool) × (cs ≡ false ∷ up) × Above xs k (Some j) up

-- an only cause in a run beneath a head or a branch
pub record InRun (xs : List Node) (k : ℕ) (branch : Option ℕ) (n : ℕ) (more : Bool) (x : Cause Content) : Type 0 where
  pub columns : RunColumns xs k branch (columns x.path)
  pub level : at_branch x.path ≡ false
  pub number : number x.path ≡ n
  pub continues : continues x ≡ more

-- the first causes of a row, and all beneath them, are planned, in the lines from `start` to `line`; the others are linked, and
-- have places from `i` on beneath the node to which a way leads
pub record Reached (xs : List Node) (start line : ℕ) (o above : Option ℕ) (i : ℕ) (r : Rows Content) (p : Path) : Type 0 where
  pub way : Path
  pub rest : Rows Content
  pub done : List (Cause Content)
  pub linked : Linked xs o rest
  -- none of them is an only cause
  pub fork : width rest ≡ 1 → 0 < i
  pub level : Above xs line above (columns way)
  pub causes : causes_of p 0 r ≡ done ++ causes_of way i rest
  pub lines : line ≡ start + length done
  pub places : i ≤ line
  pub room : line + count rest ≡ start + count r
  pub plans : Plans xs start (cause_lines done)
