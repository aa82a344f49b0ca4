-- Where each node that is shown stands in a printed tree, by the way from the head down to it.
use Rattle.std.specs.Prelude.{ℕ, ◌+◌, Bool, true, false, cond, not, ◌&&◌, ◌||◌, List, [], ◌∷◌, ◌++◌, Some, None, Option, ◌==◌, nat_lt}
use Rattle.nodes.specs.Rows.{Rows, none, node}
use Rattle.print_forms.specs.Shown.{width}

-- a step down from a node to one of the causes shown beneath it: which one it is, and how many come after it
pub record Step : Type 0 where
  pub index : ℕ
  pub after : ℕ

-- the steps from the head to a node, the last one first; none for the head
abbrev pub Path : Type 0
Path = List Step

-- a branch is one of several causes of a node
abbrev pub is_branch : Step → Bool
is_branch s = nat_lt 0 (s.index + s.after)

-- whether a way ends at a branch
abbrev pub at_branch : Path → Bool
at_branch [] = false
at_branch (s ∷ up) = is_branch s

-- whether it ends at an only cause
abbrev pub at_only_cause : Path → Bool
at_only_cause [] = false
at_only_cause (s ∷ up) = not (is_branch s)

-- The level of a node has the column of each level above it, and one of its own. A branch stands one level deeper than its
-- cause, and its column tells whether another one follows there. The only cause of a branch stands one level deeper than the
-- branch, and nothing follows in its column. The only cause of the head stands on the main chain, which has no column. Any
-- other only cause stands on the level of the node above it. The column of the deepest level comes first.
abbrev pub columns : Path → List Bool
columns [] = []
columns (s ∷ up) = cond (is_branch s) (nat_lt 0 s.after ∷ columns up) (cond (at_branch up) (false ∷ columns up) (columns up))

-- the number of a branch is its place among its siblings; only causes are counted from 0 along their level
abbrev pub number : Path → ℕ
number [] = 0
number (s ∷ up) = cond (is_branch s) s.index (cond (at_only_cause up) (number up + 1) 0)

-- a node that is shown: its way, how many causes are shown beneath it, and its value
pub record Cause (A : Type 0) : Type 0 where
  pub path : Path
  pub causes : ℕ
  pub value : A

-- whether its only cause follows on its own level
abbrev pub continues : {A : Type 0} → Cause A → Bool
continues x = at_only_cause x.path && x.causes == 1

abbrev pub no_columns : List Bool → Bool
no_columns [] = true
no_columns (c ∷ cs) = false

-- the number that is printed: none for a node that is alone on its level, if the level is not the main chain
abbrev pub label : {A : Type 0} → Cause A → Option ℕ
label x =
    cond (no_columns (columns x.path) || (at_branch x.path || (continues x || nat_lt 0 (number x.path)))) (Some (number x.path)) None

-- the causes of a row, each before those beneath it: those of the node to which a way leads, from the one of an index on
abbrev pub causes_of : {A : Type 0} → Path → ℕ → Rows A → List (Cause A)
causes_of up i none = []
causes_of up i (node v c r) =
    let path : Path = record { index = i; after = width r } ∷ up in
    record { path = path; causes = width c; value = v } ∷ (causes_of path 0 c ++ causes_of up (i + 1) r)

-- a line of a printed tree: the head of a report, which may come after another, with the number of causes beneath it; or a
-- cause
pub data Line (A : Type 0) : Type 0 where
  head : Bool → ℕ → A → Line A
  cause : Cause A → Line A

abbrev pub cause_lines : {A : Type 0} → List (Cause A) → List (Line A)
cause_lines [] = []
cause_lines (x ∷ xs) = cause x ∷ cause_lines xs

-- the lines of the heads of a row, each with those of the causes beneath it
abbrev pub report_lines : {A : Type 0} → Bool → Rows A → List (Line A)
report_lines later none = []
report_lines later (node v c r) = head later (width c) v ∷ (cause_lines (causes_of [] 0 c) ++ report_lines true r)
