-- Lines that are planned beside nodes, and what stands before and behind the text of each.
use Rattle.std.specs.Prelude.{◌≡◌, ℕ, Bool, cond, List, [], ◌++◌, length, Some, None, Option, ◌==◌, codes, encode_utf8_all}
use Rattle.nodes.specs.declared.node.Line.{Line as Planned}
use Rattle.nodes.specs.declared.node.Node.{Node}
use Rattle.nodes.specs.declared.node.Position.{Position}
use Rattle.nodes.specs.declared.node.Position.TheVariants.{Head, Main, Nested}
use Rattle.nodes.specs.Nodes.{Content}
use Rattle.print_forms.specs.Layout.{Line, head, cause, columns, continues, label}
use Rattle.print_forms.specs.Prints.{caption, indent, label_text, margin}
use Rattle.line_plans.specs.Plans.{Plans, line_at}

-- whether something follows in the column of a line's own level, and the line that stands for the level above
abbrev pub column_in : Position → Option (Bool × Option ℕ)
column_in (Head later causes) = None
column_in (Main n) = None
column_in (Nested n up follows more) = Some (follows, up)

abbrev pub column_of : Option Planned → Option (Bool × Option ℕ)
column_of None = None
column_of (Some l) = column_in l.position

-- the same of the line that stands for a level
abbrev pub column_at : List Node → Option ℕ → Option (Bool × Option ℕ)
column_at xs None = None
column_at xs (Some j) = column_of (line_at xs j)

-- what stands before the text of a line
abbrev pub before_text : Line Content → List ℕ
before_text (head later n v) = cond later (encode_utf8_all (codes "\n")) []
before_text (cause x) = indent ++ (margin (columns x.path) (continues x) ++ label_text (label x))

-- what stands behind it
abbrev pub after_text : Line Content → List ℕ
after_text (head later n v) = cond (n == 0) [] caption
after_text (cause x) = []

-- the same by the position that is planned
abbrev pub caption_after : Position → List ℕ
caption_after (Head later causes) = cond causes caption []
caption_after (Main n) = []
caption_after (Nested n up follows more) = []

-- so many lines are planned as those of the layout
pub record LinesPlanned (nodes : List Node) (n : ℕ) (xs : List (Line Content)) : Type 0 where
  pub count : n ≡ length xs
  pub lines : Plans nodes 0 xs
