-- What is seen of a row of nodes some of which are markers.
use Rattle.std.specs.Prelude.{Bool, true, false}
use Rattle.nodes.specs.Rows.{Rows}
use Rattle.readings.specs.Folds.{gathered}

infixl 30 ◌or◌
infixl 20 ◌with◌
-- no node but markers; one topmost node that is none, with the cause there; or several such nodes
pub data Seen (E : Type 0) : Type 0 where
  nothing : Seen E
  single : E → Seen E
  several : Seen E

-- the cause, where one is seen, else another error
abbrev pub ◌or◌ : {E : Type 0} → Seen E → E → E
nothing or e = e
single c or e = c
several or e = e

-- what is seen of two rows side by side
abbrev pub ◌with◌ : {E : Type 0} → Seen E → Seen E → Seen E
nothing with y = y
single c with nothing = single c
single c with single d = several
single c with several = several
several with y = several

-- what is seen of a node, by what is seen of its children: through a marker they are seen, and any other node is one
-- topmost node, whose cause is theirs where they have one
abbrev pub node_seen : {E : Type 0} → Bool → E → Seen E → Seen E
node_seen true e s = s
node_seen false e s = single (s or e)

-- what is seen of a row
abbrev pub seen : {A E : Type 0} → (A → Bool) → (A → E) → Rows A → Seen E
seen marks error r = gathered ◌with◌ nothing (λ v s. node_seen (marks v) (error v) s) r
