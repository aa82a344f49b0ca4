-- Where a node stands in a row, and which node is the cause of a row.
use Rattle.std.specs.Prelude.{◌≡◌, Bool, false, ◌⊎◌}
use Rattle.nodes.specs.Rows.{Rows, none, node}

-- a node's position: the first node, one beneath it, or one after it
pub data Position {A : Type 0} : Rows A → Type 0 where
  here : {v : A} {c r : Rows A} → Position (node v c r)
  down : {v : A} {c r : Rows A} → Position c → Position (node v c r)
  next : {v : A} {c r : Rows A} → Position r → Position (node v c r)

-- the value at a position
abbrev pub at : {A : Type 0} (r : Rows A) → Position r → A
at none x = elim x [ ]
at (node v c r) here = v
at (node v c r) (down x) = at c x
at (node v c r) (next x) = at r x

-- the first position stands above the second, or is it
abbrev pub Over : {A : Type 0} (r : Rows A) → Position r → Position r → Type 0
Over none x y = ⊥
Over (node v c r) here here = Unit {0}
Over (node v c r) here (down y) = Unit {0}
Over (node v c r) here (next y) = ⊥
Over (node v c r) (down x) here = ⊥
Over (node v c r) (down x) (down y) = Over c x y
Over (node v c r) (down x) (next y) = ⊥
Over (node v c r) (next x) here = ⊥
Over (node v c r) (next x) (down y) = ⊥
Over (node v c r) (next x) (next y) = Over r x y

-- no marker, and every node that is no marker stands above or beneath it
abbrev pub Comparable : {A : Type 0} → (A → Bool) → (r : Rows A) → Position r → Type 0
Comparable marks r x = (marks (at r x) ≡ false) × ((y : Position r) → marks (at r y) ≡ false → Over r x y ⊎ Over r y x)

-- the deepest such node, and its error
pub record Deepest {A E : Type 0} (marks : A → Bool) (error : A → E) (r : Rows A) (e : E) : Type 0 where
  pub position : Position r
  pub comparable : Comparable marks r position
  pub deepest : (y : Position r) → Comparable marks r y → Over r y position
  pub error_is : error (at r position) ≡ e

-- there is no such node
abbrev pub NoneComparable : {A : Type 0} → (A → Bool) → Rows A → Type 0
NoneComparable marks r = (x : Position r) → Comparable marks r x → ⊥
