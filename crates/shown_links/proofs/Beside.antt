-- Rows one beside the other.
use Rattle.std.proofs.Common.{◌≡◌, ◌+◌, refl, ap, arith}
use Rattle.nodes.specs.Rows.{Rows, none, node, ◌beside◌, count}

module _ {A : Type 0} where
  pub beside_none : (r : Rows A) → r beside none ≡ r
  beside_none none = refl
  beside_none (node v c r) = ap (node v c) (beside_none r)

  pub beside_assoc : (r s t : Rows A) → (r beside s) beside t ≡ r beside (s beside t)
  beside_assoc none s t = refl
  beside_assoc (node v c r) s t = ap (node v c) (beside_assoc r s t)

  pub count_beside : (r s : Rows A) → count (r beside s) ≡ count r + count s
  count_beside none s = omega arith
  count_beside (node v c r) s = let e = count_beside r s in omega arith
