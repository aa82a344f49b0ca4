-- No more nodes are shown than there are.
use Rattle.std.proofs.Common.{◌≤◌, Bool, true, false, cond, arith}
use Rattle.nodes.specs.Rows.{Rows, none, node, ◌beside◌, count}
use Rattle.print_forms.specs.Shown.{displayed}
use Rattle.shown_links.proofs.Beside.{count_beside}

module _ {A : Type 0} (marks : A → Bool) where
  pub shown_count : (r : Rows A) → count (displayed marks r) ≤ count r
  shown_count none = omega arith
  shown_count (node v c r) = go (marks v) (shown_count c) (shown_count r)
    where
      go : (b : Bool) → count (displayed marks c) ≤ count c → count (displayed marks r) ≤ count r
          → count (cond b (displayed marks c beside displayed marks r) (node v (displayed marks c) (displayed marks r))) ≤ count (node v c r)
      go true a d = let n = count_beside (displayed marks c) (displayed marks r) in omega arith
      go false a d = omega arith
