use Rattle.std.proofs.Common.{◌≡◌, true}
use Rattle.store.specs.Calls.{basket_held}
use Rattle.measured.proofs.building.collected.Given as goal

-- the basket is the store's
abbrev pub invariant-loop-place : goal.invariant-loop-place
invariant-loop-place l = basket_held l.store l.basket ≡ true
