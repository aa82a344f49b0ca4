use Rattle.std.proofs.Common.{◌≡◌, IsSome}
use Rattle.movement.proofs.session.Session.grow.Given as goal

-- the report stays, and so does the basket
abbrev pub invariant-loop : goal.invariant-loop
invariant-loop l = IsSome l.self.report × (l.self.basket ≡ l.initial.self.basket)
