-- A take leaves report and basket the store's.
use Rattle.std.proofs.Common.{◌≡◌, true, Some, None, Ok, Option, refl, ap, ◌∙◌}
use Rattle.store.proofs.Clients.{rest_held, taken_held}
use Rattle.store.specs.Calls.{basket_held, Taken}
use Rattle.store.specs.Token.{Basket, Exn}
use Rattle.store.specs.declared.store.Store.{Store}
use Rattle.store_tests.specs.Held.{report_kept}

pub take_keeps : (before after : Store) (b b' : Basket) (o : Option Exn) → basket_held before b ≡ true → Taken before after b b' (Ok o) → (after.number ≡ before.number) × (report_kept after o ≡ true) × (basket_held after b' ≡ true)
take_keeps before after b b' None v t = (ap (λ (s : Store). s.number) t.2, refl, ap (λ (s : Store). basket_held s b') t.2 ∙ ap (basket_held before) t.3 ∙ v)
take_keeps before after b b' (Some y) v t = (t.granted.became.number, taken_held before after b b' y v t, rest_held before after b b' y v t)
