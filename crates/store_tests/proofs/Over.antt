-- A new root over a report is a report, and a basket stays.
use Rattle.std.proofs.Common.{◌≡◌, ℕ, Bool, true, ◌&&◌, eqb, is_some, Some, None, Ok, Option, refl, ap, ◌∙◌}
use Rattle.std.proofs.lemmas.Bool.{and_parts}
use Rattle.std.proofs.lemmas.Map.{update_here}
use Rattle.std.specs.Map.{update}
use Rattle.vocabulary.specs.declared.frame_error.FrameError.{FrameError}
use Rattle.model.specs.Host.{Errors}
use Rattle.ledger.specs.Causes.{is_row}
use Rattle.ledger.specs.Ledger.{over}
use Rattle.trees.specs.Trees.{Tree}
use Rattle.store.proofs.Clients.{new_held}
use Rattle.store.specs.Store.{ledger_of}
use Rattle.store.specs.Calls.{Raised, report_held}
use Rattle.store.specs.Token.{Basket, Exn}
use Rattle.store.specs.declared.store.Store.{Store}
use Rattle.store_tests.specs.Held.{basket_kept}

over_some : (e : FrameError) (p : ℕ) (o : Option Tree) → is_some o ≡ true → is_some (over e p o) ≡ true
over_some e p None v = v
over_some e p (Some t) v = refl

module _ (before after : Store) (h : Errors) (x : Exn) (e p : ℕ) (y : Exn) (g : Raised before after h x e p (Ok y)) where
  pub number_stays : after.number ≡ before.number
  number_stays = g.granted.became.number

  pub report_kept : report_held before x ≡ true → report_held after y ≡ true
  report_kept v =
      new_held before after _ _ y g (ap is_some (update_here (update eqb (ledger_of before).reports x.root None) y.root _) ∙ over_some _ p ((ledger_of before).reports x.root) (and_parts _ _ v).1)

  row_stays : (o : Option ℕ) → is_row (ledger_of after) o ≡ is_row (ledger_of before) o
  row_stays None = refl
  row_stays (Some r) = ap is_some (g.granted.became.holds.rows r)

  pub basket_stays : (b : Option Basket) → basket_kept before b ≡ true → basket_kept after b ≡ true
  basket_stays None v = refl
  basket_stays (Some b) v = ap (λ (n : ℕ). eqb b.store n && is_row (ledger_of after) b.root) number_stays ∙ ap (λ (t : Bool). eqb b.store before.number && t) (row_stays b.root) ∙ v
