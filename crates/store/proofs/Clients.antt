-- What a client may rely on from call to call.
use Rattle.std.proofs.Common.{◌≡◌, ℕ, Bool, true, ◌&&◌, eqb, is_some, Some, None, Option, sym, refl, ap, ◌∙◌, ap₂, eq-eqb, eqb-true}
use Rattle.std.proofs.lemmas.Bool.{and_from, and_parts}
use Rattle.std.proofs.lemmas.Map.{update_here}
use Rattle.vocabulary.specs.declared.fault.StoreFault.{StoreFault}
use Rattle.ledger.specs.Causes.{held, is_row}
use Rattle.ledger.specs.Ledger.{Ledger, first_of, opened, rest_of, row_of, without}
use Rattle.store.specs.Calls.{basket_held, report_held, NewExn, TakenOut}
use Rattle.store.specs.Store.{ledger_of, Became}
use Rattle.store.specs.declared.store.Store.{Store}
use Rattle.store.specs.Token.{Basket, Exn}

-- a call that leaves the baskets' rows alone leaves every basket as it was
pub basket_stays : (before after : Store) (l : Ledger) → Became before after l → ((j : ℕ) → l.rows j ≡ (ledger_of before).rows j) → (b : Basket) → basket_held after b ≡ basket_held before b
basket_stays before after l c same b = ap₂ (λ (x y : Bool). (x && y)) (ap (eqb b.store) c.number) (rows b.root)
  where
    rows : (h : Option ℕ) → is_row (ledger_of after) h ≡ is_row (ledger_of before) h
    rows None = refl
    rows (Some h) = ap is_some (c.holds.rows h ∙ same h)

-- a new report is the store's
pub new_held : (before after : Store) (cause : Option StoreFault) (l : ℕ → Ledger) (y : Exn) → NewExn before after cause l y → is_some ((l y.root).reports y.root) ≡ true → report_held after y ≡ true
new_held before after cause l y n v =
    and_from (eqb y.store after.number) (is_some ((ledger_of after).reports y.root))
    (eq-eqb y.store after.number (n.open_exn.store ∙ sym n.granted.became.number))
    (ap is_some (n.granted.became.holds.reports y.root) ∙ v)

-- with both handles the store's, no cause is left
pub both_held : (a b : Bool) (f : StoreFault) → a ≡ true → b ≡ true → held (a && b) None ≡ Some f → ⊥
both_held a b f p q r = let n : None ≡ Some f = sym (ap (λ (t : Bool). held t None) (and_from a b p q)) ∙ r in cc

-- what is left of a basket after a take is the store's
pub rest_held : (before after : Store) (b b' : Basket) (y : Exn) → basket_held before b ≡ true → TakenOut before after b b' y → basket_held after b' ≡ true
rest_held before after b b' y v t =
    and_from (eqb b'.store after.number) (is_row (ledger_of after) b'.root)
    (eq-eqb b'.store after.number (ap (λ (c : Basket). c.store) t.same ∙ eqb-true b.store before.number (and_parts _ _ v).0 ∙ sym t.granted.became.number))
    (go b'.root refl)
  where
    go : (o : Option ℕ) → b'.root ≡ o → is_row (ledger_of after) o ≡ true
    go None q = refl
    go (Some n) q =
        ap is_some (t.granted.became.holds.rows n ∙ ap (λ (o : Option ℕ). opened (without (ledger_of before).rows (Some y.root)) o (rest_of (row_of (ledger_of before) (Some y.root))) n) q ∙ update_here (without (ledger_of before).rows (Some y.root)) n _)

-- what is taken out is the store's, and so is what is left
pub taken_held : (before after : Store) (b b' : Basket) (y : Exn) → basket_held before b ≡ true → TakenOut before after b b' y → report_held after y ≡ true
taken_held before after b b' y v t =
    and_from (eqb y.store after.number) (is_some ((ledger_of after).reports y.root))
    (eq-eqb y.store after.number (t.open_exn.store ∙ sym t.granted.became.number))
    (ap is_some (t.granted.became.holds.reports y.root ∙ update_here (ledger_of before).reports y.root _) ∙ ap (λ (o : Option ℕ). is_some (first_of (row_of (ledger_of before) o))) (sym t.first) ∙ t.tree)
