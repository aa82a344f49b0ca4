-- Calls on reports and baskets that the store holds are granted.
use Rattle.std.proofs.Common.{◌≡◌, ℕ, Bool, true, false, ◌&&◌, not, is_some, Some, None, Option, Ok, Err, Result, sym, refl, ap, ap₂, ◌∙◌}
use Rattle.std.proofs.lemmas.Bool.{eq-eqb, ne_eqb}
use Rattle.std.proofs.lemmas.Map.{update_here}
use Rattle.std.specs.Result.{IsOk}
use Rattle.vocabulary.specs.declared.fault.StoreFault.{StoreFault}
use Rattle.trees.specs.Trees.{Forest, Tree}
use Rattle.ledger.specs.Causes.{held, is_row}
use Rattle.ledger.specs.Ledger.{Ledger, opened, row_of, trees_of}
use Rattle.store.specs.Calls.{Collected, Chained, Discarded, DiscardedAll, Drained, Taken, basket_held, report_held}
use Rattle.store.specs.Token.{Basket, Exn}
use Rattle.store.specs.declared.store.Store.{Store}
use Rattle.store.specs.declared.token.Refusal.{Refusal}
use Rattle.script_runs.specs.Working.{Known, Works, row_in}

held_none : (b : Bool) (f : StoreFault) → b ≡ true → held b None ≡ Some f → ⊥
held_none true f e q = absurd cc
held_none false f e q = absurd cc

both_true : (a b : Bool) → a ≡ true → b ≡ true → (a && b) ≡ true
both_true a b p q = ap₂ (λ (x y : Bool). x && y) p q

pub take_ok : (s s' : Store) (b b' : Basket) (r : Result (Option Exn) StoreFault) → basket_held s b ≡ true → Taken s s' b b' r → IsOk r
take_ok s s' b b' (Ok o) h t = refl
take_ok s s' b b' (Err f) h t = absurd (held_none _ f h t.0.first)

pub collect_ok : (s s' : Store) (b b' : Basket) (x : Exn) (r : Result (Unit {0}) (Refusal Exn)) → basket_held s b ≡ true → report_held s x ≡ true → Collected s s' b b' x r → IsOk r
collect_ok s s' b b' x (Ok u) h k m = refl
collect_ok s s' b b' x (Err t) h k m = absurd (held_none _ t.fault (both_true _ _ h k) m.0.0.first)

pub discard_ok : (s s' : Store) (x : Exn) (r : Result (Unit {0}) (Refusal Exn)) → report_held s x ≡ true → Discarded s s' x r → IsOk r
discard_ok s s' x (Ok u) h m = refl
discard_ok s s' x (Err t) h m = absurd (held_none _ t.fault h m.0.first)

pub discard_all_ok : (s s' : Store) (b : Basket) (r : Result (Unit {0}) (Refusal Basket)) → basket_held s b ≡ true → DiscardedAll s s' b r → IsOk r
discard_all_ok s s' b (Ok u) h m = refl
discard_all_ok s s' b (Err t) h m = absurd (held_none _ t.fault h m.0.first)

pub drain_ok : (s s' : Store) (x : Exn) (r : Result Basket StoreFault) → report_held s x ≡ true → Drained s s' x r → IsOk r
drain_ok s s' x (Ok b) h m = refl
drain_ok s s' x (Err f) h m = absurd (held_none _ f h m.first)

-- ---- what is held

pub row_at : (g : ℕ → Option Tree) (o : ℕ → Option Forest) (r : Option ℕ) (row : Forest) → Known r row → row_of (record { reports = g; rows = opened o r row }) r ≡ row
row_at g o None row k = sym k
row_at g o (Some n) row k = ap trees_of (update_here o n (Some row))

is_row_at : (g : ℕ → Option Tree) (o : ℕ → Option Forest) (r : Option ℕ) (row : Forest) → is_row (record { reports = g; rows = opened o r row }) r ≡ true
is_row_at g o None row = refl
is_row_at g o (Some n) row = ap is_some (update_here o n (Some row))

module _ (s : Store) (b : Basket) (g : ℕ → Option Tree) (o : ℕ → Option Forest) (row : Forest) (w : Works s b g o row) where
  pub row_is : row_in s b ≡ row
  row_is = ap (λ (l : Ledger). row_of l b.root) w.ledger ∙ row_at g o b.root row w.known

  pub basket_is_held : basket_held s b ≡ true
  basket_is_held = both_true _ _ (eq-eqb b.store s.number w.number) (ap (λ (l : Ledger). is_row l b.root) w.ledger ∙ is_row_at g o b.root row)

  pub report_is_held : (x : Exn) (t : Tree) → x.store ≡ s.number → g x.root ≡ Some t → report_held s x ≡ true
  report_is_held x t p q = both_true _ _ (eq-eqb x.store s.number p) (ap (λ (l : Ledger). is_some (l.reports x.root)) w.ledger ∙ ap is_some q)

pub chain_ok : (s s' : Store) (x y : Exn) (r : Result (Unit {0}) (Refusal Exn)) → report_held s x ≡ true → report_held s y ≡ true → (x.root ≡ y.root → ⊥) → Chained s s' x y r → IsOk r
chain_ok s s' x y (Ok u) h k d m = refl
chain_ok s s' x y (Err t) h k d m = absurd (held_none _ t.fault (both_true _ _ (both_true _ _ h k) (ap not (ne_eqb x.root y.root d))) m.0.first)
