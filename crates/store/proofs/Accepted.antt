-- What a call made is known from what came of it beside what was handed in.
use Rattle.std.proofs.Common.{◌≡◌, ℕ, Bool, true, false, None, Option, Ok, Err, Result, sym, refl, ap, ◌∙◌, subst}
use Rattle.std.proofs.lemmas.Bool.{and_parts}
use Rattle.vocabulary.specs.declared.fault.StoreFault.{StoreFault}
use Rattle.vocabulary.specs.declared.frame_error.FrameError.{FrameError}
use Rattle.vocabulary.specs.declared.frame_error.FrameError.TheVariants.{Host}
use Rattle.model.specs.Host.{Errors}
use Rattle.layout.specs.Calls.{Drained}
use Rattle.frames.specs.Of.{frames_of}
use Rattle.store.proofs.Rows.{drains_as, drains_known}
use Rattle.ledger.specs.Causes.{frame_cause, held}
use Rattle.ledger.specs.Ledger.{Ledger}
use Rattle.store.specs.Accepted.{beside}
use Rattle.store.specs.Calls.{DrainedInto, FrameMade, NewExn, report_held, token_held}
use Rattle.store.specs.Roots.{OverNew, Raises}
use Rattle.store.specs.Store.{ledger_of, Became}
use Rattle.store.specs.Token.{Basket, Exn}
use Rattle.store.specs.declared.store.Store.{Store}
use Rattle.store.specs.declared.token.Refusal.{Refusal}
use Rattle.store.specs.declared.token.Token.{Token}

pub made_ok : {A X : Type 0} (m : Result A StoreFault) (x y : X) (a : A) (r : Result (A × X) (Refusal X)) → r ≡ beside m x → r ≡ Ok (a, y) → (m ≡ Ok a) × (x ≡ y)
made_ok {A} {X} (Ok b) x y a r e f = let q : ◌≡◌ {A = A × X} (b, x) (a, y) = cc in (ap (λ (p : A × X). Ok p.0) q, ap (λ (p : A × X). p.1) q)
made_ok (Err f) x y a r e g = cc

-- a token of the store, and a new frame for it
module _ {R : Type 0} {is_live : Ledger → R → Bool} {is_apart : R → ℕ → Bool} {joined : Ledger → ℕ → R → Ledger} {raised : Ledger → R → FrameError → ℕ → ℕ → Ledger} (laws : Raises is_live is_apart joined raised)
    (before mid : Store) (h : Errors) (e p : ℕ) (made : Result ℕ StoreFault) (x given t : Token R) (n : ℕ) (r : R)
    (f : FrameMade before mid h e p made) (v : token_held is_live before x ≡ true) (same : given ≡ x) (paired : Result (ℕ × Token R) (Refusal (Token R))) (from : paired ≡ beside made given) (m : paired ≡ Ok (n, t)) (is : r ≡ t.root) where
  root_is : r ≡ x.root
  root_is = is ∙ sym (ap (λ (t : Token R). t.root) (made_ok made given t n paired from m).1) ∙ ap (λ (t : Token R). t.root) same

  frame : FrameMade before mid h e p (Ok n)
  frame = subst (λ (m : Result ℕ StoreFault). FrameMade before mid h e p m) (made_ok made given t n paired from m).0 f

  pub over_new : OverNew is_live is_apart joined raised before mid r (Host e) p n
  over_new = subst (λ (s : R). OverNew is_live is_apart joined raised before mid s (Host e) p n) (sym root_is) (laws before mid x.root (Host e) p n (and_parts _ _ v).1 frame.1 frame.2)

  pub raised_new : (after : Store) (y : Exn) → Became mid after (joined (ledger_of mid) n r) → y ≡ record { store = after.number; root = n; spent = false }
      → NewExn before after (held (token_held is_live before x) (frame_cause (ledger_of before) h e)) (raised (ledger_of before) x.root (Host e) p) y
  raised_new after y b q =
      let over = over_new.over after b in
      subst (λ (y : Exn). NewExn before after (held (token_held is_live before x) (frame_cause (ledger_of before) h e)) (raised (ledger_of before) x.root (Host e) p) y) (sym q)
      (record {
        granted = record {
          free = ap (λ (b : Bool). held b (frame_cause (ledger_of before) h e)) v ∙ frame.0;
          became = subst (λ (s : R). Became before after (raised (ledger_of before) s (Host e) p n)) root_is over;
        };
        fresh = frame.1;
        no_root = frame.3;
        open_exn = record { store = over.number; unspent = refl };
      })

-- the children of a report's root are a basket
pub drained_into : (before after : Store) (x : Exn) (n : ℕ) (head : Option ℕ) (b : Basket) → report_held before x ≡ true → n ≡ x.root → after.number ≡ before.number
    → b ≡ record { store = after.number; root = head; spent = false } → Drained (frames_of before.frames) (frames_of after.frames) n head → DrainedInto before after x b
drained_into before after x n head b v e same q d =
    let d' = subst (λ (k : ℕ). Drained (frames_of before.frames) (frames_of after.frames) k head) e d in
    subst (λ (b : Basket). DrainedInto before after x b) (sym q)
    (record {
      granted = record { free = ap (λ (t : Bool). held t None) v; became = record { number = same; holds = drains_as before after x.root head d' } };
      known = drains_known before after x.root head d';
      no_roots = d'.fresh;
      open_basket = record { store = same; unspent = refl };
    })
