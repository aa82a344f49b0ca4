-- Reports by the tokens that a session keeps.
use Rattle.std.proofs.Common.{◌≡◌, ℕ, Bool, true, false, is_some, Some, None, Option, sym, refl, ap, ◌∙◌, subst}
use Rattle.vocabulary.specs.declared.policy.Pair.{Pair}
use Rattle.model.specs.Host.{Errors}
use Rattle.trees.specs.Trees.{Tree}
use Rattle.trees.proofs.Options.{there}
use Rattle.store.specs.Reached.{Reached}
use Rattle.store.specs.Store.{ledger_of}
use Rattle.store.specs.Token.{Exn}
use Rattle.store.specs.declared.store.Store.{Store}
use Rattle.runs.specs.Held.{Held}
use Rattle.runs.specs.Law.{ReadIf, Reads}
use Rattle.runs.specs.Tokens.{kept}
use Rattle.runs.specs.declared.call.Reading.{Reading}

-- a token is kept exactly where a report is live
kept_some : (number : ℕ) (b : Bool) (n : ℕ) (x : Exn) → Some x ≡ kept number b n → (b ≡ true) × (x ≡ record { store = number; root = n; spent = false })
kept_some number true n x e = (refl, let q : x ≡ record { store = number; root = n; spent = false } = cc in q)
kept_some number false n x e = absurd cc

module _ (h : Errors) (s : Store) (stands : Reached h s (ledger_of s)) (n : ℕ) where
  abbrev tree : Option Tree
  tree = (ledger_of s).reports n

  pub kept_tree : (x : Exn) → Some x ≡ kept s.number (is_some tree) n → (t : Tree) × (tree ≡ Some t) × Held h s x t
  kept_tree x e =
      let k = kept_some s.number (is_some tree) n x e in
      let t = there tree k.0 in (
        t.0,
        t.1,
        record { ledger = ledger_of s; reached = stands; store = ap (λ (x : Exn). x.store) k.1; tree = ap (λ (x : Exn). (ledger_of s).reports x.root) k.1 ∙ t.1 },
      )

  pub kept_held : (x : Exn) → Some x ≡ kept s.number (is_some tree) n → ∥ ((t : Tree) × Held h s x t) ∥₁
  kept_held x e = let k = kept_tree x e in ∣ (k.0, k.2) ∣₁

  pub kept_read : (accepts : Pair → Bool) (x : Exn) (r : Reading) → Some x ≡ kept s.number (is_some tree) n → ((t : Tree) → Held h s x t → Reads h accepts t r) → ReadIf h accepts tree (Some r)
  kept_read accepts x r e f = let k = kept_tree x e in subst (λ (o : Option Tree). ReadIf h accepts o (Some r)) (sym k.1) (f k.0 k.2)

  pub kept_none : (accepts : Pair → Bool) → None ≡ kept s.number (is_some tree) n → ReadIf h accepts tree None
  kept_none accepts e = go tree e
    where
      go : (o : Option Tree) → None ≡ kept s.number (is_some o) n → ReadIf h accepts o None
      go None q = refl
      go (Some t) q = absurd cc
