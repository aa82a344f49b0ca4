-- The chain of an error begins with it and goes on with its source's.
use Rattle.std.proofs.Common.{◌≡◌, ℕ, zero, suc, ◌≤◌, true, List, ◌∷◌, length, is_some, Some, None, Option, sym, refl, ap, ◌∙◌, subst, arith}
use Rattle.model.specs.Host.{Error, Errors, Lawful}
use Rattle.model.specs.Sources.{source_of, chain_up_to, bound, chain_from, chain, sources, LiveOrNone}

pub live-told : (o : Option Error) → is_some o ≡ true → (m : Error) × (o ≡ Some m)
live-told None e = absurd cc
live-told (Some m) e = (m, refl)

pub chain_short : (h : Errors) (f : ℕ) (o : Option ℕ) → length (chain_up_to h f o) ≤ f
unfolding chain_up_to
chain_short h zero o = omega arith
chain_short h (suc f) None = omega arith
chain_short h (suc f) (Some e) = let a = chain_short h f (source_of (h e)) in omega arith

module _ (h : Errors) (span : ℕ) (l : Lawful h span) where
  pub source-bound : (e : ℕ) (m : Error) → h e ≡ Some m → bound m.source ≤ e
  source-bound e m q = go m.source refl
    where
      go : (o : Option ℕ) → m.source ≡ o → bound o ≤ e
      go None p = omega arith
      go (Some d) p = let f = l.falls e d m q p in omega arith

  pub source-live : (e : ℕ) (m : Error) → h e ≡ Some m → LiveOrNone h m.source
  source-live e m q = go m.source refl
    where
      go : (o : Option ℕ) → m.source ≡ o → LiveOrNone h o
      go None p = tt
      go (Some d) p = l.lives e d m q p

  -- any two limits that suffice give the same chain
  pub enough : (f g : ℕ) (o : Option ℕ) → LiveOrNone h o → bound o ≤ f → bound o ≤ g → chain_up_to h f o ≡ chain_up_to h g o
  unfolding chain_up_to
  enough zero zero o v a b = refl
  enough zero (suc g) None v a b = refl
  enough zero (suc g) (Some d) v a b = absurd (omega arith)
  enough (suc f) zero None v a b = refl
  enough (suc f) zero (Some d) v a b = absurd (omega arith)
  enough (suc f) (suc g) None v a b = refl
  enough (suc f) (suc g) (Some d) v a b =
      let t = live-told (h d) v in
      let m = t.0 in
      let x = source-bound d m t.1 in
      let step : chain_up_to h f m.source ≡ chain_up_to h g m.source = enough f g m.source (source-live d m t.1) (omega arith) (omega arith) in
      ap (λ (rest : List ℕ). d ∷ rest) (subst (λ (o : Option Error). chain_up_to h f (source_of o) ≡ chain_up_to h g (source_of o)) (sym t.1) step)

  pub sources_are : (e : ℕ) (m : Error) → h e ≡ Some m → sources h e ≡ chain_from h m.source
  sources_are e m q = ap (λ (o : Option Error). chain_from h (source_of o)) q

  pub chain_is : (e : ℕ) (m : Error) → h e ≡ Some m → chain h e ≡ e ∷ chain_from h m.source
  unfolding chain_up_to
  chain_is e m q =
      ap (λ (rest : List ℕ). e ∷ rest)
      (ap (λ (o : Option Error). chain_up_to h e (source_of o)) q
      ∙ enough e (bound m.source) m.source (source-live e m q) (source-bound e m q) (omega arith))
