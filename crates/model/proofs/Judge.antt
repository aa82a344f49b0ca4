-- The deepest challenge decides for each error of a chain; the least class and the accepted pairs, one error at a time.
use Rattle.std.proofs.Common.{◌≡◌, ℕ, zero, suc, ◌<◌, ◌≤◌, Bool, true, false, cond, ◌||◌, eqb, List, [], ◌∷◌, is_some, Some, None, Option, sym, refl, ap, ◌∙◌, subst, arith, le-ltb, lt-ltb}
use mathlib.Core.Bool.{or-false}
use Rattle.std.proofs.lemmas.Bool.Decides.{nat_tests}
use Rattle.std.proofs.lemmas.Bool.{or_parts}
use Rattle.classes.specs.Class.{lesser, rank}
use Rattle.classes.specs.declared.class.Class.{Class}
use Rattle.vocabulary.specs.declared.policy.Pair.{Pair}
use Rattle.model.specs.Challenge.{or, deepest, beneath}
use Rattle.model.specs.Host.{Error, Errors, Lawful}
use Rattle.model.specs.Judge.{is_challenge, any, has_rank, least_class, any_pair, cancelled}
use Rattle.model.specs.Sources.{source_of, bound, chain_up_to, LiveOrNone}
use Rattle.model.proofs.Sources.{live-told, source-bound, source-live}

pub lesser_assoc : (a b c : Option Class) → lesser (lesser a b) c ≡ lesser a (lesser b c)
lesser_assoc None b c = refl
lesser_assoc (Some x) None c = refl
lesser_assoc (Some x) (Some y) None = grind (arith, nat_tests)
lesser_assoc (Some x) (Some y) (Some z) = grind (arith, nat_tests)

-- all numbers of a list are below one
abbrev AllBelow : ℕ → List ℕ → Type 0
AllBelow n [] = Unit {0}
AllBelow n (x ∷ xs) = (x < n) × AllBelow n xs

abbrev Falling : List ℕ → Type 0
Falling [] = Unit {0}
Falling (x ∷ xs) = AllBelow x xs × Falling xs

-- for each error of a chain, whether a challenge stands beneath it is told by one number
abbrev pub Decided : Errors → Option ℕ → List ℕ → Type 0
Decided h c [] = Unit {0}
Decided h c (e ∷ rest) = (any (λ d. is_challenge (h d)) rest ≡ beneath c e) × Decided h c rest

module _ (h : Errors) where
  -- the deepest challenge is one of the list
  deepest-below : (n : ℕ) (xs : List ℕ) (d : ℕ) → AllBelow n xs → deepest h xs ≡ Some d → d < n
  deepest-below n [] d b q = absurd cc
  deepest-below n (x ∷ xs) d b q = go (deepest-below n xs d b.1) (deepest h xs) refl (is_challenge (h x)) q
    where
      go : (deepest h xs ≡ Some d → d < n) → (o : Option ℕ) → deepest h xs ≡ o → (t : Bool) → or o (cond t (Some x) None) ≡ Some d → d < n
      go rest (Some y) p t r = rest (p ∙ r)
      go rest None p true r = let e : x ≡ d = cc in let f = b.0 in omega arith
      go rest None p false r = absurd cc

  -- there is a deepest challenge exactly where there is one
  any-deepest : (xs : List ℕ) → any (λ d. is_challenge (h d)) xs ≡ is_some (deepest h xs)
  any-deepest [] = refl
  any-deepest (x ∷ xs) = go (is_challenge (h x)) (deepest h xs) (any-deepest xs)
    where
      go : (t : Bool) (o : Option ℕ) → any (λ d. is_challenge (h d)) xs ≡ is_some o → (t || any (λ d. is_challenge (h d)) xs) ≡ is_some (or o (cond t (Some x) None))
      go true None q = refl
      go true (Some y) q = refl
      go false None q = q
      go false (Some y) q = q

  -- where the list has no challenge, none stands beneath any of it, and a number above the list says so
  none_decided : (c : Option ℕ) (xs : List ℕ) → any (λ d. is_challenge (h d)) xs ≡ false → ((n : ℕ) → c ≡ Some n → AllBelow n xs) → Decided h c xs
  none_decided c [] q b = tt
  none_decided c (x ∷ xs) q b =
      let p = or_parts (is_challenge (h x)) (any (λ d. is_challenge (h d)) xs) q in
      (p.1 ∙ go c b, none_decided c xs p.1 (λ n e. (b n e).1))
    where
      go : (c : Option ℕ) → ((n : ℕ) → c ≡ Some n → AllBelow n (x ∷ xs)) → false ≡ beneath c x
      go None b = refl
      go (Some n) b = let f = (b n refl).0 in sym (le-ltb n x (omega arith))

  pub decided : (xs : List ℕ) → Falling xs → Decided h (deepest h xs) xs
  decided [] f = tt
  decided (x ∷ xs) f = go (deepest h xs) refl (is_challenge (h x)) (decided xs f.1) (any-deepest xs)
    where
      go : (o : Option ℕ) → deepest h xs ≡ o → (t : Bool) → Decided h (deepest h xs) xs → any (λ d. is_challenge (h d)) xs ≡ is_some (deepest h xs)
          → (any (λ d. is_challenge (h d)) xs ≡ beneath (or o (cond t (Some x) None)) x) × Decided h (or o (cond t (Some x) None)) xs
      go (Some y) p t d a = (
        a ∙ ap is_some p ∙ sym (lt-ltb y x (deepest-below x xs y f.0 p)),
        subst (λ (c : Option ℕ). Decided h c xs) p d,
      )
      go None p true d a = (a ∙ ap is_some p ∙ sym (le-ltb x x (omega arith)), none_decided (Some x) xs (a ∙ ap is_some p) (λ n e. subst (λ (k : ℕ). AllBelow k xs) (let q : x ≡ n = cc in q) f.0))
      go None p false d a = (a ∙ ap is_some p, none_decided None xs (a ∙ ap is_some p) (λ n e. absurd cc))

module _ (h : Errors) (span : ℕ) (l : Lawful h span) where
  chain-below : (f n : ℕ) (o : Option ℕ) → LiveOrNone h o → bound o ≤ n → AllBelow n (chain_up_to h f o)
  unfolding chain_up_to
  chain-below zero n o v b = tt
  chain-below (suc f) n None v b = tt
  chain-below (suc f) n (Some e) v b =
      let t = live-told (h e) v in
      let s = source-bound h span l e t.0 t.1 in
      (b, subst (λ (o : Option Error). AllBelow n (chain_up_to h f (source_of o))) (sym t.1) (chain-below f n t.0.source (source-live h span l e t.0 t.1) (omega arith)))

  pub chain_falls : (f : ℕ) (o : Option ℕ) → LiveOrNone h o → Falling (chain_up_to h f o)
  unfolding chain_up_to
  chain_falls zero o v = tt
  chain_falls (suc f) None v = tt
  chain_falls (suc f) (Some e) v =
      let t = live-told (h e) v in
      subst (λ (o : Option Error). AllBelow e (chain_up_to h f (source_of o)) × Falling (chain_up_to h f (source_of o))) (sym t.1)
      (chain-below f e t.0.source (source-live h span l e t.0 t.1) (source-bound h span l e t.0 t.1), chain_falls f t.0.source (source-live h span l e t.0 t.1))

-- Cancelled is the least class, so some pair is Cancelled exactly where the least class is.
pub cancelled_least : (ps : List Pair) → any_pair cancelled ps ≡ has_rank 0 (least_class ps)
cancelled_least [] = refl
cancelled_least (p ∷ ps) = go p.class (least_class ps) (cancelled_least ps)
  where
    go : (a b : Option Class) → any_pair cancelled ps ≡ has_rank 0 b → (has_rank 0 a || any_pair cancelled ps) ≡ has_rank 0 (lesser a b)
    go None b q = q
    go (Some x) None q = ap (λ (t : Bool). eqb (rank x) 0 || t) q ∙ or-false (eqb (rank x) 0)
    go (Some x) (Some y) q = ap (λ (t : Bool). eqb (rank x) 0 || t) q ∙ least x y
      where
        least : (x y : Class) → (eqb (rank x) 0 || eqb (rank y) 0) ≡ has_rank 0 (lesser (Some x) (Some y))
        least x y = grind (arith, nat_tests)
