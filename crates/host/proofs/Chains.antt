-- An error's chain: one step down it, its deepest challenge, its pairs, and what they come to.
use Rattle.std.proofs.Common.{◌≡◌, ℕ, zero, suc, ◌≤◌, Bool, true, false, cond, not, ◌&&◌, ◌||◌, List, [], ◌∷◌, is_some, map, Some, None, Ok, Option, ◌==◌, sym, refl, ap, ◌∙◌, subst, arith}
use Rattle.std.proofs.lemmas.Iterator.{YieldsList, items_from_drains}
use Rattle.std.proofs.lemmas.List.{map-id}
use Rattle.std.specs.Iterator.{Drains}
use Rattle.std.specs.List.{filter, fold, last_or}
use mathlib.Core.Bool.{or_assoc, or-false}
use Rattle.classes.specs.Class.{lesser}
use Rattle.classes.specs.declared.class.Class.{Class}
use Rattle.vocabulary.specs.IoKind.{io_class, io_number}
use Rattle.vocabulary.specs.declared.io_kind.IoKind.{IoKind}
use Rattle.vocabulary.specs.declared.kind.Kind.{Kind}
use Rattle.vocabulary.specs.declared.kind.Kind.TheVariants.{Plain, Message, ClassificationMarker, TryReserveError, Io}
use Rattle.vocabulary.specs.declared.policy.Pair.{Pair}
use Rattle.model.specs.Challenge.{or, deepest, beneath}
use Rattle.model.specs.Host.{Error, Errors, Lawful, answer}
use Rattle.model.specs.Judge.{any, any_pair, challenge_beneath, has_rank, is_challenge, kind_pair, least_class, may_retry, pair_of, pairs_of, stated_class, told}
use Rattle.model.specs.Sources.{bound, chain, chain_up_to, chain_from, source_of, LiveOrNone}
use Rattle.host.specs.Findings.{findings_of, findings_with, is_denied, retries}
use Rattle.host.specs.declared.judge.Findings.{Findings}
use Rattle.model.proofs.Judge.{Decided, decided, lesser_assoc, chain_falls, cancelled_least}
use Rattle.model.proofs.Sources.{enough, source-bound, source-live}
use Rattle.model.proofs.Steps.{answered}

-- an answer that does not look at what is told
pub the_same : {A : Type 0} (o : Option Error) (e : ℕ) (a b : A) → Ok a ≡ answer o e (λ _. b) → a ≡ b
the_same o e a b q = (answered o e _ a q).2

pub constantly : {A B : Type 0} (o : Option Error) (e : ℕ) (f : Error → A) (a : A) (b : B) → Ok a ≡ answer o e f → Ok b ≡ answer o e (λ _. b)
constantly o e f a b q = let m = answered o e f a q in sym (ap (λ (x : Option Error). answer x e (λ _. b)) m.1)

-- no error, no chain
pub no_chain : (h : Errors) (at : Option ℕ) → at ≡ None → chain_from h at ≡ []
unfolding chain_up_to
no_chain h at p = ap (chain_from h) p

or-none : (a : Option ℕ) → or a None ≡ a
or-none None = refl
or-none (Some x) = refl

-- a denied permission is live, and no challenge
record Denied (o : Option Error) : Type 0 where
  live : is_some o ≡ true
  none : is_challenge o ≡ false

denied : (o : Option Error) → is_denied (told o false) ≡ true → Denied o
denied None q = absurd cc
denied (Some m) q = record { live = refl; none = by_kind m.kind q }
  where
    by_kind : (k : Kind) → is_denied (kind_pair k false) ≡ true → has_rank 6 (stated_class k) ≡ false
    by_kind Plain q = refl
    by_kind (Message c) q = absurd cc
    by_kind (ClassificationMarker c) q = absurd cc
    by_kind TryReserveError q = refl
    by_kind (Io k) q = refl

module _ (h : Errors) (span : ℕ) (l : Lawful h span) where
  -- the source of an error, live or not
  record Below (e : ℕ) (o : Option ℕ) : Type 0 where
    live : LiveOrNone h o
    small : bound o ≤ e

  below : (e : ℕ) → Below e (source_of (h e))
  below e = go (h e) refl
    where
      go : (o : Option Error) → h e ≡ o → Below e (source_of o)
      go None q = record { live = tt; small = omega arith }
      go (Some m) q = record { live = source-live h span l e m q; small = source-bound h span l e m q }

  -- where a limit suffices, the rest of a chain is that of the source
  rest : (n e : ℕ) → e ≤ n → chain_up_to h n (source_of (h e)) ≡ chain_from h (source_of (h e))
  rest n e k = let b = below e in let s = b.small in enough h span l n (bound (source_of (h e))) (source_of (h e)) b.live (omega arith) (omega arith)

  -- an error, and then the chain of its source
  pub chain_next : (at : Option ℕ) (e : ℕ) → at ≡ Some e → chain_from h at ≡ e ∷ chain_from h (source_of (h e))
  unfolding chain_up_to
  chain_next at e p = ap (chain_from h) p ∙ ap (λ (xs : List ℕ). e ∷ xs) (rest e e (omega arith))

  -- where a chain begins with an error, it is that error's chain and goes on with that of its source
  pub record Goes (e : ℕ) (es : List ℕ) : Type 0 where
    pub whole : e ∷ es ≡ chain h e
    pub later : es ≡ chain_from h (source_of (h e))

  pub chain_goes : (at : Option ℕ) (e : ℕ) (es : List ℕ) → e ∷ es ≡ chain_from h at → Goes e es
  unfolding chain_up_to
  chain_goes None e es q = absurd cc
  chain_goes (Some d) e es q =
      let next = chain_next (Some d) d refl in
      let same : e ≡ d = cc in
      let later : es ≡ chain_from h (source_of (h d)) = cc in
      record { whole = q ∙ ap (chain h) (sym same); later = later ∙ ap (λ (x : ℕ). chain_from h (source_of (h x))) (sym same) }

  -- where one number decides for each error of a chain, it gives their pairs
  decided_pairs : (c : Option ℕ) (n : ℕ) (o : Option ℕ) → bound o ≤ n → Decided h c (chain_up_to h n o) → map (λ e. told (h e) (beneath c e)) (chain_up_to h n o) ≡ pairs_of h (chain_up_to h n o)
  unfolding chain_up_to
  decided_pairs c zero o k d = refl
  decided_pairs c (suc n) None k d = refl
  decided_pairs c (suc n) (Some e) k d =
      let more = below e in
      let s = more.small in
      let here : beneath c e ≡ challenge_beneath h e = sym d.0 ∙ ap (any (λ x. is_challenge (h x))) (rest n e (omega arith)) in
      let tail = decided_pairs c n (source_of (h e)) (omega arith) d.1 in
      ap (λ (b : Bool). told (h e) b ∷ map (λ e. told (h e) (beneath c e)) (chain_up_to h n (source_of (h e)))) here ∙ ap (λ (ps : List Pair). pair_of h e ∷ ps) tail

  module _ (e : ℕ) (c : Option ℕ) (v : LiveOrNone h (Some e)) (q : c ≡ deepest h (chain h e)) where
    decides : Decided h c (chain h e)
    decides = subst (λ (x : Option ℕ). Decided h x (chain h e)) (sym q) (decided h (chain h e) (chain_falls h span l (bound (Some e)) (Some e) v))

    pub pairs_are : map (λ e. told (h e) (beneath c e)) (chain h e) ≡ pairs_of h (chain h e)
    pairs_are = decided_pairs c (bound (Some e)) (Some e) (omega arith) decides

    pub pair_is : told (h e) (beneath c e) ≡ pair_of h e
    unfolding chain_up_to
    pair_is = ap (told (h e)) (sym decides.0 ∙ ap (any (λ x. is_challenge (h x))) (rest e e (omega arith)))

  -- a denied permission is no challenge, so the deepest one beneath it decides for its whole chain
  pub denied_pairs : (e : ℕ) (c : Option ℕ) → is_denied (told (h e) false) ≡ true → c ≡ deepest h (chain_from h (source_of (h e))) → map (λ e. told (h e) (beneath c e)) (chain h e) ≡ pairs_of h (chain h e)
  denied_pairs e c d q =
      let o = denied (h e) d in
      let below = chain_from h (source_of (h e)) in
      pairs_are e c o.live
      (q ∙ sym (ap (λ (es : List ℕ). deepest h es) (chain_next (Some e) e refl) ∙ ap (λ (b : Bool). or (deepest h below) (cond b (Some e) None)) o.none ∙ or-none (deepest h below)))

-- the answer of `last`, from its clause `ran`
pub last_from_yields : {S A : Type 0} {steps : S → Option A → S → Type 0} {s : S} {all : List A} (r : Option A) → ((xs : List A) × Drains steps s xs × (r ≡ last_or None xs)) → YieldsList steps (λ x. x) s all → r ≡ last_or None all
last_from_yields r ran y = let d = ran.1 in ran.2 ∙ ap (last_or None) (sym (map-id ran.0) ∙ items_from_drains ran.0 (d.1.0, d.1.1, λ _. (d.0, d.1.2)) y)

-- the last challenge of a list is the deepest
last_challenge : (h : Errors) (o : Option ℕ) (xs : List ℕ) → last_or o (filter (λ e. is_challenge (h e)) xs) ≡ or (deepest h xs) o
last_challenge h o [] = refl
last_challenge h o (x ∷ xs) = go (last_challenge h (Some x) xs) (last_challenge h o xs) (is_challenge (h x))
  where
    joined : (d : Option ℕ) (c : Option ℕ) → or d (or c o) ≡ or (or d c) o
    joined None c = refl
    joined (Some y) c = refl

    go : last_or (Some x) (filter (λ e. is_challenge (h e)) xs) ≡ or (deepest h xs) (Some x) → last_or o (filter (λ e. is_challenge (h e)) xs) ≡ or (deepest h xs) o
        → (b : Bool) → last_or o (cond b (x ∷ filter (λ e. is_challenge (h e)) xs) (filter (λ e. is_challenge (h e)) xs)) ≡ or (or (deepest h xs) (cond b (Some x) None)) o
    go here later true = here ∙ joined (deepest h xs) (Some x)
    go here later false = later ∙ joined (deepest h xs) None

pub deepest_is : (h : Errors) (xs : List ℕ) → last_or None (filter (λ e. is_challenge (h e)) xs) ≡ deepest h xs
deepest_is h xs = last_challenge h None xs ∙ or-none (deepest h xs)

-- the pair of what is no denied permission does not depend on what stands beneath it
pub undenied : (o : Option Error) (b : Bool) → is_denied (told o false) ≡ false → told o false ≡ told o b
undenied None b q = refl
undenied (Some m) b q = by_kind m.kind q
  where
    class_alike : (k : IoKind) (x : Bool) → x ≡ false → cond (x && false) None (io_class (io_number k)) ≡ cond (x && b) None (io_class (io_number k))
    class_alike k true e = absurd cc
    class_alike k false e = refl

    by_kind : (k : Kind) → is_denied (kind_pair k false) ≡ false → kind_pair k false ≡ kind_pair k b
    by_kind Plain e = refl
    by_kind (Message c) e = refl
    by_kind (ClassificationMarker c) e = refl
    by_kind TryReserveError e = refl
    by_kind (Io k) e = ap (λ (c : Option Class). record { class = c; io_kind = Some k }) (class_alike k (io_number k == 2) e)

-- findings taken pair by pair
abbrev pub with_pair : (Pair → Bool) → Findings → Pair → Findings
with_pair accepts f p = record { class = lesser f.class p.class; accepted = f.accepted || accepts p }

pub folded : (accepts : Pair → Bool) (f : Findings) (ps : List Pair) → fold (with_pair accepts) f ps ≡ findings_with accepts f ps
folded accepts f [] = λ i. record { class = sym (lesser-none f.class) i; accepted = sym (or-false f.accepted) i }
  where
    lesser-none : (a : Option Class) → lesser a None ≡ a
    lesser-none None = refl
    lesser-none (Some x) = refl
folded accepts f (p ∷ ps) =
    folded accepts (with_pair accepts f p) ps
    ∙ (λ i. record { class = lesser_assoc f.class p.class (least_class ps) i; accepted = or_assoc f.accepted (accepts p) (any_pair accepts ps) i })

-- the verdict by the least class is that of the definition
pub verdict : (accepts : Pair → Bool) (ps : List Pair) → retries (findings_of accepts ps) ≡ may_retry accepts ps
verdict accepts ps = ap (λ (t : Bool). (not t && any_pair accepts ps)) (sym (cancelled_least ps))
