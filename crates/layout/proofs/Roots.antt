-- No number is the root of two reports of the frames.
use Rattle.std.proofs.Common.{◌≡◌, ℕ, ◌+◌, ◌≤◌, true, false, eqb, List, [], ◌∷◌, length, is_some, Some, None, Option, sym, refl, ap, ◌∙◌, subst, ⊎_elim, arith}
use mathlib.Core.Bool.{Bool-set}
use mathlib.Core.Logic.{∥∥₁_elim}
use native.Mathlib.Nat.{ℕ_set}
use Rattle.std.proofs.lemmas.Bool.{cases_eq, cases_lt, ne_eqb, cond-false, false≢true}
use Rattle.trees.specs.Trees.{Listing, among, first_root, list_of}
use Rattle.trees.specs.Numbered.{Numbered, node, tally}
use Rattle.trees.specs.Roots.{Differ, RootsDiffer}
use Rattle.trees.proofs.Numbered.{one_same, among_counts, listing_differs}
use Rattle.trees.proofs.Sets.{option_set}
use Rattle.layout.specs.declared.frame.Frame.{Frame}
use Rattle.layout.specs.Layout.{Block, nodes, role_of, tallies, Laid, Sound}
use Rattle.layout.specs.Reports.{reports, rows}
use Rattle.layout.proofs.Held.{tally_past, tallies_past}
use Rattle.layout.proofs.Told.{told}
use Rattle.layout.proofs.Means.{found}
use Rattle.layout.proofs.Front.{front_report, front_row}
use Rattle.layout.proofs.Split.{not_among}

-- a row that holds a number is there
there : (n : ℕ) (o : Option Listing) → among n (list_of o) ≡ true → is_some o ≡ true
there n None a = absurd (false≢true a)
there n (Some x) a = refl

-- the first block has each number once at most
first_counts_once : {fs : List Frame} {head : Option ℕ} {count : ℕ} {b : Block} {rest : List Block} {free : Numbered} → Laid fs head count (b ∷ rest) free → (n : ℕ) → tally n (nodes b) + tallies n rest ≤ 1
first_counts_once {fs} {b = b} {rest = rest} l n =
    ⊎_elim
    (λ lt. let a = l.once n lt in omega arith)
    (λ ge. let m : length fs ≤ n = (let a = l.long in omega arith) in
    let a = tally_past fs (role_of b) (nodes b) n l.stand.0 m in let c = tallies_past fs rest n l.stand.1 m in omega arith)
    (cases_lt n 1024)

module _ {fs : List Frame} {head : Option ℕ} {count : ℕ} {live : List Block} {free : Numbered} (l : Laid fs head count live free) where
  alone : (n k : ℕ) → is_some (reports fs n) ≡ true → among n (list_of (rows fs k)) ≡ false
  alone n k s =
      let f = front_report l n s in
      let a = first_counts_once f.laid n in
      let b = one_same n n refl in
      ap (λ (u : Option Listing). among n (list_of u)) (told f.laid k).1 ∙ not_among f.rest n k (omega arith)

  apart_rows : (n k m : ℕ) → among n (list_of (rows fs k)) ≡ true → among n (list_of (rows fs m)) ≡ true → k ≡ m
  apart_rows n k m a b =
      let f = front_row l k (there n (rows fs k) a) in
      let is = found k _ _ _ (told f.laid k).1 in
      let c = among_counts n (node k f.error f.place f.kids f.more) (sym (ap (λ (u : Option Listing). among n (list_of u)) is) ∙ a) in
      let d = first_counts_once f.laid n in
      ⊎_elim
      (λ q. q)
      (λ q. absurd (false≢true (
      sym (ap (λ (u : Option Listing). among n (list_of u)) ((told f.laid m).1 ∙ cond-false (eqb m k) _ _ (ne_eqb m k (λ r. q (sym r)))) ∙ not_among f.rest n m (omega arith)) ∙ b)))
      (cases_eq k m)

  within : (k : ℕ) → Differ (list_of (rows fs k))
  within k = go (rows fs k) refl
    where
      go : (o : Option Listing) → rows fs k ≡ o → Differ (list_of o)
      go None q = tt
      go (Some x) q =
          let f = front_row l k (ap is_some q) in
          let is = found k _ _ _ (told f.laid k).1 in
          subst (λ (u : Option Listing). Differ (list_of u)) (sym is ∙ q) (listing_differs (node k f.error f.place f.kids f.more) (λ n. let a = first_counts_once f.laid n in omega arith))

  first : (k : ℕ) → is_some (rows fs k) ≡ true → first_root (list_of (rows fs k)) ≡ Some k
  first k s = let f = front_row l k s in ap (λ (u : Option Listing). first_root (list_of u)) (found k _ _ _ (told f.laid k).1)

differ_prop : (x : Listing) → IsProp (Differ x)
differ_prop [] = hlevel
differ_prop (y ∷ ys) = let p = differ_prop ys in hlevel Bool-set

pub roots_differ : {fs : List Frame} {head : Option ℕ} {count : ℕ} → Sound fs head count → RootsDiffer (reports fs) (rows fs)
roots_differ s = record {
  alone = λ n k a. ∥∥₁_elim s (Bool-set _ _) (λ l. alone l.laid n k a);
  rows = λ n k m a b. ∥∥₁_elim s (ℕ_set _ _) (λ l. apart_rows l.laid n k m a b);
  within = λ k. ∥∥₁_elim s (differ_prop _) (λ l. within l.laid k);
  first = λ k a. ∥∥₁_elim s (option_set ℕ_set _ _) (λ l. first l.laid k a);
}
