-- Frames with one row or one report more than before.
use Rattle.std.proofs.Common.{◌≡◌, ℕ, Bool, true, false, cond, eqb, ◌⊎◌, List, [], ◌∷◌, ◌++◌, Some, None, Option, sym, refl, ap, ◌∙◌, inl, inr, ⊎_elim}
use Rattle.std.specs.Map.{update}
use Rattle.std.proofs.lemmas.Map.{update_here, update_apart}
use Rattle.std.proofs.lemmas.Bool.{cases_Bool, cases_eq, eq-eqb, eqb-true, ne_eqb, cond-true, cond-false, false≢true, true≢false}
use Rattle.trees.specs.Listings.{first_of, opened, rest_of}
use Rattle.trees.specs.Trees.{Tree, Listing, among, first_root, list_of}
use Rattle.layout.specs.declared.frame.Frame.{Frame}
use Rattle.layout.specs.Reports.{Means, reports, rows}
use Rattle.layout.specs.Calls.{Fresh}
use Rattle.layout.proofs.Appends.{Begins, begins}
use Rattle.layout.proofs.Split.{opened_same}
use Rattle.rebuilding.specs.Steps.{New}

module _ {A : Type 0} where
  -- what an update is at a number
  pub updated : (f : ℕ → Option A) (k : ℕ) (v : Option A) (j : ℕ) (u : Option A) → (j ≡ k → u ≡ v) → ((j ≡ k → ⊥) → u ≡ f j) → u ≡ update eqb f k v j
  updated f k v j u here apart =
      ⊎_elim
      (λ e. here e ∙ sym (ap (update eqb f k v) e ∙ update_here f k v))
      (λ n. apart n ∙ sym (update_apart f k v j n))
      (cases_eq j k)

  -- what stands where nothing stood can be taken away again
  pub closed : (f f' : ℕ → Option A) (k : ℕ) (v : Option A) → f k ≡ None → ((j : ℕ) → f' j ≡ update eqb f k v j) → (j : ℕ) → update eqb f' k None j ≡ f j
  closed f f' k v none is j =
      ⊎_elim
      (λ e. ap (update eqb f' k None) e ∙ update_here f' k None ∙ sym none ∙ ap f (sym e))
      (λ n. update_apart f' k None j n ∙ is j ∙ update_apart f k v j n)
      (cases_eq j k)

-- a number in a listing that it begins
pub among_first : (x : ℕ × Tree) (xs : Listing) → among x.0 (x ∷ xs) ≡ true
among_first x xs = cond-true (eqb x.0 x.0) true (among x.0 xs) (eq-eqb x.0 x.0 refl)

among_more : (n : ℕ) (x : ℕ × Tree) (xs : Listing) → among n xs ≡ true → among n (x ∷ xs) ≡ true
among_more n x xs a = go (eqb n x.0)
  where
    go : (b : Bool) → cond b true (among n xs) ≡ true
    go true = refl
    go false = a

-- a number that is not there is none of the roots there
pub not_first : (n : ℕ) (x : ℕ × Tree) (xs : Listing) → among n (x ∷ xs) ≡ false → n ≡ x.0 → ⊥
not_first n x xs a e = true≢false (sym (cond-true (eqb n x.0) true (among n xs) (eq-eqb n x.0 e)) ∙ a)

pub not_later : (n : ℕ) (x : ℕ × Tree) (xs : Listing) → among n (x ∷ xs) ≡ false → among n xs ≡ false
not_later n x xs a = sym (cond-false (eqb n x.0) true (among n xs) (ne_eqb n x.0 (not_first n x xs a))) ∙ a

-- the roots of a longer listing
pub among_last : (n x : ℕ) (t : Tree) (row : Listing) → among n (row ++ (x, t) ∷ []) ≡ true → (among n row ≡ true) ⊎ (n ≡ x)
among_last n x t [] a = inr (go (eqb n x) refl a)
  where
    go : (b : Bool) → eqb n x ≡ b → cond b true false ≡ true → n ≡ x
    go true q a = eqb-true n x q
    go false q a = absurd (false≢true a)
among_last n x t (y ∷ ys) a =
    ⊎_elim
    (λ q. inl (cond-true (eqb n y.0) true (among n ys) q))
    (λ q. ⊎_elim (λ m. inl (among_more n y ys m)) (λ e. inr e) (among_last n x t ys (sym (cond-false (eqb n y.0) true (among n (ys ++ (x, t) ∷ [])) q) ∙ a)))
    (cases_Bool (eqb n y.0))

-- a number that is no root is no row's first
pub no_row : (fs : List Frame) (n : ℕ) → Fresh fs n → rows fs n ≡ None
no_row fs n f = go (rows fs n) refl (begins fs n)
  where
    go : (o : Option Listing) → rows fs n ≡ o → Begins n o → rows fs n ≡ None
    go None q b = q
    go (Some []) q b = absurd b
    go (Some (x ∷ xs)) q b = absurd (not_first n x xs (ap (λ (o : Option Listing). among n (list_of o)) (sym q) ∙ f.row n) (sym b))

-- where the row begins
module _ (before : List Frame) (x : ℕ × Tree) (xs : Listing) (new : (n : ℕ) → among n (x ∷ xs) ≡ true → New before n) where
  pub first_new : New before x.0
  first_new = new x.0 (among_first x xs)

  pub later_new : (n : ℕ) → among n xs ≡ true → New before n
  later_new n a = new n (among_more n x xs a)

  -- the first report of the row is taken out
  module _ (fs after : List Frame) (m : (j : ℕ) → rows fs j ≡ opened (rows before) (x ∷ xs) j) where
    pub row_is : rows fs x.0 ≡ Some (x ∷ xs)
    row_is = m x.0 ∙ update_here (rows before) x.0 (Some (x ∷ xs))

    rest_is : (j : ℕ) → opened (update eqb (rows fs) x.0 None) xs j ≡ opened (rows before) xs j
    rest_is j = opened_same (update eqb (rows fs) x.0 None) (rows before) xs j (closed (rows before) (rows fs) x.0 (Some (x ∷ xs)) (no_row before x.0 first_new.fresh) m)

    pub popped : Means after (update eqb (reports fs) x.0 (first_of (rows fs x.0))) (opened (update eqb (rows fs) x.0 None) (rest_of (rows fs x.0)))
        → Means after (update eqb (reports fs) x.0 (Some x.1)) (opened (rows before) xs)
    popped p = record {
      reports = λ j. p.reports j ∙ ap (λ (o : Option Listing). update eqb (reports fs) x.0 (first_of o) j) row_is;
      rows = λ j. p.rows j ∙ ap (λ (o : Option Listing). opened (update eqb (rows fs) x.0 None) (rest_of o) j) row_is ∙ rest_is j;
    }

    pub popped_answer : first_root (rest_of (rows fs x.0)) ≡ first_root xs
    popped_answer = ap (λ (o : Option Listing). first_root (rest_of o)) row_is
