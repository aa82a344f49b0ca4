-- Laws of numbered forests.
use Rattle.std.proofs.Common.{◌≡◌, ℕ, ◌+◌, ◌≤◌, true, false, eqb, ◌∷◌, ◌++◌, sym, refl, ap, ◌∙◌, ⊎_elim, arith}
use Rattle.std.specs.Option.{option_or}
use Rattle.std.proofs.lemmas.Bool.Decides.{nat_tests}
use Rattle.std.proofs.lemmas.Bool.{ne_eqb, eqb-true, cond-false, cases_Bool, false≢true}
use Rattle.vocabulary.specs.declared.frame_error.FrameError.{FrameError}
use Rattle.trees.specs.Trees.{Forest, tree, forest, Listing, ◌then◌, among}
use Rattle.trees.specs.Numbered.{Numbered, none, node, ◌beside◌, shape, listing, tree_of, size, one, tally, head_of, last_from}
use Rattle.trees.specs.Laws.{Counted}
use Rattle.trees.specs.Roots.{Differ}

pub one_same : (n i : ℕ) → n ≡ i → one n i ≡ 1
unfolding one
one_same n i e = grind (arith, nat_tests)

pub one_other : (n i : ℕ) → (n ≡ i → ⊥) → one n i ≡ 0
unfolding one
one_other n i e = grind (arith, nat_tests)

-- a number that does not count is another number
pub apart : (n i : ℕ) → one n i ≡ 0 → n ≡ i → ⊥
apart n i z e = let h = one_same n i e in omega arith

pub tally_beside : (n : ℕ) (r s : Numbered) → tally n (r beside s) ≡ tally n r + tally n s
tally_beside n none s = omega arith
tally_beside n (node i e p k r) s = let h = tally_beside n r s in omega arith

pub size_beside : (r s : Numbered) → size (r beside s) ≡ size r + size s
size_beside none s = omega arith
size_beside (node i e p k r) s = let h = size_beside r s in omega arith

pub shape_beside : (r s : Numbered) → shape (r beside s) ≡ shape r then shape s
shape_beside none s = refl
shape_beside (node i e p k r) s = ap (λ (x : Forest). tree e p (shape k) x) (shape_beside r s)

pub listing_beside : (r s : Numbered) → listing (r beside s) ≡ listing r ++ listing s
listing_beside none s = refl
listing_beside (node i e p k r) s = ap (λ (x : Listing). (i, tree_of e p k) ∷ x) (listing_beside r s)

pub forest-listing : (r : Numbered) → forest (listing r) ≡ shape r
forest-listing none = refl
forest-listing (node i e p k r) = ap (λ (x : Forest). tree e p (shape k) x) (forest-listing r)

pub among_absent : (n : ℕ) (r : Numbered) → tally n r ≡ 0 → among n (listing r) ≡ false
among_absent n none z = refl
among_absent n (node i e p k r) z = cond-false (eqb n i) _ _ (ne_eqb n i (apart n i (omega arith))) ∙ among_absent n r (omega arith)

pub head_beside : (r s : Numbered) → option_or (head_of r) (head_of s) ≡ head_of (r beside s)
head_beside none s = refl
head_beside (node i e p k r) s = refl

pub last_in : (i : ℕ) (e : FrameError) (p : ℕ) (k r : Numbered) → 1 ≤ tally (last_from i r) (node i e p k r)
last_in i e p k none = let h = one_same i i refl in omega arith
last_in i e p k (node j f q l r) = let h = last_in j f q l r in omega arith

pub last_beside : (i : ℕ) (r : Numbered) (j : ℕ) (e : FrameError) (p : ℕ) (k s : Numbered) → last_from i (r beside node j e p k s) ≡ last_from j s
last_beside i none j e p k s = refl
last_beside i (node a f q l r) j e p k s = last_beside a r j e p k s

pub counted : Counted
counted none = refl
counted (node i e p k r) = let a = counted k in let b = counted r in omega arith

pub among_counts : (n : ℕ) (r : Numbered) → among n (listing r) ≡ true → 1 ≤ tally n r
among_counts n none a = absurd (false≢true a)
among_counts n (node i e p k r) a =
    ⊎_elim
    (λ q. let o = one_same n i (eqb-true n i q) in omega arith)
    (λ q. let b = among_counts n r (sym (cond-false (eqb n i) true (among n (listing r)) q) ∙ a) in omega arith)
    (cases_Bool (eqb n i))

pub listing_differs : (r : Numbered) → ((n : ℕ) → tally n r ≤ 1) → Differ (listing r)
listing_differs none u = tt
listing_differs (node i e p k r) u =
    (among_absent i r (let a = u i in let b = one_same i i refl in omega arith), listing_differs r (λ n. let a = u n in omega arith))
