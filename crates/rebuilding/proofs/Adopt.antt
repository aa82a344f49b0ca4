-- The first reports of a row put first under a report.
use Rattle.std.proofs.Common.{◌≡◌, ℕ, ◌+◌, ◌<◌, ◌≤◌, true, eqb, List, [], ◌∷◌, ◌++◌, reverse, length, take, drop, is_some, Some, None, Option, sym, refl, ap, ◌∙◌, subst, ap₂, arith}
use Rattle.std.specs.Map.{update}
use Rattle.std.proofs.Math.Seq.{take-add}
use Rattle.std.proofs.lemmas.List.{drop-drop, length-drop, reverse-append}
use Rattle.std.proofs.lemmas.Map.{update_here, update_apart}
use Rattle.trees.specs.Listings.{first_of, opened, rest_of}
use Rattle.trees.specs.Trees.{Forest, empty, tree, Tree, ◌then◌, Listing, forest, first_root}
use Rattle.layout.specs.declared.frame.Frame.{Frame}
use Rattle.layout.specs.Reports.{Means, reports, rows}
use Rattle.rebuilding.specs.Steps.{adopting, with_first, WithReport}
use Rattle.rebuilding.proofs.Entries.{forest_append}
use Rattle.rebuilding.proofs.Beside.{updated, first_new, later_new, not_first, not_later, popped, popped_answer, row_is}

pub then_assoc : (a b c : Forest) → (a then b) then c ≡ a then (b then c)
then_assoc empty b c = refl
then_assoc (tree e p k r) b c = ap (tree e p k) (then_assoc r b c)

adopting_more : (t : Tree) (a b : Listing) → adopting (adopting t a) b ≡ adopting t (a ++ b)
adopting_more t a b =
    ap (λ (f : Forest). record { error = t.error; place = t.place; children = f })
    (sym (then_assoc (forest (reverse b)) (forest (reverse a)) t.children)
    ∙ ap (λ (f : Forest). f then t.children) (sym (forest_append (reverse b) (reverse a)) ∙ ap forest (sym (reverse-append a b))))

module _ (before fs : List Frame) (x : ℕ) (t : Tree) where
  -- one report, the first of the row
  module _ (y : ℕ × Tree) (ys : Listing) (w : WithReport before fs (Some y.0) (y ∷ ys) x t) where
    apart : x ≡ y.0 → ⊥
    apart = not_first x y ys w.apart

    there_row : is_some (rows fs y.0) ≡ true
    there_row = ap is_some (row_is before y ys w.new fs fs w.means.rows)

    module _ (mid : List Frame) (p : Means mid (update eqb (reports fs) y.0 (first_of (rows fs y.0))) (opened (update eqb (rows fs) y.0 None) (rest_of (rows fs y.0)))) where
      out : Means mid (update eqb (reports fs) y.0 (Some y.1)) (opened (rows before) ys)
      out = popped before y ys w.new fs mid w.means.rows p

      root_is : reports mid x ≡ Some t
      root_is = out.reports x ∙ update_apart (reports fs) y.0 (Some y.1) x apart ∙ w.means.reports x ∙ update_here (reports before) x (Some t)

      child_is : reports mid y.0 ≡ Some y.1
      child_is = out.reports y.0 ∙ update_here (reports fs) y.0 (Some y.1)

      module _ (after : List Frame) (m : Means after (update eqb (update eqb (reports mid) y.0 None) x (with_first (reports mid x) (reports mid y.0))) (rows mid)) where
        elsewhere : (k : ℕ) → (k ≡ x → ⊥) → update eqb (reports mid) y.0 None k ≡ reports before k
        elsewhere k n =
            sym (updated (reports mid) y.0 None k (reports before k)
            (λ e. ap (reports before) e ∙ (first_new before y ys w.new).fresh.report)
            (λ o. sym (out.reports k ∙ update_apart (reports fs) y.0 (Some y.1) k o ∙ w.means.reports k ∙ update_apart (reports before) x (Some t) k n)))

        one : (next : Option ℕ) → next ≡ first_root (rest_of (rows fs y.0)) → WithReport before after next ys x (adopting t (y ∷ []))
        one next q = record {
          first = q ∙ popped_answer before y ys w.new fs mid w.means.rows;
          new = later_new before y ys w.new;
          root = w.root;
          apart = not_later x y ys w.apart;
          means = record {
            reports = λ k. updated (reports before) x _ k (reports after k)
                (λ e. ap (reports after) e ∙ m.reports x ∙ update_here (update eqb (reports mid) y.0 None) x _ ∙ ap₂ with_first root_is child_is)
                (λ n. m.reports k ∙ update_apart (update eqb (reports mid) y.0 None) x _ k n ∙ elsewhere k n);
            rows = λ k. m.rows k ∙ out.rows k;
          };
        }

  -- the first of a row that has one
  module _ (head : Option ℕ) (row : Listing) (w : WithReport before fs head row x t) (some : 0 < length row) where
    record Parts : Type 0 where
      y : ℕ × Tree
      ys : Listing
      is : row ≡ y ∷ ys

    parts : Parts
    parts = go row refl
      where
        go : (r : Listing) → row ≡ r → Parts
        go [] q = absurd (let a : length row ≡ 0 = ap (λ (r : Listing). length r) q in omega arith)
        go (y ∷ ys) q = record { y = y; ys = ys; is = q }

    pub head_some : is_some head ≡ true
    head_some = ap is_some (w.first ∙ ap first_root parts.is)

    module _ (child : ℕ) (is : head ≡ Some child) where
      child_is_first : child ≡ parts.y.0
      child_is_first = let a : Some child ≡ Some parts.y.0 = sym is ∙ w.first ∙ ap first_root parts.is in cc

      whole : WithReport before fs (Some parts.y.0) (parts.y ∷ parts.ys) x t
      whole =
          subst (λ (o : Option ℕ). WithReport before fs o (parts.y ∷ parts.ys) x t) (w.first ∙ ap first_root parts.is)
          (subst (λ (r : Listing). WithReport before fs head r x t) parts.is w)

      pub row_there : is_some (rows fs child) ≡ true
      row_there = ap (λ (n : ℕ). is_some (rows fs n)) child_is_first ∙ there_row parts.y parts.ys whole

      pub root_apart : x ≡ child → ⊥
      root_apart e = apart parts.y parts.ys whole (e ∙ child_is_first)

      module _ (mid : List Frame) (p : Means mid (update eqb (reports fs) child (first_of (rows fs child))) (opened (update eqb (rows fs) child None) (rest_of (rows fs child)))) where
        p_first : Means mid (update eqb (reports fs) parts.y.0 (first_of (rows fs parts.y.0))) (opened (update eqb (rows fs) parts.y.0 None) (rest_of (rows fs parts.y.0)))
        p_first = subst (λ (n : ℕ). Means mid (update eqb (reports fs) n (first_of (rows fs n))) (opened (update eqb (rows fs) n None) (rest_of (rows fs n)))) child_is_first p

        pub root_there : is_some (reports mid x) ≡ true
        root_there = ap is_some (root_is parts.y parts.ys whole mid p_first)

        pub child_there : is_some (reports mid child) ≡ true
        child_there = ap (λ (n : ℕ). is_some (reports mid n)) child_is_first ∙ ap is_some (child_is parts.y parts.ys whole mid p_first)

        pub adopted : (after : List Frame) (next : Option ℕ) → Means after (update eqb (update eqb (reports mid) child None) x (with_first (reports mid x) (reports mid child))) (rows mid)
            → next ≡ first_root (rest_of (rows fs child)) → WithReport before after next (drop 1 row) x (adopting t (take 1 row))
        adopted after next m q =
            subst (λ (r : Listing). WithReport before after next (drop 1 r) x (adopting t (take 1 r))) (sym parts.is)
            (one parts.y parts.ys whole mid p_first after
            (subst (λ (n : ℕ). Means after (update eqb (update eqb (reports mid) n None) x (with_first (reports mid x) (reports mid n))) (rows mid)) child_is_first m)
            next (subst (λ (n : ℕ). next ≡ first_root (rest_of (rows fs n))) child_is_first q))

-- a report is left
pub left : (row : Listing) (i count : ℕ) → i < count → count ≤ length row → 0 < length (drop i row)
left row i count lt le = let a = length-drop i row in omega arith

-- the loop: some of the reports are adopted
module _ (before : List Frame) (x : ℕ) (t : Tree) (row : Listing) where
  abbrev pub Adopting : List Frame → Option ℕ → ℕ → Type 0
  Adopting fs head i = WithReport before fs head (drop i row) x (adopting t (take i row))

  pub adopting-one : (fs : List Frame) (next : Option ℕ) (i : ℕ) → WithReport before fs next (drop 1 (drop i row)) x (adopting (adopting t (take i row)) (take 1 (drop i row)))
      → Adopting fs next (i + 1)
  adopting-one fs next i w =
      subst (λ (r : Listing). WithReport before fs next r x (adopting t (take (i + 1) row))) (drop-drop 1 i row)
      (subst (λ (u : Tree). WithReport before fs next (drop 1 (drop i row)) x u) (adopting_more t (take i row) (take 1 (drop i row)) ∙ ap (adopting t) (sym (take-add i 1 row))) w)
