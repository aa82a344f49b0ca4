-- The lines of a tree put one after another.
use Rattle.std.proofs.Common.{◌≡◌, ℕ, zero, suc, ◌+◌, ◌<◌, ◌≤◌, List, [], ◌∷◌, ◌++◌, length, take, sym, refl, ap, ◌∙◌, subst, arith}
use Rattle.std.proofs.lemmas.List.{append_assoc, append-nil, take_all}
use Rattle.model.specs.Host.{Errors}
use Rattle.nodes.specs.declared.node.Node.{Node}
use Rattle.nodes.specs.Nodes.{Content}
use Rattle.print_forms.specs.Layout.{Line}
use Rattle.print_forms.specs.Prints.{line_text, lines_text}
use Rattle.line_plans.specs.Plans.{PlannedAs, Plans}
use Rattle.buffers.specs.Printed.{Printed}
use Rattle.buffers.proofs.Printed.{together}
use Rattle.prints.specs.LineTexts.{LinesPlanned}

module _ (h : Errors) where
  pub lines_text-append : (xs ys : List (Line Content)) → lines_text h (xs ++ ys) ≡ lines_text h xs ++ lines_text h ys
  lines_text-append [] ys = refl
  lines_text-append (x ∷ xs) ys = ap (λ (t : List ℕ). line_text h x ++ t) (lines_text-append xs ys) ∙ sym (append_assoc (line_text h x) (lines_text h xs) (lines_text h ys))

  lines_more : (xs : List (Line Content)) (x : Line Content) → lines_text h (xs ++ (x ∷ [])) ≡ lines_text h xs ++ line_text h x
  lines_more xs x = lines_text-append xs (x ∷ []) ∙ ap (λ (t : List ℕ). lines_text h xs ++ t) (append-nil (line_text h x))

module _ (nodes : List Node) where
  -- the line at an index
  one_line : (xs : List (Line Content)) (s i : ℕ) → Plans nodes s xs → i < length xs → (x : Line Content) × (take (i + 1) xs ≡ take i xs ++ (x ∷ [])) × PlannedAs nodes (s + i) x
  one_line [] s i p lt = absurd (omega arith)
  one_line (x ∷ xs) s zero p lt = (x, refl, let e : s ≡ s + 0 = omega arith in subst (λ (k : ℕ). PlannedAs nodes k x) e p.0)
  one_line (x ∷ xs) s (suc i) p lt =
      let r = one_line xs (s + 1) i p.1 (omega arith) in
      let e : suc i + 1 ≡ suc (i + 1) = omega arith in
      let k : (s + 1) + i ≡ s + suc i = omega arith in
      (r.0, ap (λ (n : ℕ). take n (x ∷ xs)) e ∙ ap (λ (ys : List (Line Content)). x ∷ ys) r.1, subst (λ (n : ℕ). PlannedAs nodes n r.0) k r.2)

  pub line_there : (n i : ℕ) (xs : List (Line Content)) → LinesPlanned nodes n xs → i < n → (x : Line Content) × (take (i + 1) xs ≡ take i xs ++ (x ∷ [])) × PlannedAs nodes i x
  line_there n i xs p lt =
      let c = p.count in
      let r = one_line xs 0 i p.lines (omega arith) in
      let e : 0 + i ≡ i = omega arith in
      (r.0, r.1, subst (λ (k : ℕ). PlannedAs nodes k r.0) e r.2)

  module _ (h : Errors) where
    -- one line more
    pub put_more : (n i : ℕ) (xs : List (Line Content)) → LinesPlanned nodes n xs → i < n → (at to : ℕ) (old now new : List ℕ) → Printed 0 at old now (lines_text h (take i xs))
        → ((x : Line Content) → PlannedAs nodes i x → Printed at to now new (line_text h x)) → Printed 0 to old new (lines_text h (take (i + 1) xs))
    put_more n i xs p lt at to old now new before here =
        let l = line_there n i xs p lt in
        subst (Printed 0 to old new) (sym (ap (lines_text h) l.1 ∙ lines_more h (take i xs) l.0)) (together _ _ _ _ _ _ _ _ before (here l.0 l.2))

    -- after the last
    pub put_all : (n i : ℕ) (xs : List (Line Content)) → LinesPlanned nodes n xs → n ≤ i → (at : ℕ) (old now : List ℕ) → Printed 0 at old now (lines_text h (take i xs)) → Printed 0 at old now (lines_text h xs)
    put_all n i xs p end at old now q = let c = p.count in subst (λ (ys : List (Line Content)). Printed 0 at old now (lines_text h ys)) (take_all i xs (omega arith)) q
