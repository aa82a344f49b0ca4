-- Lists of lines.
use Rattle.std.proofs.Common.{◌≡◌, ℕ, ◌+◌, Bool, true, List, [], ◌∷◌, ◌++◌, length, refl, ap, subst, arith}
use Rattle.std.proofs.lemmas.List.{length-append}
use Rattle.nodes.specs.declared.node.Node.{Node}
use Rattle.nodes.specs.Nodes.{Content}
use Rattle.nodes.specs.Rows.{Rows, none, node, count}
use Rattle.print_forms.specs.Layout.{Cause, Line, Path, cause, cause_lines, causes_of, report_lines}
use Rattle.print_forms.specs.Shown.{width}
use Rattle.line_plans.specs.Plans.{Plans}

module _ {A : Type 0} where
  pub length-cause_lines : (xs : List (Cause A)) → length (cause_lines xs) ≡ length xs
  length-cause_lines [] = refl
  length-cause_lines (x ∷ xs) = let e = length-cause_lines xs in omega arith

  pub cause_lines-append : (xs ys : List (Cause A)) → cause_lines (xs ++ ys) ≡ cause_lines xs ++ cause_lines ys
  cause_lines-append [] ys = refl
  cause_lines-append (x ∷ xs) ys = ap (λ (ls : List (Line A)). cause x ∷ ls) (cause_lines-append xs ys)

  pub length-causes_of : (p : Path) (i : ℕ) (r : Rows A) → length (causes_of p i r) ≡ count r
  length-causes_of p i none = refl
  length-causes_of p i (node v c r) =
      let way : Path = record { index = i; after = width r } ∷ p in
      let a = length-append (causes_of way 0 c) (causes_of p (i + 1) r) in
      let b = length-causes_of way 0 c in
      let d = length-causes_of p (i + 1) r in
      omega arith

  pub length-report_lines : (later : Bool) (r : Rows A) → length (report_lines later r) ≡ count r
  length-report_lines later none = refl
  length-report_lines later (node v c r) =
      let a = length-append (cause_lines (causes_of [] 0 c)) (report_lines true r) in
      let b = length-cause_lines (causes_of [] 0 c) in
      let d = length-causes_of [] 0 c in
      let e = length-report_lines true r in
      omega arith

pub plans-append : (xs : List Node) (k : ℕ) (ls bs : List (Line Content)) → Plans xs k ls → Plans xs (k + length ls) bs → Plans xs k (ls ++ bs)
plans-append xs k [] bs v w = let e : k + 0 ≡ k = omega arith in subst (λ (j : ℕ). Plans xs j bs) e w
plans-append xs k (a ∷ ls) bs v w =
    let e : k + length (a ∷ ls) ≡ k + 1 + length ls = omega arith in
    (v.0, plans-append xs (k + 1) ls bs v.1 (subst (λ (j : ℕ). Plans xs j bs) e w))
