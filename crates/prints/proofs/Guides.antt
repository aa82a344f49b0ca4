-- The columns of the levels above a line.
use Rattle.std.proofs.Common.{◌≡◌, ℕ, ◌+◌, ◌<◌, ◌≤◌, Bool, List, [], ◌∷◌, Some, None, Option, sym, refl, ap, ap₂, ◌∙◌, subst, arith}
use Rattle.std.proofs.lemmas.Option.{none-some}
use Rattle.nodes.specs.declared.node.Node.{Node}
use Rattle.nodes.specs.declared.node.Position.{Position}
use Rattle.nodes.specs.declared.node.Position.TheVariants.{Head, Main, Nested}
use Rattle.line_plans.specs.Plans.{Above, Column}
use Rattle.prints.specs.LineTexts.{column_at, column_in, column_of}

-- one more than the index of the line that stands for a level
abbrev pub height : Option ℕ → ℕ
height None = 0
height (Some j) = j + 1

column_is : (p : Position) (c : Bool) (up : Option ℕ) → Column p c up → column_in p ≡ Some (c, up)
column_is (Head later causes) c up q = absurd q
column_is (Main n) c up q = absurd q
column_is (Nested n above follows more) c up q = ap₂ (λ (b : Bool) (o : Option ℕ). Some (b, o)) q.0 q.1

-- a level has one column
same_column : (o : Option (Bool × Option ℕ)) (x y : Bool × Option ℕ) → o ≡ Some x → o ≡ Some y → x ≡ y
same_column o x y p q = cc

module _ (xs : List Node) where
  found : (k : ℕ) (o : Option ℕ) (c : Bool) (cs : List Bool) → (a : Above xs k o (c ∷ cs)) → column_at xs o ≡ Some (c, a.1)
  found k o c cs a = ap (column_at xs) a.3 ∙ ap column_of a.5 ∙ column_is a.2.position c a.1 a.6

  low : (k : ℕ) (o : Option ℕ) (cs : List Bool) → Above xs k o cs → height o ≤ k
  low k o [] a = let e = ap height a in omega arith
  low k o (c ∷ cs) a = let e = ap height a.3 in let less = a.4 in omega arith

  -- where there is no column, no line stands for a level
  pub no_column : (k : ℕ) (o : Option ℕ) (cs : List Bool) → Above xs k o cs → column_at xs o ≡ None → cs ≡ []
  no_column k o [] a q = refl
  no_column k o (c ∷ cs) a q = absurd (none-some (c, a.1) (sym q ∙ found k o c cs a))

  -- where there is one, it is the deepest, and the others are those from the level above on
  pub next_column : (k : ℕ) (o : Option ℕ) (cs : List Bool) → Above xs k o cs → (c : Bool) (up : Option ℕ) → column_at xs o ≡ Some (c, up)
      → (j : ℕ) × (ds : List Bool) × (cs ≡ c ∷ ds) × Above xs j up ds × (height up < height o)
  next_column k o [] a c up q = absurd (none-some (c, up) (sym (ap (column_at xs) a) ∙ q))
  next_column k o (d ∷ ds) a c up q =
      let both : (d, a.1) ≡ (c, up) = same_column (column_at xs o) (d, a.1) (c, up) (found k o d ds a) q in
      let here : d ≡ c = ap (λ (p : Bool × Option ℕ). p.0) both in
      let above : a.1 ≡ up = ap (λ (p : Bool × Option ℕ). p.1) both in
      let rest : Above xs a.0 up ds = subst (λ (u : Option ℕ). Above xs a.0 u ds) above a.7 in
      let top = ap height a.3 in
      let less = low a.0 up ds rest in
      let falls : height up < height o = omega arith in
      (a.0, ds, ap (λ (b : Bool). b ∷ ds) here, rest, falls)
