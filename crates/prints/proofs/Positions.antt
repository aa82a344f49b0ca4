-- The text of a line by its position.
use Rattle.std.proofs.Common.{◌≡◌, ℕ, ◌<◌, Bool, true, false, cond, not, ◌||◌, List, [], ◌∷◌, ◌++◌, length, Some, None, Option, eqb, ltb, sym, refl, ap, ap₂, ◌∙◌, subst}
use Rattle.std.proofs.lemmas.List.{append_assoc, append-nil}
use Rattle.std.proofs.lemmas.Option.{same_Some}
use Rattle.model.specs.Host.{Errors}
use Rattle.nodes.specs.declared.node.Line.{Line as Planned}
use Rattle.nodes.specs.declared.node.Node.{Node}
use Rattle.nodes.specs.declared.node.Position.{Position}
use Rattle.nodes.specs.declared.node.Position.TheVariants.{Head, Main, Nested}
use Rattle.nodes.specs.Check.{node_at}
use Rattle.nodes.specs.Nodes.{Content}
use Rattle.print_forms.specs.Layout.{Line, head, cause, at_branch, columns, continues, label, no_columns, number}
use Rattle.print_forms.specs.Prints.{caption, connector, guides, indent, label_text, line_text, margin, numbered}
use Rattle.print_forms.specs.Shown.{error_text}
use Rattle.line_plans.specs.Plans.{Above, PlannedAs, Stands, line_at, value_of}
use Rattle.shown_links.specs.Linked.{content_of}
use Rattle.prints.specs.LineTexts.{after_text, before_text, caption_after}

module _ (xs : List Node) (k : ℕ) where
  -- on a level of its own
  pub nested_before : (n up : Option ℕ) (follows more : Bool) (x : Line Content) → Stands xs k (Nested n up follows more) x
      → (cs : List Bool) × Above xs k up cs × (before_text x ≡ indent ++ (guides cs ++ (connector (follows || more) ++ label_text n)))
  nested_before n up follows more (head later causes v) q = absurd q
  nested_before n up follows more (cause x) q = (
    q.0,
    q.2,
    ap (λ (bs : List Bool). indent ++ (margin bs (continues x) ++ label_text (label x))) q.1
        ∙ ap₂ (λ (b : Bool) (o : Option ℕ). indent ++ (margin (follows ∷ q.0) b ++ label_text o)) (sym q.4) (sym q.3)
        ∙ ap (λ (t : List ℕ). indent ++ t) (append_assoc (guides q.0) (connector (follows || more)) (label_text n)),
  )

  -- on the main chain
  pub main_before : (n : ℕ) (x : Line Content) → Stands xs k (Main n) x → before_text x ≡ indent ++ numbered n
  main_before n (head later causes v) q = absurd q
  main_before n (cause x) q =
      ap (λ (bs : List Bool). indent ++ (margin bs (continues x) ++ label_text (cond (no_columns bs || (at_branch x.path || (continues x || ltb 0 (number x.path)))) (Some (number x.path)) None))) q.0
      ∙ ap (λ (m : ℕ). indent ++ numbered m) (sym q.1)

  cond_not : (b : Bool) → cond (not b) caption [] ≡ cond b [] caption
  cond_not true = refl
  cond_not false = refl

  pub behind_is : (p : Position) (x : Line Content) → Stands xs k p x → caption_after p ≡ after_text x
  behind_is (Head later causes) (head after n v) q = ap (λ (b : Bool). cond b caption []) q.1 ∙ cond_not (eqb n 0)
  behind_is (Head later causes) (cause x) q = absurd q
  behind_is (Main m) (head after n v) q = absurd q
  behind_is (Main m) (cause x) q = refl
  behind_is (Nested m up follows more) (head after n v) q = absurd q
  behind_is (Nested m up follows more) (cause x) q = refl

  -- the line that is planned at an index stands as the layout says
  pub planned_line : (x : Line Content) → PlannedAs xs k x → (l : Planned) → line_at xs k ≡ Some l → (l.node < length xs) × (content_of (node_at xs l.node) ≡ value_of x) × Stands xs k l.position x
  planned_line x p l q =
      subst (λ (m : Planned). (m.node < length xs) × (content_of (node_at xs m.node) ≡ value_of x) × Stands xs k m.position x) (same_Some _ _ (sym p.is ∙ q)) (p.within, p.shows, p.stands)

-- the text of a line in three parts
pub parts : (h : Errors) (x : Line Content) → before_text x ++ (error_text h (value_of x).error ++ after_text x) ≡ line_text h x
parts h (head later n v) = refl
parts h (cause x) =
    let bars : List ℕ = margin (columns x.path) (continues x) in
    ap (λ (t : List ℕ). before_text (cause x) ++ t) (append-nil (error_text h x.value.error))
    ∙ append_assoc indent (bars ++ label_text (label x)) (error_text h x.value.error)
    ∙ ap (λ (t : List ℕ). indent ++ t) (append_assoc bars (label_text (label x)) (error_text h x.value.error))
