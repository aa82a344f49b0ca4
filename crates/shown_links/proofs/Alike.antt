-- Lists of nodes that are alike in what a function keeps of each.
use Rattle.std.proofs.Common.{◌≡◌, ℕ, List, map, length, get_or, sym, ap, ◌∙◌}
use Rattle.std.proofs.Math.ListN.{get_or-map}
use Rattle.std.proofs.lemmas.List.{length-map}
use Rattle.std.proofs.lemmas.Simd.{map-map}
use Rattle.nodes.specs.declared.node.Node.{Node}
use Rattle.nodes.specs.Check.{blank, node_at}

module _ {A : Type 0} (f : Node → A) (xs ys : List Node) (same : map f xs ≡ map f ys) where
  pub alike_length : length xs ≡ length ys
  alike_length = sym (length-map xs f) ∙ ap (λ (zs : List A). length zs) same ∙ length-map ys f

  pub alike_at : (i : ℕ) → f (node_at xs i) ≡ f (node_at ys i)
  alike_at i = sym (get_or-map f xs i blank) ∙ ap (λ (zs : List A). get_or zs i (f blank)) same ∙ get_or-map f ys i blank

  -- they are alike in whatever depends on that
  pub alike_in : {B : Type 0} (g : A → B) → map (λ (x : Node). g (f x)) xs ≡ map (λ (x : Node). g (f x)) ys
  alike_in g = sym (map-map g f xs) ∙ ap (map g) same ∙ map-map g f ys
