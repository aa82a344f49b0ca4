-- The print of a chain.
use Rattle.std.proofs.Common.{◌≡◌, ℕ, ◌<◌, List, ◌++◌, length, drop, Ok, Err, Result, sym, refl, ap, ap₂, ◌∙◌, subst}
use Rattle.vocabulary.specs.declared.fault.PrintFault.{PrintFault}
use Rattle.model.specs.Host.{Errors}
use Rattle.trees.specs.Trees.{Tree}
use Rattle.nodes.specs.declared.node.Node.{Node}
use Rattle.nodes.specs.Begins.{Flat, Flattens}
use Rattle.nodes.specs.Check.{node_at}
use Rattle.nodes.specs.Flattening.{flattening}
use Rattle.print_forms.specs.Prints.{chain_print, inline_print}
use Rattle.print_forms.specs.Shown.{host_text}
use Rattle.buffers.specs.Printed.{capped}
use Rattle.prints.specs.ChainPrints.{ChainPrinted, chain_form, errors_form, shown_in}
use Rattle.prints.specs.Puts.{TextPrinted}
use Rattle.prints.specs.declared.chain.Form.{Form}
use Rattle.prints.specs.declared.chain.Form.TheVariants.{Lines, Inline}
use Rattle.prints.proofs.Roots.{root_error, some}

pub nonempty : (h : Errors) (xs : List Node) → Flat h xs → 0 < length xs
nonempty h xs w = some h w.0 xs w.1.lists

module _ (h : Errors) (f : Form) (xs : List Node) where
  -- what is put of a list
  abbrev text : List ℕ
  text = errors_form f h (host_text h (node_at xs 0).error) (shown_in h xs)

  of_tree : (f : Form) (t : Tree) → errors_form f h (host_text h t.error) (shown_in h (flattening h t)) ≡ chain_form f h t
  unfolding chain_print inline_print
  of_tree Lines t = refl
  of_tree Inline t = refl

  print_is : (t : Tree) → Flattens h xs t → text ≡ chain_form f h t
  print_is t w = ap₂ (λ (o : List ℕ) (ys : List Node). errors_form f h o (shown_in h ys)) (ap (host_text h) (root_error h t xs w.lists)) (sym w.lists) ∙ of_tree f t

  -- what is printed of the nodes is printed of the chain
  chain_of_text : Flat h xs → (old new : List ℕ) (r : Result ℕ PrintFault) → TextPrinted text old new r → ChainPrinted h xs (chain_form f h) old new r
  chain_of_text flat old new (Ok n) p = (flat, λ t w. subst (λ (x : List ℕ). (n ≡ length x) × (new ≡ x ++ drop n old)) (print_is t w) (p.1, p.2))
  chain_of_text flat old new (Err f') p =
      subst (λ (fault : PrintFault). ChainPrinted h xs (chain_form f h) old new (Err fault)) (sym p.0)
      ((flat, λ t w. subst (λ (x : List ℕ). (capped (length text) ≡ capped (length x)) × (length old < length x)) (print_is t w) (refl, p.1)), p.2)

  pub chain_printed : (ys : List Node) → xs ≡ ys → Flat h xs → (old new : List ℕ) (r : Result ℕ PrintFault) → TextPrinted text old new r → ChainPrinted h ys (chain_form f h) old new r
  chain_printed ys same flat old new r p = subst (λ (zs : List Node). ChainPrinted h zs (chain_form f h) old new r) same (chain_of_text flat old new r p)
