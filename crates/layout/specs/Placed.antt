-- Where the tree of a report lies, for those that follow its links.
use Rattle.std.specs.Prelude.{◌≡◌, ℕ, ◌+◌, ◌<◌, ◌≤◌, List, length, slice_index_or}
use Rattle.trees.specs.Trees.{Tree}
use Rattle.trees.specs.Numbered.{Numbered, shape, size, head_of}
use Rattle.layout.specs.declared.frame.Role.TheVariants.{Linked}
use Rattle.layout.specs.declared.frame.Frame.{Frame}
use Rattle.layout.specs.Layout.{blank, Held}

-- the frame `x` is the root of the tree `t`, whose children are held under the numbers of `kids`
pub record Placed (fs : List Frame) (x : ℕ) (t : Tree) (kids : Numbered) : Type 0 where
  pub below : x < 1024
  pub error : (slice_index_or fs x blank).error ≡ t.error
  pub place : (slice_index_or fs x blank).place ≡ t.place
  pub first : (slice_index_or fs x blank).first ≡ head_of kids
  pub fits : size kids + 1 ≤ 1024
  pub size : (slice_index_or fs x blank).size ≡ size kids + 1
  pub held : Held fs Linked kids
  pub children : shape kids ≡ t.children
  pub long : length fs ≡ 1024
