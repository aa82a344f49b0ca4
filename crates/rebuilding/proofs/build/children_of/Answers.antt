use Rattle.std.proofs.Common.{◌≡◌, ℕ, ◌+◌, ◌-◌, ◌<◌, ◌≤◌, Bool, not, List, reverse, length, take, drop, count_by, sym, ap, ◌∙◌, arith, rules, tests}
use Rattle.std.specs.List.{prefix_len}
use Rattle.std.proofs.lemmas.List.{get_or-reverse, length-reverse}
use Rattle.std.proofs.lemmas.Iterator.Adapters.{YieldsList-from_rev_slice}
use Rattle.std.proofs.lemmas.Iterator.Consumers.{YieldsList-at, count_from_yields_List}
use Rattle.std.proofs.lemmas.Iterator.Search.{YieldsList-from_take_while}
use Rattle.std.proofs.lemmas.List.Folds.{length-prefix_len}
use Rattle.std.proofs.lemmas.List.Sums.{prefix_len-le-length, prefix_len_passes, prefix_len_stops}
use Rattle.nodes.specs.declared.node.Node.{Node}
use Rattle.nodes.specs.Breadth.{is_parent}
use Rattle.nodes.specs.Check.{blank, node_at}
use Rattle.nodes.proofs.Explicit.{explicit_by}
use Rattle.nodes.proofs.Parts.{part-length, part-at}
use Rattle.rebuilding.specs.Steps.{Found}
use Rattle.rebuilding.proofs.build.children_of.Goals as goal

module _ (nodes : List Node) (i end : ℕ) (low : i < end) (high : end ≤ length nodes) where
  abbrev child : Node → Bool
  child x = is_parent i x.parent

  -- the nodes behind it, the last first
  abbrev behind : List Node
  behind = reverse (take (end - (i + 1)) (drop (i + 1) nodes))

  behind-length : length behind ≡ end - (i + 1)
  behind-length = length-reverse (take (end - (i + 1)) (drop (i + 1) nodes)) ∙ part-length nodes (i + 1) end (omega arith) high

  behind-at : (k j : ℕ) → k + (j + 1) ≡ end → i < k → node_at behind j ≡ node_at nodes k
  behind-at k j e lt =
      let l = part-length nodes (i + 1) end (omega arith) high in
      let from_start : length (take (end - (i + 1)) (drop (i + 1) nodes)) - 1 - j ≡ k - (i + 1) = omega arith in
      let same : i + 1 + (k - (i + 1)) ≡ k = omega arith in
      get_or-reverse (take (end - (i + 1)) (drop (i + 1) nodes)) j blank (omega arith) ∙ ap (node_at (take (end - (i + 1)) (drop (i + 1) nodes))) from_start
      ∙ part-at nodes (i + 1) end (k - (i + 1)) (omega arith) ∙ ap (node_at nodes) same

  found : (n frames : ℕ) → n ≡ length (take (prefix_len child behind) behind) → frames ≡ count_by (λ (x : Node). not x.native) (take (end - (end - n)) (drop (end - n) nodes)) → Found nodes i end (record { start = end - n; frames = frames })
  found n frames counted f =
      let e : n ≡ prefix_len child behind = counted ∙ length-prefix_len child behind in
      let l = behind-length in
      let most = prefix_len-le-length child behind in
      record {
        low = omega arith;
        high = omega arith;
        are = λ k a b.
            let j : ℕ = end - (k + 1) in
            ap child (sym (behind-at k (end - (k + 1)) (omega arith) (omega arith))) ∙ prefix_len_passes child behind (end - (k + 1)) blank (omega arith);
        ends = λ more.
            ap child (sym (behind-at (end - n - 1) n (omega arith) (omega arith))) ∙ ap (λ (k : ℕ). child (node_at behind k)) e ∙ prefix_len_stops child behind blank (omega arith);
        frames = f ∙ sym (explicit_by (take (end - (end - n)) (drop (end - n) nodes)));
      }

pub returns : goal.returns
returns c =
    let nodes = c.args.nodes.now in
    let i = c.args.i in
    let kids = count_from_yields_List c.take_while.result _ c.count-count.ensures.ran
    (YieldsList-from_take_while _ (λ (x : Node). is_parent i x.parent) (YieldsList-at c.take_while.ensures.source (YieldsList-from_rev_slice (take (c.args.end - (i + 1)) (drop (i + 1) nodes)) cc)) c.take_while.ensures.closure c.take_while.ensures.done (λ x b q k. search (rules, tests))) in
    found nodes i c.args.end c.requires.0 c.requires.1 c.count-count.result c.count-frames.result kids (search rules)
