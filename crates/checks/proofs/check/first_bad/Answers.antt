use Rattle.std.proofs.Common.{◌≡◌, ℕ, ◌+◌, ◌<◌, List, length, get_or, drop, sym, ap, ◌∙◌, subst, inl, inr, arith}
use Rattle.std.specs.List.{enumerate_from}
use Rattle.std.proofs.lemmas.Bool.{eqb-true, eqb-false, both_ways}
use Rattle.std.proofs.lemmas.Iterator.{YieldsList-from_slice}
use Rattle.std.proofs.lemmas.Iterator.Adapters.{YieldsList-from_skip}
use Rattle.std.proofs.lemmas.Iterator.Consumers.{YieldsList-turn, YieldsList-from_enumerate}
use Rattle.std.proofs.lemmas.List.{get_or-drop, get_or_default, length-drop, length_push}
use Rattle.std.proofs.lemmas.List.FromFn.{length-enumerate_from, get_or-enumerate_from}
use Rattle.nodes.specs.declared.node.Node.{Node}
use Rattle.nodes.specs.Check.{blank, node_at}
use Rattle.nodes.proofs.Steps.{index}
use Rattle.nodes.proofs.Checking.{Conclusions, conclusions_first, conclusions_more, bad_empty, bad_root}
use Rattle.checks.proofs.check.first_bad.Goals as goal
use Rattle.checks.proofs.check.first_bad.Goals.{then-node, else-node, then-is_empty-via-then-is_empty, then-is_empty-via-else-is_empty+then-not-is_root}

-- what a turn gives, after `n` turns
record Turn (xs : List Node) (n i : ℕ) (x : Node) : Type 0 where
  index : i ≡ n + 1
  within : i < length xs
  node : x ≡ node_at xs i

turn : (xs : List Node) (n i : ℕ) (x : Node) → (n < length (drop 1 (enumerate_from 0 xs))) × ((i, x) ≡ get_or (drop 1 (enumerate_from 0 xs)) n (i, x)) → Turn xs n i x
turn xs n i x w =
    let within : 1 + n < length xs = omega (arith, w.0, length-drop 1 (enumerate_from 0 xs), length-enumerate_from 0 xs) in
    let at : (i, x) ≡ (0 + (1 + n), get_or xs (1 + n) x) = w.1 ∙ get_or-drop 1 (enumerate_from 0 xs) n (i, x) ∙ get_or-enumerate_from 0 xs (1 + n) (i, x) within in
    let from_zero : i ≡ 0 + (1 + n) = ap (λ (p : ℕ × Node). p.0) at in
    let index : i ≡ 1 + n = omega arith in
    let fit : i < length xs = omega arith in
    record {
      index = omega arith;
      within = fit;
      node = ap (λ (p : ℕ × Node). p.1) at ∙ ap (λ (k : ℕ). get_or xs k x) (sym index) ∙ get_or_default xs i x blank fit;
    }

pub returns-then-is_empty : goal.returns-then-is_empty
returns-then-is_empty g c =
    let host = c.args.host.now in
    let nodes = c.args.nodes.now in
    elim c.then-is_empty.branch [
      | then-is_empty-via-then-is_empty w ↦
          bad_empty (g.H.Host.errors host) nodes (g.H.Host.extent host) (g.met.H.Host.lawful host) (eqb-true (length nodes) 0 (sym c.is_empty.ensures ∙ w.if-is_empty.true))
      | then-is_empty-via-else-is_empty+then-not-is_root w ↦
          let some = eqb-false (length nodes) 0 (sym c.is_empty.ensures ∙ w.if-is_empty.false) in
          let low : 0 < length nodes = omega arith in
          bad_root (g.H.Host.errors host) nodes (g.H.Host.extent host) (g.met.H.Host.lawful host) low
          (λ root. both_ways w.is_root.result w.if-not-is_root.true (w.is_root.ensures.1 root))
    ]

pub loop-i-init : goal.loop-i-init
loop-i-init g c =
    let host = c.args.host.now in
    let nodes = c.args.nodes.now in
    let some = eqb-false (length nodes) 0 (sym c.is_empty.ensures ∙ c.if-is_empty.false) in
    let low : 0 < length nodes = omega arith in
    conclusions_first (g.H.Host.errors host) nodes (g.H.Host.extent host) (g.met.H.Host.lawful host) c.next_owing.result low (c.is_root.ensures.0 c.if-not-is_root.false) c.next_owing.ensures

pub returns-then-not-node_fits : goal.returns-then-not-node_fits
returns-then-not-node_fits g c =
    let host = c.args.host.now in
    let w = YieldsList-turn (YieldsList-from_skip 1 (YieldsList-from_enumerate (YieldsList-from_slice c.args.nodes.now cc) cc) cc) c.loop-i.yielded _ c.loop-i.yielded_by _ _ (c.in-Some.i, c.in-Some.node) c.in-Some.is c.next.ensures.steps in
    let t = turn c.args.nodes.now (length c.loop-i.yielded) c.in-Some.i c.in-Some.node.now w in
    let k = subst (λ (n : ℕ). Conclusions (g.H.Host.errors host) c.args.nodes.now (g.H.Host.extent host) (g.met.H.Host.lawful host) n c.loop-i.at.last c.loop-i.at.owing) (sym t.index) c.loop-i.invariant in
    k.refuses t.within (λ f. both_ways c.node_fits.result c.if-not-node_fits.true (c.node_fits.ensures.1 f))

pub loop-i-preserved : goal.loop-i-preserved
loop-i-preserved g c =
    let host = c.args.host.now in
    let nodes = c.args.nodes.now in
    let w = YieldsList-turn (YieldsList-from_skip 1 (YieldsList-from_enumerate (YieldsList-from_slice c.args.nodes.now cc) cc) cc) c.loop-i.yielded _ c.loop-i.yielded_by _ _ (c.in-Some.i, c.in-Some.node) c.in-Some.is c.next.ensures.steps in
    let t = turn nodes (length c.loop-i.yielded) c.in-Some.i c.in-Some.node.now w in
    let k = subst (λ (n : ℕ). Conclusions (g.H.Host.errors host) nodes (g.H.Host.extent host) (g.met.H.Host.lawful host) n c.loop-i.at.last c.loop-i.at.owing) (sym t.index) c.loop-i.invariant in
    let native = ap (λ (x : Node). x.native) (sym t.node) in
    subst (λ (n : ℕ). Conclusions (g.H.Host.errors host) nodes (g.H.Host.extent host) (g.met.H.Host.lawful host) n c.unwrap_or.result c.next_owing-in-loop-i.result)
    (ap (λ (n : ℕ). n + 1) (t.index ∙ sym (length_push c.loop-i.yielded (c.in-Some.i, c.in-Some.node))))
    (conclusions_more (g.H.Host.errors host) nodes (g.H.Host.extent host) (g.met.H.Host.lawful host) c.in-Some.i c.loop-i.at.last c.loop-i.at.owing c.if-node.from c.unwrap_or.result c.next_owing-in-loop-i.result k t.within
    (c.node_fits.ensures.0 c.if-not-node_fits.false)
    (elim c.if-node.branch [ then-node w ↦ inl (native ∙ w.if-node.true, w.from-is) | else-node w ↦ inr (native ∙ w.if-node.false, w.from-is) ])
    (c.unwrap_or.ensures ∙ ap (λ (x : Node). index x.parent) t.node) c.next_owing-in-loop-i.ensures)
