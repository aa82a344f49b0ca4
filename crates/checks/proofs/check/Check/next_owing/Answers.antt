use Rattle.std.proofs.Common.{◌≡◌, ℕ, ◌+◌, ◌-◌, ◌<◌, ◌≤◌, true, List, length, take, drop, is_some, Some, None, Option, MatchOption, sym, subst, arith, rules, tests}
use Rattle.std.specs.List.{AllWithin, HoldsAt}
use Rattle.std.proofs.lemmas.Iterator.{IsFirst-from_position, YieldsList-from_slice}
use Rattle.model.specs.Host.{Errors}
use Rattle.nodes.specs.declared.node.Node.{Node}
use Rattle.nodes.specs.Check.{blank, node_at, error_source, Sourceless, NextSource}
use Rattle.nodes.proofs.Parts.{part-length, part-at}
use Rattle.checks.proofs.check.Check.next_owing.Goals as goal

module _ (h : Errors) (xs : List Node) (from to : ℕ) (low : from ≤ to) (high : to ≤ length xs) where
  abbrev part : List Node
  part = take (to - from) (drop from xs)

  abbrev Has : Node → Type 0
  Has x = is_some (error_source h x.error) ≡ true

  abbrev Lacks : Node → Type 0
  Lacks x = error_source h x.error ≡ None

  none_before : (n : ℕ) → n ≤ to - from → AllWithin Lacks part 0 n → Sourceless h xs from (from + n)
  none_before n le all k a b =
      let i = k - from in
      let same : from + (k - from) ≡ k = omega arith in
      subst (λ (m : ℕ). Lacks (node_at xs m)) same (subst Lacks (part-at xs from to (k - from) (omega arith)) (all (k - from) blank (omega arith) (omega arith)))

  -- what was found in the part, told of the list
  next_in : (p : Option ℕ) (r : ℕ) → MatchOption p (AllWithin Lacks part 0 (length part)) (λ i. (i < length part) × HoldsAt Has part i × AllWithin Lacks part 0 i)
      → MatchOption p (r ≡ to) (λ k. r ≡ from + k) → NextSource h xs from to r
  next_in None r all e =
      let l = part-length xs from to low high in
      let same : from + (to - from) ≡ r = omega arith in
      record {
        low = omega arith;
        high = omega arith;
        before = subst (Sourceless h xs from) same (none_before (to - from) (omega arith) (subst (AllWithin Lacks part 0) l all));
        here = λ lt. absurd (omega arith);
      }
  next_in (Some k) r found e =
      let l = part-length xs from to low high in
      let lt = found.0 in
      record {
        low = omega arith;
        high = omega arith;
        before = subst (Sourceless h xs from) (sym e) (none_before k (omega arith) found.2);
        here = λ _. subst (λ (m : ℕ). Has (node_at xs m)) (sym e) (subst Has (part-at xs from to k (omega arith)) (found.1 blank));
      }

pub returns : goal.returns
returns g c =
    let h = g.H.Host.errors c.args.self.now.host.now in
    next_in h c.args.self.now.nodes.now c.args.from c.args.to c.requires.0 c.requires.1 c.position.result c.map_or.result
    (IsFirst-from_position _ _ _ (λ (x : Node). is_some (error_source h x.error) ≡ true) (λ (x : Node). error_source h x.error ≡ None) c.position.ensures.ran
    (YieldsList-from_slice (take (c.args.to - c.args.from) (drop c.args.from c.args.self.now.nodes.now)) cc) (λ x q k. search (rules, tests)) (λ x q k. search (rules, tests)))
    (search rules)
