use Rattle.std.proofs.Common.{◌≡◌, ℕ, ◌<◌, true, false, List, length, drop, Option, MatchOption, ap, sym, subst, ◌∙◌, arith, rules, tests}
use Rattle.std.specs.List.{AllWithin, HoldsAt}
use Rattle.std.proofs.lemmas.List.{take_rest}
use Rattle.std.proofs.lemmas.Iterator.{IsFirst-from_position, YieldsList-from_slice}
use Rattle.nodes.specs.declared.node.Node.{Node}
use Rattle.nodes.specs.Breadth.{is_parent}
use Rattle.chains.proofs.Lists.{no_child, next_child, none_behind}
use Rattle.chains.proofs.children.ChildrenIterator.next.Goals as goal

-- what the search along the list found
abbrev Found : List Node → ℕ → Option ℕ → Type 0
Found xs p o =
    MatchOption o (AllWithin (λ (x : Node). is_parent p x.parent ≡ false) xs 0 (length xs))
    (λ i. (i < length xs) × HoldsAt (λ (x : Node). is_parent p x.parent ≡ true) xs i × AllWithin (λ (x : Node). is_parent p x.parent ≡ false) xs 0 i)

pub returns-in_err-passed-clause-steps : goal.returns-in_err-passed-clause-steps
returns-in_err-passed-clause-steps c =
    let s = c.self.inside in
    let found : Found (drop s.at s.nodes.now) s.parent c.position.result =
    IsFirst-from_position _ _ _ (λ (x : Node). is_parent s.parent x.parent ≡ true) (λ (x : Node). is_parent s.parent x.parent ≡ false) c.position.ensures.ran
    (YieldsList-from_slice (drop s.at s.nodes.now) (c.iter.ensures.rest ∙ take_rest s.nodes.now s.at)) (λ x q k. search (rules, tests)) (λ x q k. search (rules, tests)) in
    let none = no_child s.nodes.now s.parent s.at (subst (Found (drop s.at s.nodes.now) s.parent) c.in_err-passed.was found) in
    rw c.from_residual.ensures (sym c.self.view_is ∙ none, none_behind s.nodes.now s.parent)

pub returns-clause-steps : goal.returns-clause-steps
returns-clause-steps c =
    let s = c.self.inside in
    let found : Found (drop s.at s.nodes.now) s.parent c.position.result =
    IsFirst-from_position _ _ _ (λ (x : Node). is_parent s.parent x.parent ≡ true) (λ (x : Node). is_parent s.parent x.parent ≡ false) c.position.ensures.ran
    (YieldsList-from_slice (drop s.at s.nodes.now) (c.iter.ensures.rest ∙ take_rest s.nodes.now s.at)) (λ x q k. search (rules, tests)) (λ x q k. search (rules, tests)) in
    sym c.self.view_is ∙ next_child s.nodes.now s.parent s.at c.in_ok-passed.passed (subst (Found (drop s.at s.nodes.now) s.parent) c.in_ok-passed.was found)

pub returns-clause-goes : goal.returns-clause-goes
returns-clause-goes c = let s = returns-clause-steps c in let l = ap length s in record { on = λ _. (tt, tt, omega arith); keeps = tt; rests = λ _. tt }
