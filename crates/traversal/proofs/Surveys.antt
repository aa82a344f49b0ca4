-- Counting the nodes of a report frame by frame.
use Rattle.std.proofs.lemmas.Bool.Decides.{nat_tests}
use Rattle.std.proofs.Common.{◌≡◌, ℕ, suc, ◌+◌, ◌<◌, ◌≤◌, cond, List, [], ◌∷◌, map, length, get_or, drop, is_some, Some, None, Ok, Err, Option, sym, refl, ap, ◌∙◌, subst, ap₂, arith}
use Rattle.std.proofs.lemmas.List.{length-map}
use Rattle.vocabulary.specs.FrameError.{error_number}
use Rattle.vocabulary.specs.declared.frame_error.FrameError.{FrameError}
use Rattle.vocabulary.specs.declared.frame_error.FrameError.TheVariants.{Host}
use Rattle.vocabulary.specs.declared.fault.HostFault.{HostFault}
use Rattle.model.specs.Host.{Error, Errors, Lawful, answer}
use Rattle.model.specs.Sources.{chain, sources}
use Rattle.model.proofs.Sources.{chain_short}
use Rattle.model.proofs.Steps.{answered}
use Rattle.trees.specs.Trees.{Tree, only}
use Rattle.nodes.specs.declared.node.Node.{Node}
use Rattle.nodes.specs.Breadth.{Item}
use Rattle.nodes.specs.Flattening.{flattening, frame_list}
use Rattle.nodes.specs.Nodes.{FrameContent, sources_of}
use Rattle.readings.specs.ByFrames.{listed_errors}
use Rattle.readings.specs.Folds.{CommutativeMonoid, folded}
use Rattle.readings.specs.Readings.{errors_of, first_not_live}
use Rattle.readings.proofs.Laws.{first_not_live_by_frames}
use Rattle.readings.proofs.Sums.{chain-sources, errors_folded, frames-folded, over_same}
use Rattle.traversal.specs.declared.order.Visit.{Visit}
use Rattle.traversal.specs.Order.{visited}
use Rattle.traversal.specs.Walk.{unvisited}
use Rattle.traversal.proofs.Lists.{drop_order}
use Rattle.traversal.specs.Survey.{step, survey_from, or_else, survey_of}

-- a frame whose error is live
goes_on : (h : Errors) (n : ℕ) (x : Item FrameContent) (xs : List (Item FrameContent)) (k : ℕ) → Ok k ≡ answer (h (error_number x.value.error)) (error_number x.value.error) (λ _. length (chain h (error_number x.value.error)))
    → survey_from h (n + k) xs ≡ survey_from h n (x ∷ xs)
goes_on h n x xs k q = grind (arith, nat_tests)

-- a frame whose error is not live
stops : {A : Type 0} (h : Errors) (n : ℕ) (x : Item FrameContent) (xs : List (Item FrameContent)) (f : HostFault) (a : Error → A) → Err f ≡ answer (h (error_number x.value.error)) (error_number x.value.error) a
    → Err f ≡ survey_from h n (x ∷ xs)
stops h n x xs f a q = go (h (error_number x.value.error)) q
  where
    go : (o : Option Error) → Err f ≡ answer o (error_number x.value.error) a → Err f ≡ step o (error_number x.value.error) (survey_from h (n + length (chain h (error_number x.value.error))) xs)
    go None q = grind (arith, nat_tests)
    go (Some m) q = absurd cc

-- the frame at a turn, whose error has the number `e`
module _ (h : Errors) (order : List Visit) (i n e : ℕ) (lt : i < length order) (is : e ≡ error_number (get_or order i unvisited).error) where
  pub survey_more : (k : ℕ) → Ok k ≡ answer (h e) e (λ _. length (chain h e)) → survey_from h (n + k) (drop (i + 1) (map visited order)) ≡ survey_from h n (drop i (map visited order))
  survey_more k q = goes_on h n (visited (get_or order i unvisited)) (drop (i + 1) (map visited order)) k (subst (λ (d : ℕ). Ok k ≡ answer (h d) d (λ _. length (chain h d))) is q) ∙ sym (ap (survey_from h n) (drop_order order i lt))

  pub survey_stops : (f : HostFault) → Err f ≡ answer (h e) e (λ _. length (chain h e)) → Err f ≡ survey_from h n (drop i (map visited order))
  survey_stops f q = stops h n (visited (get_or order i unvisited)) (drop (i + 1) (map visited order)) f (λ _. length (chain h (error_number (get_or order i unvisited).error))) (subst (λ (d : ℕ). Err f ≡ answer (h d) d (λ _. length (chain h d))) is q) ∙ sym (ap (survey_from h n) (drop_order order i lt))

-- a chain has at most as many errors as there are numbers
pub chain_few : (h : Errors) (e k : ℕ) → e < 65536 → Ok k ≡ answer (h e) e (λ _. length (chain h e)) → k ≤ 65536
chain_few h e k lt q = let m = answered (h e) e (λ _. length (chain h e)) k q in let a = chain_short h (suc e) (Some e) in let b = m.2 in omega arith

-- how many nodes listed frames have
total : Errors → List (Item FrameContent) → ℕ
total h [] = 0
total h (x ∷ xs) = length (chain h (error_number x.value.error)) + total h xs

from_total : (h : Errors) (n : ℕ) (xs : List (Item FrameContent)) → survey_from h n xs ≡ or_else (first_not_live h (listed_errors xs)) (n + total h xs)
unfolding total
from_total h n [] = ap Ok (omega arith)
from_total h n (x ∷ xs) = by_error x.value.error (λ k. from_total h k xs)
  where
    by_error : (e : FrameError) → ((k : ℕ) → survey_from h k xs ≡ or_else (first_not_live h (listed_errors xs)) (k + total h xs)) → step (h (error_number e)) (error_number e) (survey_from h (n + length (chain h (error_number e))) xs)
        ≡ or_else (first_not_live h (e ∷ listed_errors xs)) (n + (length (chain h (error_number e)) + total h xs))
    by_error (Host d) more = by_told (h d)
      where
        by_told : (o : Option Error) → step o d (survey_from h (n + length (chain h d)) xs)
            ≡ or_else (cond (is_some o) (first_not_live h (listed_errors xs)) (Some d)) (n + (length (chain h d) + total h xs))
        by_told None = refl
        by_told (Some m) = grind (arith, nat_tests)

plus : CommutativeMonoid ◌+◌ 0
plus = record { unit_left = λ a. omega arith; commutes = λ a b. omega arith; associates = λ a b c. omega arith }

-- each of some elements counts once
ones : {A : Type 0} (xs : List A) → folded ◌+◌ 0 (λ (x : A). 1) xs ≡ length xs
ones [] = refl
ones (x ∷ xs) = let h = ones xs in omega arith

chain_ones : (h : Errors) (span : ℕ) → Lawful h span → (e : FrameError) → 1 + folded ◌+◌ 0 (λ (d : ℕ). 1) (sources_of h e) ≡ length (chain h (error_number e))
chain_ones h span l (Host e) = let a = ones (sources h e) in let b : length (chain h e) ≡ length (e ∷ sources h e) = ap (λ (xs : List ℕ). length xs) (chain-sources h span l e) in omega arith

total-folded : (h : Errors) (xs : List (Item FrameContent)) → folded ◌+◌ 0 (λ (x : Item FrameContent). length (chain h (error_number x.value.error))) xs ≡ total h xs
unfolding total
total-folded h [] = refl
total-folded h (x ∷ xs) = grind (arith, nat_tests)

nodes-total : (h : Errors) (span : ℕ) → Lawful h span → (t : Tree) → length (flattening h t) ≡ total h (frame_list t)
nodes-total h span l t =
    sym (length-map (flattening h t) (λ (x : Node). x.error)) ∙ sym (ones (errors_of h t))
    ∙ errors_folded ◌+◌ 0 plus h (λ (e : FrameError). 1) t
    ∙ over_same ◌+◌ 0 _ (λ (e : FrameError). length (chain h (error_number e))) (chain_ones h span l) (only t)
    ∙ frames-folded ◌+◌ 0 plus (λ (e : FrameError). length (chain h (error_number e))) (only t)
    ∙ total-folded h (frame_list t)

pub survey_is : (h : Errors) (span : ℕ) → Lawful h span → (t : Tree) (ys : List (Item FrameContent)) → ys ≡ frame_list t → survey_from h 0 ys ≡ survey_of h t
survey_is h span l t ys q =
    ap (survey_from h 0) q ∙ from_total h 0 (frame_list t)
    ∙ ap₂ or_else (sym (first_not_live_by_frames h span l t)) (let a = nodes-total h span l t in omega arith)
