-- The errors that are kept.
use Rattle.std.proofs.Common.{◌≡◌, ℕ, ◌+◌, ◌<◌, true, false, not, List, [], ◌∷◌, ◌++◌, map, length, get_or, take, drop, set, sym, ap, ◌∙◌, ap₂, arith}
use Rattle.std.proofs.lemmas.List.{append-nil, length-append, length-set, map-append, drop_more, drop-set-lt, take_more, take_more_set}
use Rattle.std.proofs.lemmas.List.Elements.{filter-append}
use Rattle.std.proofs.lemmas.Bool.{cond-true, cond-false}
use Rattle.vocabulary.specs.declared.frame_error.FrameError.{FrameError}
use Rattle.model.specs.Host.{Errors}
use Rattle.nodes.specs.declared.node.Node.{Node}
use Rattle.readings.specs.Readings.{marker_in}
use Rattle.chains.specs.Errors.{error_node, errors_in, unmarked, zero_node}
use Rattle.chains.specs.Kept.{Kept}

module _ (h : Errors) (before now : List Node) (i found : ℕ) (k : Kept h before now i found) (lt : i < length before) where
  -- the node at the turn's place is as it was
  here : (d : Node) → get_or now i d ≡ get_or before i d
  here d =
      let l = k.long in
      let a : get_or now i d ∷ drop (i + 1) now ≡ get_or before i d ∷ drop (i + 1) before = sym (drop_more now i d (omega arith)) ∙ k.behind ∙ drop_more before i d lt in
      cc

  next_behind : drop (i + 1) now ≡ drop (i + 1) before
  next_behind =
      let l = k.long in
      let a : get_or now i zero_node ∷ drop (i + 1) now ≡ get_or before i zero_node ∷ drop (i + 1) before = sym (drop_more now i zero_node (omega arith)) ∙ k.behind ∙ drop_more before i zero_node lt in
      cc

  errors_more : unmarked h (errors_in (take (i + 1) before)) ≡ unmarked h (errors_in (take i before)) ++ unmarked h ((get_or before i zero_node).error ∷ [])
  errors_more = ap (λ (xs : List Node). unmarked h (errors_in xs)) (take_more before i zero_node lt)
      ∙ ap (unmarked h) (map-append (λ (x : Node). x.error) (take i before) (get_or before i zero_node ∷ []))
      ∙ filter-append (λ (e : FrameError). not (marker_in h e)) (errors_in (take i before)) ((get_or before i zero_node).error ∷ [])

  pub kept_marker : marker_in h (get_or now i zero_node).error ≡ true → Kept h before now (i + 1) found
  kept_marker m =
      let e : unmarked h (errors_in (take (i + 1) before)) ≡ unmarked h (errors_in (take i before)) =
      errors_more ∙ ap (λ (xs : List FrameError). unmarked h (errors_in (take i before)) ++ xs) (cond-false (not (marker_in h (get_or before i zero_node).error)) _ _ (ap not (sym (ap (λ (x : Node). marker_in h x.error) (here zero_node)) ∙ m))) ∙ append-nil (unmarked h (errors_in (take i before))) in
      let f = k.few in
      record {
        front = k.front ∙ ap (map error_node) (sym e);
        count = k.count ∙ sym (ap (λ (xs : List FrameError). length xs) e);
        few = omega arith;
        behind = next_behind;
        long = k.long;
      }

  pub kept_error : (x : Node) → x ≡ error_node (get_or now i zero_node).error → marker_in h (get_or now i zero_node).error ≡ false → Kept h before (set now found x) (i + 1) (found + 1)
  kept_error x q m =
      let d = (get_or before i zero_node).error in
      let same : (get_or now i zero_node).error ≡ (get_or before i zero_node).error = ap (λ (x : Node). x.error) (here zero_node) in
      let e : unmarked h (errors_in (take (i + 1) before)) ≡ unmarked h (errors_in (take i before)) ++ ((get_or before i zero_node).error ∷ []) =
      errors_more ∙ ap (λ (xs : List FrameError). unmarked h (errors_in (take i before)) ++ xs) (cond-true (not (marker_in h (get_or before i zero_node).error)) _ _ (ap not (sym (ap (marker_in h) same) ∙ m))) in
      let f = k.few in
      let l = k.long in
      let c = k.count in
      let n : length (unmarked h (errors_in (take (i + 1) before))) ≡ length (unmarked h (errors_in (take i before)) ++ ((get_or before i zero_node).error ∷ [])) = ap (λ (xs : List FrameError). length xs) e in
      let a = length-append (unmarked h (errors_in (take i before))) ((get_or before i zero_node).error ∷ []) in
      record {
        front = take_more_set now found x (omega arith) ∙ ap₂ (λ (xs : List Node) (y : Node). xs ++ (y ∷ [])) k.front (q ∙ ap error_node same)
            ∙ sym (map-append error_node (unmarked h (errors_in (take i before))) ((get_or before i zero_node).error ∷ [])) ∙ ap (map error_node) (sym e);
        count = omega arith;
        few = omega arith;
        behind = drop-set-lt (i + 1) now found x (omega arith) ∙ next_behind;
        long = length-set now found x ∙ l;
      }
