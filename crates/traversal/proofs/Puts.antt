-- Writing elements one after the other.
use Rattle.std.proofs.lemmas.Grind.{common_steps}
use Rattle.std.proofs.Common.{◌≡◌, ℕ, ◌+◌, ◌<◌, ◌≤◌, List, [], ◌∷◌, ◌++◌, length, take, drop, set, sym, ap, ◌∙◌, ap₂, append_assoc, arith}
use Rattle.std.proofs.lemmas.List.{length-append, drop_at, drop-drop, drop_more, set_at, take-append-drop, take_at}
use Rattle.traversal.specs.Put.{Put}

module _ {A : Type 0} where
  pub put_none : (before : List A) (start : ℕ) → Put before before start start []
  put_none before start = record { list = sym (take-append-drop start before); ends = omega arith }

  -- what stands before the end of what is written
  front_long : (before new : List A) (start stop : ℕ) → start ≤ length before → stop ≡ start + length new → length (take start before ++ new) ≡ stop
  front_long before new start stop le e = grind (arith, common_steps)

  -- one element more; the element that stood there is `x`
  pub put_more : (default : A) (before now : List A) (start stop : ℕ) (new : List A) (y : A) → Put before now start stop new → start ≤ length before → stop < length before
      → Put before (set now stop y) start (stop + 1) (new ++ (y ∷ []))
  put_more default before now start stop new y p le lt =
      let e = p.ends in
      let P : List A = take start before ++ new in
      let split : now ≡ P ++ drop stop before = p.list ∙ sym (append_assoc (take start before) new (drop stop before)) in
      let at : now ≡ P ++ (_ ∷ drop (stop + 1) before) = split ∙ ap (λ (z : List A). P ++ z) (drop_more before stop default lt) in
      let l = length-append new (y ∷ []) in
      record {
        list = ap (λ (z : List A). set z stop y) at ∙ set_at P _ (drop (stop + 1) before) y stop (front_long before new start stop le e)
            ∙ append_assoc (take start before) new (y ∷ drop (stop + 1) before)
            ∙ ap (λ (z : List A). take start before ++ z) (sym (append_assoc new (y ∷ []) (drop (stop + 1) before)));
        ends = omega arith;
      }

  -- elements behind elements
  pub put_put : (a b c : List A) (start middle stop : ℕ) (x y : List A) → Put a b start middle x → Put b c middle stop y → start ≤ length a → Put a c start stop (x ++ y)
  put_put a b c start middle stop x y p q le =
      let e = p.ends in
      let f = q.ends in
      let l = length-append x y in
      let P : List A = take start a ++ x in
      let split : b ≡ P ++ drop middle a = p.list ∙ sym (append_assoc (take start a) x (drop middle a)) in
      let long : length P ≡ middle = front_long a x start middle le e in
      let tb : take middle b ≡ P = ap (take middle) split ∙ take_at P (drop middle a) middle long in
      let db : drop stop b ≡ drop stop a =
      ap (λ (n : ℕ). drop n b) f ∙ sym (drop-drop (length y) middle b) ∙ ap (λ (z : List A). drop (length y) (drop middle z)) split
      ∙ ap (drop (length y)) (drop_at P (drop middle a) middle long) ∙ drop-drop (length y) middle a ∙ sym (ap (λ (n : ℕ). drop n a) f) in
      record {
        list = q.list ∙ ap₂ (λ (u v : List A). u ++ (y ++ v)) tb db
            ∙ append_assoc (take start a) x (y ++ drop stop a)
            ∙ ap (λ (z : List A). take start a ++ z) (sym (append_assoc x y (drop stop a)));
        ends = omega arith;
      }
