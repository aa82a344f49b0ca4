-- A list whose elements are changed one after the other.
use Rattle.std.proofs.Common.{◌≡◌, ℕ, ◌+◌, ◌<◌, List, [], ◌∷◌, ◌++◌, map, length, get_or, set, take, drop, sym, ap, ◌∙◌, arith}
use Rattle.std.proofs.lemmas.List.{append_assoc, drop_more, get_or_at, length-map, length-take-le, map-append, set_at, take_more}

-- one element more is changed
pub changed_more : {A : Type 0} (f : A → A) (blank : A) (xs now : List A) (i : ℕ) → now ≡ map f (take i xs) ++ drop i xs → i < length xs → set now i (f (get_or now i blank)) ≡ map f (take (i + 1) xs) ++ drop (i + 1) xs
changed_more {A} f blank xs now i q lt =
    let x = get_or xs i blank in
    let long : length (map f (take i xs)) ≡ i = length-map (take i xs) f ∙ length-take-le i xs (omega arith) in
    let is : now ≡ map f (take i xs) ++ (x ∷ drop (i + 1) xs) = q ∙ ap (λ (ys : List A). map f (take i xs) ++ ys) (drop_more xs i blank lt) in
    ap (λ (ys : List A). set ys i (f (get_or ys i blank))) is
    ∙ ap (λ (y : A). set (map f (take i xs) ++ (x ∷ drop (i + 1) xs)) i (f y)) (get_or_at (map f (take i xs)) x (drop (i + 1) xs) blank i long)
    ∙ set_at (map f (take i xs)) x (drop (i + 1) xs) (f x) i long
    ∙ sym (append_assoc (map f (take i xs)) (f x ∷ []) (drop (i + 1) xs))
    ∙ ap (λ (ys : List A). ys ++ drop (i + 1) xs) (sym (ap (map f) (take_more xs i blank lt) ∙ map-append f (take i xs) (x ∷ [])))
