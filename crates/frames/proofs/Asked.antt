-- A test of what stands at a place of a list, which may be past its end.
use Rattle.std.proofs.Common.{◌≡◌, ℕ, Bool, false, List, get_or, unwrap_or, Some, None, Option, MatchOption, Bor, sym, ap, ◌∙◌}
use Rattle.std.specs.Option.{option_map}

pub asked : {A : Type 0} (p : A → Bool) (xs : List A) (n : ℕ) (d : A) (o : Option (Bor A)) (r : Bool) (Q : Bor A → Type 0)
    → p d ≡ false → ((e : A) → unwrap_or (option_map (λ (x : Bor A). x.now) o) e ≡ get_or xs n e) → ((x : Bor A) → Q x → r ≡ p x.now) → MatchOption o (r ≡ false) Q → r ≡ p (get_or xs n d)
asked p xs n d None r Q none at said m = m ∙ sym none ∙ ap p (at d)
asked p xs n d (Some x) r Q none at said m = said x m ∙ ap p (at d)
