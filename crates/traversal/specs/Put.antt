-- A list into which some elements are written one after the other.
use Rattle.std.specs.Prelude.{◌≡◌, ℕ, ◌+◌, List, ◌++◌, length, take, drop}

-- the new elements stand from `start` to `stop`, and all others are as they were
pub record Put {A : Type 0} (before after : List A) (start stop : ℕ) (new : List A) : Type 0 where
  pub list : after ≡ take start before ++ (new ++ drop stop before)
  pub ends : stop ≡ start + length new
