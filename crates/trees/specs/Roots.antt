-- No number is the root of two reports.
use Rattle.std.specs.Prelude.{◌≡◌, ℕ, true, false, [], ◌∷◌, is_some, Some, Option}
use Rattle.trees.specs.Trees.{Tree, Listing, among, first_root, list_of}

abbrev pub Differ : Listing → Type 0
Differ [] = Unit {0}
Differ (x ∷ xs) = (among x.0 xs ≡ false) × Differ xs

-- of reports that stand alone and of rows, each known by its first root
pub record RootsDiffer (g : ℕ → Option Tree) (h : ℕ → Option Listing) : Type 0 where
  pub alone : (n k : ℕ) → is_some (g n) ≡ true → among n (list_of (h k)) ≡ false
  pub rows : (n k m : ℕ) → among n (list_of (h k)) ≡ true → among n (list_of (h m)) ≡ true → k ≡ m
  pub within : (k : ℕ) → Differ (list_of (h k))
  pub first : (k : ℕ) → is_some (h k) ≡ true → first_root (list_of (h k)) ≡ Some k
