-- How updates of what the frames mean follow from changes of the blocks.
use Rattle.std.proofs.Common.{◌≡◌, ℕ, ◌<◌, cond, eqb, List, ◌∷◌, length, Some, None, Option, arith}
use Rattle.std.proofs.lemmas.Bool.Decides.{nat_tests}
use Rattle.trees.specs.Numbered.{Numbered, none, node, head_of}
use Rattle.layout.specs.declared.frame.Frame.{Frame}
use Rattle.layout.specs.Layout.{Block, nodes, role_of, Held, Laid, report_at, row_at}
use Rattle.layout.proofs.Told.{absent, first_counts}

-- blocks test the number asked for against a root, an update its key against that number
pub turned : {A : Type 0} (j x : ℕ) (v z : A) → cond (eqb j x) v z ≡ cond (eqb x j) v z
turned j x v z = grind (arith, nat_tests)

-- an update covers what stood at the key `x`
pub covered_key : {A : Type 0} (j x : ℕ) (v v' w z u : A) → v ≡ v' → u ≡ cond (eqb j x) w z → cond (eqb j x) v z ≡ cond (eqb x j) v' u
covered_key j x v v' w z u p q = grind (arith, nat_tests)

-- what is gone was there once
pub gone_key : {A : Type 0} (j x : ℕ) (w z u : Option A) → (j ≡ x → z ≡ None) → u ≡ cond (eqb j x) w z → z ≡ cond (eqb x j) None u
gone_key j x w z u n q = grind (arith, nat_tests)

-- an update where nothing stood
pub added_key : {A : Type 0} (j x : ℕ) (v v' z u : A) → v ≡ v' → z ≡ u → cond (eqb j x) v z ≡ cond (eqb x j) v' u
added_key j x v v' z u p q = grind (arith, nat_tests)

pub found : {A : Type 0} (x : ℕ) (v z u : A) → u ≡ cond (eqb x x) v z → u ≡ v
found x v z u q = grind (arith, nat_tests)

-- the first root of the first block
pub first_below : {fs : List Frame} {head : Option ℕ} {count : ℕ} {b : Block} {rest : List Block} {free : Numbered} → Laid fs head count (b ∷ rest) free → (x : ℕ) → head_of (nodes b) ≡ Some x → x < 1024
first_below {fs} {b = b} l x q = let a = l.long in let c = go (role_of b) (nodes b) q l.stand.0 in omega arith
  where
    go : (s : _) (r : Numbered) → head_of r ≡ Some x → Held fs s r → x < length fs
    go s none q h = absurd cc
    go s (node i e p k r) q h = let ij : i ≡ x = cc in let c = h.0 in omega arith

-- stands in no other block
pub first_once : {fs : List Frame} {head : Option ℕ} {count : ℕ} {b : Block} {rest : List Block} {free : Numbered} → Laid fs head count (b ∷ rest) free → (x : ℕ) → head_of (nodes b) ≡ Some x
    → (report_at x rest ≡ None) × (row_at x rest ≡ None)
first_once {b = b} {rest = rest} l x q = absent rest x (let a = l.once x (first_below l x q) in let c = first_counts (nodes b) x q in omega arith)
