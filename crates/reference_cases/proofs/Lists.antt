-- The two lists that are no flattenings, checked node by node.
use Rattle.std.proofs.Common.{◌≡◌, ℕ, ◌<◌, true, List, [], ◌∷◌, take, swap, is_some, Some, None, refl, ap, inl, inr, ⊎_elim, arith}
use Rattle.nodes.specs.declared.node.Node.{Node}
use Rattle.nodes.specs.Begins.{FirstBad}
use Rattle.nodes.specs.Check.{NextSource, error_source, node_at}
use Rattle.nodes.proofs.Checking.{Checking, checking_first, checking_more, bad_node, bad_end}
use Rattle.nodes.proofs.Steps.{index}
use Rattle.drive_host.specs.Drive.{drive_errors}
use Rattle.drive_host.specs.DriveLaws.{drive_lawful}
use Rattle.reference_cases.specs.Reports.{frame_node, native_node, raised_nodes}

-- lists that begin with the first three nodes
abbrev begun : ℕ → ℕ → List Node → List Node
begun p q rest = frame_node 34 p None ∷ native_node 18 p 0 ∷ frame_node 17 q (Some 0) ∷ rest

-- a node that has a source is the next that has one
here : (xs : List Node) (i to : ℕ) → i < to → is_some (error_source drive_errors (node_at xs i).error) ≡ true → NextSource drive_errors xs i to i
here xs i to lt s = record { low = omega arith; high = omega arith; before = λ k a b. absurd (omega arith); here = λ _. s }

module _ (p q : ℕ) (rest : List Node) where
  after_one : Checking drive_errors (begun p q rest) 48 drive_lawful 1 0 0
  after_one = checking_first drive_errors (begun p q rest) 48 drive_lawful 0 (omega arith)
      (record { clear = refl; live = refl; frame = refl; orphan = refl }) (here (begun p q rest) 0 1 (omega arith) refl)

  after_two : Checking drive_errors (begun p q rest) 48 drive_lawful 2 0 1
  after_two = checking_more drive_errors (begun p q rest) 48 drive_lawful 1 0 0 1 0 1 after_one (omega arith)
      (record { clear = refl; live = refl; placed = inl (record { native = refl; parent = refl; before = omega arith; source = (18, refl, refl); place = refl }) })
      (inl (refl, refl)) refl (here (begun p q rest) 1 2 (omega arith) refl)

  after_three : Checking drive_errors (begun p q rest) 48 drive_lawful 3 0 1
  after_three = checking_more drive_errors (begun p q rest) 48 drive_lawful 2 0 1 1 0 1 after_two (omega arith)
      (record { clear = refl; live = refl; placed = inr (record { native = refl; parent = (0, refl, omega arith, omega arith, refl) }) })
      (inr (refl, refl)) refl (here (begun p q rest) 1 3 (omega arith) refl)

pub exchanged : (p q : ℕ) → FirstBad drive_errors (swap (raised_nodes p q) 3 4) 3
exchanged p q = bad_node drive_errors xs 48 drive_lawful 3 0 1 (after_three p q rest) (omega arith) (λ f. ⊎_elim (λ s. absurd (let a = ap index s.parent in omega arith)) (λ s. absurd (let a = s.native in cc)) f.placed)
  where
    rest : List Node
    rest = native_node 1 q 2 ∷ native_node 2 p 1 ∷ []

    xs : List Node
    xs = begun p q rest

pub shortened : (p q : ℕ) → FirstBad drive_errors (take 4 (raised_nodes p q)) 4
shortened p q = bad_end drive_errors xs 48 drive_lawful 4 1 2 after_four refl (omega arith)
  where
    rest : List Node
    rest = native_node 2 p 1 ∷ []

    xs : List Node
    xs = begun p q rest

    after_four : Checking drive_errors xs 48 drive_lawful 4 1 2
    after_four = checking_more drive_errors xs 48 drive_lawful 3 0 1 2 1 2 (after_three p q rest) (omega arith)
        (record { clear = refl; live = refl; placed = inl (record { native = refl; parent = refl; before = omega arith; source = (2, refl, refl); place = refl }) })
        (inl (refl, refl)) refl (here xs 2 4 (omega arith) refl)
