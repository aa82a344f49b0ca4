-- Reports that building calls make, the nodes of one of them, and a ledger without a free frame.
use Rattle.std.specs.Prelude.{◌≡◌, ℕ, ◌<◌, ◌≤◌, true, false, cond, List, [], ◌∷◌, is_some, Some, None, Option, nat_lt}
use Rattle.vocabulary.specs.declared.fault.StoreFault.{StoreFault}
use Rattle.vocabulary.specs.declared.frame_error.FrameError.TheVariants.{Host}
use Rattle.model.specs.Host.{Errors}
use Rattle.trees.specs.Trees.{Tree, leaf}
use Rattle.nodes.specs.declared.node.Node.{Node}
use Rattle.nodes.specs.declared.node.Note.TheVariants.{Clear}
use Rattle.ledger.specs.Causes.{frame_cause, held, is_held}
use Rattle.ledger.specs.Ledger.{Ledger, collected, made, raised, raised_all, used}

-- what raising 34 at the place `p` over a new report of 17 at the place `q` makes, where the calls gave the roots `n` and `x`
abbrev pub raised_over_new : Ledger → ℕ → ℕ → ℕ → ℕ → Option Tree
raised_over_new l x n p q = (raised (made l (Host 17) q x) x (Host 34) p n).reports n

-- a listed frame and a listed source, each by its error, its place and its parent
abbrev pub frame_node : ℕ → ℕ → Option ℕ → Node
frame_node e p parent = record { error = Host e; place = p; native = false; parent = parent; note = Clear }

abbrev pub native_node : ℕ → ℕ → ℕ → Node
native_node e p parent = record { error = Host e; place = p; native = true; parent = Some parent; note = Clear }

-- the nodes of that report
abbrev pub raised_nodes : ℕ → ℕ → List Node
raised_nodes p q =
    frame_node 34 p None ∷ native_node 18 p 0 ∷ frame_node 17 q (Some 0) ∷ native_node 2 p 1 ∷ native_node 1 q 2 ∷ []

-- two new reports of 6, put into one basket one after the other, where the calls gave the roots `x` and `y`
abbrev pub two_collected : Ledger → ℕ → ℕ → ℕ → ℕ → Ledger
two_collected l x y p q = collected (made (collected (made l (Host 6) p x) None x) (Host 6) q y) (Some x) y

-- what raising 0 over that basket makes, where the call gave the root `n`
abbrev pub raised_over_two : Ledger → ℕ → ℕ → ℕ → ℕ → ℕ → ℕ → Option Tree
raised_over_two l x y n p q r = (raised_all (two_collected l x y p q) (Some x) (Host 0) r n).reports n

-- why the store of a number turns down a raise of the error `e` over a report with the store number `s` and the root `x`
abbrev pub raise_cause : ℕ → Ledger → Errors → ℕ → ℕ → ℕ → Option StoreFault
raise_cause number l h s x e = held (is_held number l s x) (frame_cause l h e)

-- what holds of a store's ledger: its roots are numbers of frames, and all trees together have at most its 1,024 frames
pub record FitsStore (l : Ledger) : Type 0 where
  pub roots : (x : ℕ) → is_some (l.reports x) ≡ true → x < 1024
  pub frames : used l ≤ 1024

-- the ledger of 1,024 reports of one frame
abbrev pub filled : Ledger
filled = record { reports = λ j. cond (nat_lt j 1024) (Some (leaf (Host 0) 0)) None; rows = λ _. None }
