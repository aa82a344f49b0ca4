-- The reports of a basket are put one after another.
use Rattle.std.proofs.Common.{◌≡◌, true, ℕ, ◌+◌, ◌≤◌, List, [], ◌++◌, length, Some, None, Option, sym, ap, ◌∙◌, subst, append_assoc, length-append, arith}
use Rattle.std.proofs.lemmas.List.{append-nil}
use Rattle.std.proofs.lemmas.Map.{update_here}
use Rattle.trees.specs.Trees.{Forest, Tree}
use Rattle.ledger.specs.Ledger.{Ledger}
use Rattle.store.specs.Calls.{report_held}
use Rattle.store.specs.Store.{ledger_of}
use Rattle.store.specs.Token.{Basket, Exn}
use Rattle.store.specs.declared.store.Store.{Store}
use Rattle.buffers.specs.Printed.{Printed}
use Rattle.script_runs.proofs.Held.{report_is_held}
use Rattle.script_runs.proofs.Lines.{is_there}
use Rattle.script_runs.specs.Working.{TakenOut, none, one}
use Rattle.scripts.specs.Puts.{PutIf, Standing, or_any, tree_in}
use Rattle.scripts.specs.Texts.{report_text, row_text}

-- the report that came out of the basket stands in the store
module _ (s : Store) (b : Basket) (row : Forest) (x : Exn) (t : TakenOut s b none none row x) where
  there : (ledger_of s).reports x.root ≡ Some t.first
  there = ap (λ (l : Ledger). l.reports x.root) t.works.ledger ∙ update_here none x.root (Some t.first)

  pub tree_is : tree_in s x ≡ t.first
  tree_is = ap or_any there

  pub standing : Standing s x
  standing = record { reached = t.works.reached; number = t.number; there = there ∙ ap some (sym tree_is) }
    where
      some : Tree → Option Tree
      some u = Some u

  pub taken_held : report_held s x ≡ true
  taken_held = report_is_held s b (one x.root t.first) none t.rest t.works x t.first t.number (is_there s b row x t)

  pub row_text_is : row_text row ≡ report_text (tree_in s x) ++ row_text t.rest
  row_text_is = ap row_text t.parts ∙ ap (λ (u : Tree). report_text u ++ row_text t.rest) (sym tree_is)

-- what was put of a row, and what is left
pub put_more : (whole text one more left : List ℕ) → whole ≡ text ++ left → left ≡ one ++ more → whole ≡ (text ++ one) ++ more
put_more whole text one more left p q = p ∙ ap (λ (l : List ℕ). text ++ l) q ∙ sym (append_assoc text one more)

pub put_all : (at : ℕ) (whole text left old new : List ℕ) → Printed 0 at old new text → at ≤ 65536 → length old ≡ 65536 → whole ≡ text ++ left → left ≡ [] → PutIf whole 0 old new (Some at)
put_all at whole text left old new p room long q none =
    let same : whole ≡ text = q ∙ ap (λ (l : List ℕ). text ++ l) none ∙ append-nil text in
    let ends = p.ends in
    let put = p.fits (omega arith) in
    subst (λ (t : List ℕ). PutIf t 0 old new (Some at)) (sym same) (put.0, omega arith, put.1)

pub put_less : (at : ℕ) (whole text one more left old x new : List ℕ) → Printed 0 at old x text → at ≤ 65536 → length old ≡ 65536 → whole ≡ text ++ left → left ≡ one ++ more → PutIf one at x new None → PutIf whole 0 old new None
put_less at whole text one more left old x new p room long q r f =
    let ends = p.ends in
    let same = p.long in
    let size : length whole ≡ length text + (length one + length more) = ap length (q ∙ ap (λ (l : List ℕ). text ++ l) r) ∙ length-append text (one ++ more) ∙ ap (λ (n : ℕ). length text + n) (length-append one more) in
    let past = f.0 in
    (omega arith, f.1 ∙ same)
