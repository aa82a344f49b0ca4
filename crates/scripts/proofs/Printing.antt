-- A report's tree print is put, or does not fit.
use Rattle.std.proofs.Common.{◌≡◌, nat_lt, inl, inr, ltb-true, ltb-false, ℕ, ◌+◌, ◌-◌, ◌≤◌, List, ◌++◌, length, take, drop, Some, None, Ok, Err, Result, ap, ◌∙◌, subst, length-append, length-drop, arith}
use Rattle.std.proofs.lemmas.List.{length-take-le}
use Rattle.std.proofs.lemmas.Bool.{cases_Bool}
use Rattle.std.specs.Result.{result_ok}
use borrow.Rule.Slice.PartMut.{mid_of, put_mid}
use Rattle.vocabulary.specs.declared.fault.PrintFault.{PrintFault}
use Rattle.drive_host.specs.Drive.{drive_errors}
use Rattle.nodes.specs.declared.node.Node.{Node}
use Rattle.print_forms.specs.Prints.{tree_print}
use Rattle.store.specs.Store.{ledger_of}
use Rattle.store.specs.Token.{Exn}
use Rattle.store.specs.declared.store.Store.{Store}
use Rattle.prints.specs.TreePrints.{TreeByLedger, TreePrinted}
use Rattle.scripts.proofs.Nodes.{report_few}
use Rattle.scripts.proofs.Putting.{part_written}
use Rattle.scripts.specs.Puts.{PutIf, Standing, tree_in}

none_of : (r : Result ℕ PrintFault) (n : ℕ) → result_ok r ≡ None → r ≡ Ok n → ⊥
none_of r n p q = let some : result_ok r ≡ Some n = ap result_ok q in absurd (cc (p, some))

ok_of : (r : Result ℕ PrintFault) (n : ℕ) → result_ok r ≡ Some n → r ≡ Ok n
ok_of (Ok m) n e = let same : m ≡ n = cc e in ap ok same
  where
    ok : ℕ → Result ℕ PrintFault
    ok k = Ok k
ok_of (Err f) n e = absurd cc

module _ (s : Store) (x : Exn) (list list' : List Node) (out new : List ℕ) (at : ℕ) (r : Result ℕ PrintFault) (st : Standing s x) (long : length list ≡ 3072) (room : at ≤ length out) where
  part_long : length (mid_of at (length out - at) out) ≡ length out - at
  part_long = length-take-le (length out - at) (drop at out) (omega (arith, length-drop at out))

  put_long : length new ≡ length (mid_of at (length out - at) out) → length (put_mid at (length out - at) out new) ≡ length out
  put_long same =
      let size : length (put_mid at (length out - at) out new) ≡ length (take at out) + (length new + length (drop (length out - at) (drop at out))) =
      length-append (take at out) (new ++ drop (length out - at) (drop at out)) ∙ ap (λ (n : ℕ). length (take at out) + n) (length-append new (drop (length out - at) (drop at out))) in
      omega (arith, size, length-take-le at out room, length-drop (length out - at) (drop at out), length-drop at out, part_long, same)

  pub not_put : TreeByLedger s drive_errors x list list' (mid_of at (length out - at) out) new r → result_ok r ≡ None → length new ≡ length (mid_of at (length out - at) out)
      → PutIf (tree_print drive_errors (tree_in s x)) at out (put_mid at (length out - at) out new) None
  not_put by none same =
      elim (cases_Bool (nat_lt (length (mid_of at (length out - at) out)) (length (tree_print drive_errors (tree_in s x))))) [
        | inl more ↦ let short = ltb-true (length (mid_of at (length out - at) out)) (length (tree_print drive_errors (tree_in s x))) more in (omega (arith, part_long, short), put_long same)
        | inr fits ↦
            let enough = ltb-false (length (mid_of at (length out - at) out)) (length (tree_print drive_errors (tree_in s x))) fits in
            let few = report_few s.frames x.root (tree_in s x) st.there in
            absurd (none_of r (length (tree_print drive_errors (tree_in s x))) none (by (ledger_of s) (tree_in s x) st.reached st.number st.there (omega arith) (omega arith)).0)
      ]

  pub put : TreePrinted s drive_errors x (length list) (mid_of at (length out - at) out) new r → (n : ℕ) → result_ok r ≡ Some n → length new ≡ length (mid_of at (length out - at) out)
      → PutIf (tree_print drive_errors (tree_in s x)) at out (put_mid at (length out - at) out new) (Some (at + n))
  put by n is same =
      let told = subst (TreePrinted s drive_errors x (length list) (mid_of at (length out - at) out) new) (ok_of r n is) by in
      let print = told.1 (tree_in s x) st.there in
      let size = ap length (print.1) in
      let front = ap (λ (k : ℕ). tree_print drive_errors (tree_in s x) ++ drop k (mid_of at (length out - at) out)) print.0 in
      (ap (λ (k : ℕ). at + k) print.0, omega (arith, part_long, same, print.0, simp length-append at size), part_written at (tree_print drive_errors (tree_in s x)) out new room (print.1 ∙ front))
