-- The token of what a name stands for is what a call is handed.
use Rattle.std.proofs.Common.{◌≡◌, ℕ, Bool, true, false, not, ◌&&◌, List, Some, None, Option, Ok, Err, sym, refl, ap, ap₂, ◌∙◌, subst, eqb-true, set, length, ⊎_elim, arith}
use Rattle.std.proofs.lemmas.Bool.{and_parts, cases_eq, cases_lt}
use Rattle.std.proofs.lemmas.List.{get_or-set_same, get_or-set_other, get_or_past, length-set}
use Rattle.std.specs.Option.{ok_or}
use Rattle.std.specs.Prelude.{◌==◌}
use Rattle.vocabulary.specs.declared.fault.StoreFault.{StoreFault}
use Rattle.vocabulary.specs.declared.fault.StoreFault.TheVariants.{NotHeld}
use Rattle.model.specs.Host.{Errors}
use Rattle.store.specs.Calls.{report_held}
use Rattle.store.specs.Token.{Exn}
use Rattle.store.specs.declared.token.Token.{Token}
use Rattle.runs.specs.Session.{Ends, state_of}
use Rattle.runs.specs.State.{Handle, State, in_store, named, report_of}
use Rattle.runs.specs.Step.{Cause, Named, Of}
use Rattle.runs.specs.Tokens.{at_root, found, kept, lent, lent_at, report_in, root_in, set_at, set_foreign, set_named}
use Rattle.runs.specs.declared.call.Call.{Call}
use Rattle.runs.specs.declared.call.Call.TheVariants.{Chain}
use Rattle.ledger.specs.Causes.{held}
use Rattle.ledger.specs.Ledger.{Ledger}
use Rattle.nodes.specs.declared.node.Node.{Node}
use Rattle.runs.specs.declared.call.Name.{Name}
use Rattle.runs.specs.declared.call.Name.TheVariants.{Made, Foreign}
use Rattle.runs.specs.declared.reports.Reports.{Reports}
use Rattle.runs.specs.declared.session.Session.{Session}
use Rattle.runs.specs.declared.stop.Stop.{Stop}
use Rattle.runs.specs.declared.stop.Stop.TheVariants.{Refused}

abbrev pub handle : {R : Type 0} → Token R → Handle R
handle t = record { store = t.store; root = t.root }

pub of_some : {A : Type 0} (o : Option A) (a : A) (P : A → Type 0) → o ≡ Some a → P a → Of o P
of_some o a P e p = subst (λ z. Of z P) (sym e) p

some_is : {A : Type 0} {x y : A} → Some x ≡ Some y → x ≡ y
some_is e = cc

handled : {R : Type 0} (number : ℕ) (b : Bool) (r : R) (x : Token R) → kept number b r ≡ Some x → record { store = number; root = r } ≡ handle x
handled number true r x e = ap handle (some_is e)
handled number false r x e = cc

some_of : (t : Option Exn) (x : Exn) → Ok x ≡ ok_or t (Refused NotHeld) → t ≡ Some x
some_of None x q = absurd cc
some_of (Some y) x q = cc

lent_root : (tokens : List (Option Exn)) (x : Exn) (o : Option ℕ) → Ok x ≡ at_root tokens o → lent_at tokens o ≡ Some x
lent_root tokens x None q = absurd cc
lent_root tokens x (Some r) q = some_of (named tokens r) x q

-- what is lent is what is found
pub lent_found : (names : List (Option ℕ)) (tokens : List (Option Exn)) (foreign : Option Exn) (name : Name) (x : Exn) → Ok x ≡ found names tokens foreign name → lent names tokens foreign name ≡ Some x
lent_found names tokens foreign (Made i) x q = lent_root tokens x (named names i) q
lent_found names tokens foreign Foreign x q = some_of foreign x q

-- a token that is lent while another is out is lent where none is
lent_apart : (tokens : List (Option Exn)) (r : Option ℕ) (x : Exn) (o : Option ℕ) → lent_at (set_at tokens r None) o ≡ Some x → lent_at tokens o ≡ Some x
lent_apart tokens None x o q = q
lent_apart tokens (Some r) x None q = q
lent_apart tokens (Some r) x (Some n) q =
    ⊎_elim
    (λ e. absurd (gone_there e))
    (λ d. sym (get_or-set_other tokens r n None None d) ∙ q)
    (cases_eq n r)
  where
    gone_there : n ≡ r → ⊥
    gone_there e = ⊎_elim
        (λ lt. let g : named (set tokens r None) r ≡ None = get_or-set_same tokens r None None lt in let w : named (set tokens r None) r ≡ Some x = subst (λ m. named (set tokens r None) m ≡ Some x) e q in cc)
        (λ ge. let g : named (set tokens r None) r ≡ None = get_or_past (set tokens r None) r None (let l = length-set tokens r None in omega arith) in let w : named (set tokens r None) r ≡ Some x = subst (λ m. named (set tokens r None) m ≡ Some x) e q in cc)
        (cases_lt r (length tokens))

lent_others : (names : List (Option ℕ)) (tokens : List (Option Exn)) (foreign : Option Exn) (name other : Name) (x : Exn)
    → Some x ≡ lent names (set_named names tokens other None) (set_foreign foreign other None) name → lent names tokens foreign name ≡ Some x
lent_others names tokens foreign (Made i) (Made j) x q = lent_apart tokens (named names j) x (named names i) (sym q)
lent_others names tokens foreign (Made i) Foreign x q = sym q
lent_others names tokens foreign Foreign (Made j) x q = sym q
lent_others names tokens foreign Foreign Foreign x q = absurd cc

pub lent_before : (rs rs1 : Reports) (name other : Name) (x : Exn) → rs1.names ≡ rs.names → rs1.table.tokens.items ≡ set_named rs.names.items rs.table.tokens.items other None → rs1.foreign ≡ set_foreign rs.foreign other None
    → Some x ≡ lent rs1.names.items rs1.table.tokens.items rs1.foreign name → lent rs.names.items rs.table.tokens.items rs.foreign name ≡ Some x
lent_before rs rs1 name other x a b d q =
    lent_others rs.names.items rs.table.tokens.items rs.foreign name other x
    (q ∙ ap (λ (n : List (Option ℕ)). lent n rs1.table.tokens.items rs1.foreign name) (ap (λ v. v.items) a)
    ∙ ap₂ (λ (t : List (Option Exn)) (f : Option Exn). lent rs.names.items t f name) b d)

module _ (h : Errors) (s : Session) where
  pub lent_handle : (name : Name) (x : Exn) → lent s.reports.names.items s.reports.table.tokens.items s.reports.foreign name ≡ Some x → report_of (state_of h s) name ≡ Some (handle x)
  lent_handle (Made i) x q = go (named s.reports.names.items i) refl q
    where
      go : (o : Option ℕ) → named s.reports.names.items i ≡ o → lent_at s.reports.table.tokens.items o ≡ Some x → report_of (state_of h s) (Made i) ≡ Some (handle x)
      go None e q = absurd cc
      go (Some r) e q =
          ap (in_store s.store.number) e
          ∙ ap Some (handled s.store.number _ r x (sym (s.reports_kept r) ∙ q))
  lent_handle Foreign x q = go s.reports.foreign s.foreign_kept q
    where
      go : (o : Option Exn) → report_in s.other o ≡ true → o ≡ Some x → Some (record { store = s.other.number; root = root_in o }) ≡ Some (handle x)
      go None f q = absurd cc
      go (Some y) f q =
          let e : y ≡ x = cc in
          ap (λ (n : ℕ). Some (record { store = n; root = y.root })) (sym (eqb-true y.store s.other.number (and_parts _ _ f).0)) ∙ ap (λ (z : Exn). Some (handle z)) e

  pub report_handle : (name : Name) (x : Exn) → Ok x ≡ found s.reports.names.items s.reports.table.tokens.items s.reports.foreign name → report_of (state_of h s) name ≡ Some (handle x)
  report_handle name x q = lent_handle name x (lent_found _ _ _ name x q)

-- what was taken out and put back
pub back_foreign : (names : List (Option ℕ)) (tokens : List (Option Exn)) (foreign : Option Exn) (name : Name) (x : Exn) → Ok x ≡ found names tokens foreign name → set_foreign (set_foreign foreign name None) name (Some x) ≡ foreign
back_foreign names tokens foreign (Made i) x q = refl
back_foreign names tokens foreign Foreign x q = sym (lent_found names tokens foreign Foreign x q)

-- a call that is turned down
pub ends_refused : (st : State) (c : Call) (st' : State) (f : StoreFault) (r : Stop) → r ≡ Refused f → Named st c → Cause st c (Some f) → st' ≡ st → Ends st c st' (Err r)
ends_refused st c st' f r e n q same = subst (λ (t : Stop). Ends st c st' (Err t)) (sym e) (n, q, same)

-- a report that another is to become the last child of
pub chain_refused : (h : Errors) (s : Session) (n o : Name) (x y : Exn) (f : StoreFault) → report_of (state_of h s) n ≡ Some (handle x) → report_of (state_of h s) o ≡ Some (handle y) → (n ≡ o → ⊥)
    → held (report_held s.store x && report_held s.store y && not (x.root == y.root)) None ≡ Some f → Named (state_of h s) (Chain n o) × Cause (state_of h s) (Chain n o) (Some f)
chain_refused h s n o x y f a b d e = (of_some _ _ _ a (of_some _ _ _ b d), of_some _ _ _ a (of_some _ _ _ b (sym e)))

pub restored_root : (names : List (Option ℕ)) (tokens : List (Option Exn)) (foreign f1 f2 : Option Exn) (name : Name) (x g : Exn) → Ok x ≡ found names tokens foreign name → f1 ≡ set_foreign foreign name None → g ≡ x → f2 ≡ set_foreign f1 name (Some g)
    → root_in f2 ≡ root_in foreign
restored_root names tokens foreign f1 f2 name x g q a b d =
    ap root_in (d ∙ ap₂ (λ (o : Option Exn) (y : Exn). set_foreign o name (Some y)) a b ∙ back_foreign names tokens foreign name x q)

abbrev pub state_with : ℕ → ℕ → ℕ → Errors → Ledger → List (Option ℕ) → List (Option (Option ℕ)) → List (Option (List Node)) → State
state_with n o f h l r b c = record { number = n; other = o; foreign = f; errors = h; ledger = l; reports = r; baskets = b; chains = c }

-- a state is what its parts are
pub same_parts : {n n' o o' f f' : ℕ} {h : Errors} {l l' : Ledger} {r r' : List (Option ℕ)} {b b' : List (Option (Option ℕ))} {c : List (Option (List Node))}
    → n' ≡ n → o' ≡ o → f' ≡ f → l' ≡ l → r' ≡ r → b' ≡ b → state_with n' o' f' h l' r' b' c ≡ state_with n o f h l r b c
same_parts {n} {n'} {o} {o'} {f} {f'} {h} {l} {l'} {r} {r'} {b} {b'} {c} en eo ef el er eb =
    ap₂ (λ x y. state_with x y f' h l' r' b' c) en eo ∙ (ap₂ (λ x y. state_with n o x h y r' b' c) ef el ∙ ap₂ (λ x y. state_with n o f h l x y c) er eb)
