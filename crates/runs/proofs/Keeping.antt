-- The tables of a session keep to what its store holds.
use Rattle.std.proofs.Common.{◌≡◌, ℕ, ◌<◌, Bool, true, false, cond, eqb, List, length, set, is_some, Some, None, Option, Ok, sym, eqb-true, refl, ap, ap₂, ◌∙◌, ⊎_elim, subst, arith}
use Rattle.std.proofs.lemmas.Bool.{and_parts, cases_eq, cond-true, cond-false, eq-eqb, ne_eqb}
use Rattle.std.proofs.lemmas.List.{get_or-set_same, get_or-set_other}
use Rattle.std.proofs.lemmas.Map.{update_here}
use Rattle.std.specs.Map.{update}
use Rattle.std.specs.Option.{ok_or}
use Rattle.ledger.specs.Causes.{held}
use Rattle.ledger.specs.Ledger.{Ledger, made, over, raised}
use Rattle.vocabulary.specs.declared.fault.StoreFault.{StoreFault}
use Rattle.vocabulary.specs.declared.frame_error.FrameError.{FrameError}
use Rattle.trees.specs.Trees.{Listing, Tree}
use Rattle.layout.proofs.Calls.{live_below, head_below}
use Rattle.store.specs.Calls.{NewExn, OpenExn, report_held}
use Rattle.store.specs.Store.{Became, ledger_of, trees_in}
use Rattle.store.specs.Token.{Basket, Exn}
use Rattle.store.specs.declared.store.Store.{Store}
use Rattle.store.specs.declared.token.Token.{Token}
use Rattle.runs.specs.State.{named}
use Rattle.runs.specs.Tokens.{Keeps, at_root, found, kept, report_in, reports_live, rows_live, set_at, set_named}
use Rattle.runs.specs.declared.call.Name.{Name}
use Rattle.runs.specs.declared.call.Name.TheVariants.{Made, Foreign}
use Rattle.runs.specs.declared.stop.Stop.TheVariants.{Refused}
use Rattle.vocabulary.specs.declared.fault.StoreFault.TheVariants.{NotHeld}
use Rattle.runs.specs.declared.table.Table.{Table}

-- a root lies below the number of frames
pub report_below : (s : Store) (n : ℕ) → is_some ((ledger_of s).reports n) ≡ true → n < 1024
report_below s n v = live_below s.frames.sound n v

some_in : (o : Option Listing) → is_some (trees_in o) ≡ true → is_some o ≡ true
some_in None v = v
some_in (Some x) v = refl

pub row_below : (s : Store) (n : ℕ) → is_some ((ledger_of s).rows n) ≡ true → n < 1024
row_below s n v = head_below s.frames.sound n (some_in _ v)

pub table_long : {R : Type 0} (t : Table R) (n : ℕ) → n < 1024 → n < length t.tokens.items
table_long t n u = let a = t.long in let b = t.tokens.ok.0 in omega arith

-- a test with another answer at one number
abbrev pub switch : (ℕ → Bool) → ℕ → Bool → ℕ → Bool
switch f n v j = cond (eqb n j) v (f j)

pub some_update : {A : Type 0} (r : ℕ → Option A) (n : ℕ) (v : Option A) (j : ℕ) → is_some (update eqb r n v j) ≡ switch (λ k. is_some (r k)) n (is_some v) j
some_update r n v j = elim (eqb n j) as (λ b. is_some (cond b v (r j)) ≡ cond b (is_some v) (is_some (r j))) [ true ↦ refl | false ↦ refl ]

pub keeps_set : {R : Type 0} (number : ℕ) (f : ℕ → Bool) (root : ℕ → R) (ts : List (Option (Token R))) (n : ℕ) (v : Bool) (t : Option (Token R)) → Keeps number f root ts → n < length ts → t ≡ kept number v (root n)
    → Keeps number (switch f n v) root (set ts n t)
keeps_set number f root ts n v t k u e j =
    ⊎_elim
    (λ p. subst (λ m. named (set ts n t) m ≡ kept number (switch f n v m) (root m)) (sym p) (get_or-set_same ts n t None u ∙ e ∙ sym (ap (λ b. kept number b (root n)) (cond-true (eqb n n) v (f n) (eq-eqb n n refl)))))
    (λ d. get_or-set_other ts n j t None d ∙ k j ∙ sym (ap (λ b. kept number b (root j)) (cond-false (eqb n j) v (f j) (ne_eqb n j (λ q. d (sym q))))))
    (cases_eq j n)

-- the same tokens, where the store has another meaning by other words
pub keeps_as : {R : Type 0} (number number' : ℕ) (f g : ℕ → Bool) (root : ℕ → R) (ts : List (Option (Token R))) → Keeps number f root ts → number' ≡ number → ((j : ℕ) → g j ≡ f j) → Keeps number' g root ts
keeps_as number number' f g root ts k p q j = k j ∙ sym (ap (λ m. kept m (g j) (root j)) p ∙ ap (λ b. kept number b (root j)) (q j))

open_exn : (s : Store) (y : Exn) → OpenExn s y → Some y ≡ kept s.number true y.root
open_exn s y o = ap₂ (λ (n : ℕ) (b : Bool). Some (record { store = n; root = y.root; spent = b })) o.store o.unspent

-- a new report is put in its place
pub keeps_new : (before after : Store) (l : Ledger) (f : ℕ → Bool) (y : Exn) (ts : List (Option Exn)) → Became before after l → OpenExn before y → y.root < length ts → ((j : ℕ) → is_some (l.reports j) ≡ switch f y.root true j)
    → Keeps before.number f (λ j. j) ts → Keeps after.number (reports_live after) (λ j. j) (set ts y.root (Some y))
keeps_new before after l f y ts b o u e k =
    keeps_as before.number after.number (switch f y.root true) (reports_live after) (λ j. j) (set ts y.root (Some y))
    (keeps_set before.number f (λ j. j) ts y.root true (Some y) k u (open_exn before y o)) b.number (λ j. ap is_some (b.holds.reports j) ∙ e j)

-- the rows of a store stay
pub rows_stay : (before after : Store) (l : Ledger) (ts : List (Option Basket)) → Became before after l → ((j : ℕ) → l.rows j ≡ (ledger_of before).rows j)
    → Keeps before.number (rows_live before) Some ts → Keeps after.number (rows_live after) Some ts
rows_stay before after l ts b e k = keeps_as before.number after.number (rows_live before) (rows_live after) Some ts k b.number (λ j. ap is_some (b.holds.rows j ∙ e j))

-- a new report of one frame
module _ (before after : Store) (cause : Option StoreFault) (e : FrameError) (p : ℕ) (y : Exn) (n : NewExn before after cause (made (ledger_of before) e p) y) where
  pub made_below : y.root < 1024
  made_below = report_below after y.root (ap is_some (n.granted.became.holds.reports y.root ∙ update_here (ledger_of before).reports y.root _))

  pub made_keeps : (t : Table ℕ) → Keeps before.number (reports_live before) (λ j. j) t.tokens.items → (ts : List (Option Exn)) → ts ≡ set t.tokens.items y.root (Some y) → Keeps after.number (reports_live after) (λ j. j) ts
  made_keeps t k ts q = subst (Keeps after.number (reports_live after) (λ j. j)) (sym q)
      (keeps_new before after _ (reports_live before) y t.tokens.items n.granted.became n.open_exn (table_long t y.root made_below) (λ j. some_update (ledger_of before).reports y.root _ j) k)

  pub made_rows : (ts : List (Option Basket)) → Keeps before.number (rows_live before) Some ts → Keeps after.number (rows_live after) Some ts
  made_rows ts k = rows_stay before after _ ts n.granted.became (λ j. refl) k

some_is : {A : Type 0} {x y : A} → Some x ≡ Some y → x ≡ y
some_is e = cc

-- what stands at a number is known by it
kept_root : (number n : ℕ) (b : Bool) (x : Exn) → kept number b n ≡ Some x → x.root ≡ n
kept_root number n true x e = ap (λ (y : Exn). y.root) (sym (some_is e))
kept_root number n false x e = cc

-- a report that is the store's is taken out of its place
module _ (s other : Store) (names : List (Option ℕ)) (t : Table ℕ) (foreign : Option Exn) (x : Exn) (v : report_held s x ≡ true) where
  at_root_keeps : (o : Option ℕ) → at_root t.tokens.items o ≡ Ok x → Keeps s.number (reports_live s) (λ j. j) t.tokens.items → Keeps s.number (switch (reports_live s) x.root false) (λ j. j) (set_at t.tokens.items o None)
  at_root_keeps None q k = absurd cc
  at_root_keeps (Some r) q k =
      let w : named t.tokens.items r ≡ Some x = ok_is _ q in
      let e : x.root ≡ r = kept_root s.number r (reports_live s r) x (sym (k r) ∙ w) in
      subst (λ m. Keeps s.number (switch (reports_live s) m false) (λ j. j) (set t.tokens.items r None)) (sym e)
      (keeps_set s.number (reports_live s) (λ j. j) t.tokens.items r false None k (table_long t r (report_below s r (subst (λ m. reports_live s m ≡ true) e (and_parts _ _ v).1))) refl)
    where
      ok_is : (o : Option Exn) → ok_or o (Refused NotHeld) ≡ Ok x → o ≡ Some x
      ok_is None q = absurd cc
      ok_is (Some y) q = cc

  pub taken_keeps : (name : Name) → found names t.tokens.items foreign name ≡ Ok x → report_in other foreign ≡ true → (other.number ≡ s.number → ⊥) → Keeps s.number (reports_live s) (λ j. j) t.tokens.items
      → Keeps s.number (switch (reports_live s) x.root false) (λ j. j) (set_named names t.tokens.items name None)
  taken_keeps (Made i) q f a k = at_root_keeps (named names i) q k
  taken_keeps Foreign q f a k = absurd (other_store foreign q f)
    where
      other_store : (o : Option Exn) → ok_or o (Refused NotHeld) ≡ Ok x → report_in other o ≡ true → ⊥
      other_store None q f = cc
      other_store (Some y) q f =
          let e : y ≡ x = cc in
          a (sym (eqb-true y.store other.number (and_parts _ _ f).0) ∙ ap (λ (z : Exn). z.store) e ∙ eqb-true x.store s.number (and_parts _ _ v).0)

-- a call that is granted has found what it asks for
pub held_true : (b : Bool) (rest : Option StoreFault) → held b rest ≡ None → b ≡ true
held_true true rest q = refl
held_true false rest q = cc

-- the same, as the calls on the table say it
pub kept_out : (s other : Store) (names : List (Option ℕ)) (t t1 : Table ℕ) (foreign : Option Exn) (name : Name) (x : Exn) → report_held s x ≡ true → Ok x ≡ found names t.tokens.items foreign name
    → report_in other foreign ≡ true → (other.number ≡ s.number → ⊥) → Keeps s.number (reports_live s) (λ j. j) t.tokens.items → t1.tokens.items ≡ set_named names t.tokens.items name None
    → Keeps s.number (switch (reports_live s) x.root false) (λ j. j) t1.tokens.items
kept_out s other names t t1 foreign name x v q f a k e =
    subst (Keeps s.number (switch (reports_live s) x.root false) (λ j. j)) (sym e) (taken_keeps s other names t foreign x v name (sym q) f a k)

-- a new root over a report
module _ (before after : Store) (x : Exn) (rest : Option StoreFault) (e : FrameError) (p : ℕ) (y : Exn) (n : NewExn before after (held (report_held before x) rest) (raised (ledger_of before) x.root e p) y) where
  pub raised_held : report_held before x ≡ true
  raised_held = held_true _ _ n.granted.free

  live : reports_live before x.root ≡ true
  live = (and_parts _ _ raised_held).1

  over_live : (o : Option Tree) → is_some o ≡ true → is_some (over e p o) ≡ true
  over_live None q = q
  over_live (Some t) q = refl

  pub raised_below : y.root < 1024
  raised_below = report_below after y.root (ap is_some (n.granted.became.holds.reports y.root ∙ update_here (update eqb (ledger_of before).reports x.root None) y.root _) ∙ over_live _ live)

  raised_live : (j : ℕ) → is_some ((raised (ledger_of before) x.root e p y.root).reports j) ≡ switch (switch (reports_live before) x.root false) y.root true j
  raised_live j =
      some_update (update eqb (ledger_of before).reports x.root None) y.root (over e p ((ledger_of before).reports x.root)) j
      ∙ ap₂ (λ (b c : Bool). cond (eqb y.root j) b c) (over_live _ live) (some_update (ledger_of before).reports x.root None j)

  pub raised_keeps : (t : Table ℕ) → Keeps before.number (switch (reports_live before) x.root false) (λ j. j) t.tokens.items → (ts : List (Option Exn)) → ts ≡ set t.tokens.items y.root (Some y) → Keeps after.number (reports_live after) (λ j. j) ts
  raised_keeps t k ts q = subst (Keeps after.number (reports_live after) (λ j. j)) (sym q)
      (keeps_new before after _ (switch (reports_live before) x.root false) y t.tokens.items n.granted.became n.open_exn (table_long t y.root raised_below) raised_live k)

  pub raised_rows : (ts : List (Option Basket)) → Keeps before.number (rows_live before) Some ts → Keeps after.number (rows_live after) Some ts
  raised_rows ts k = rows_stay before after _ ts n.granted.became (λ j. refl) k

-- a new report over any tree
module _ (before after : Store) (l : Ledger) (y : Exn) (v : Tree) (b : Became before after l) (put : (j : ℕ) → l.reports j ≡ update eqb (ledger_of before).reports y.root (Some v) j) where
  pub fresh_below : y.root < 1024
  fresh_below = report_below after y.root (ap is_some (b.holds.reports y.root ∙ put y.root ∙ update_here (ledger_of before).reports y.root (Some v)))

  pub fresh_keeps : OpenExn before y → (t : Table ℕ) → Keeps before.number (reports_live before) (λ j. j) t.tokens.items → (ts : List (Option Exn)) → ts ≡ set t.tokens.items y.root (Some y) → Keeps after.number (reports_live after) (λ j. j) ts
  fresh_keeps o t k ts q = subst (Keeps after.number (reports_live after) (λ j. j)) (sym q)
      (keeps_new before after l (reports_live before) y t.tokens.items b o (table_long t y.root fresh_below) (λ j. ap is_some (put j) ∙ some_update (ledger_of before).reports y.root (Some v) j) k)
