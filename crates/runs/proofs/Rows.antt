-- The tokens of baskets are taken out of their places and put back.
use Rattle.std.proofs.Common.{◌≡◌, ℕ, ◌<◌, Bool, true, false, ◌&&◌, cond, eqb, List, length, set, get_or, is_some, Some, None, Option, Ok, Err, Result, sym, refl, ap, ap₂, ◌∙◌, subst, set-set, eqb-true, ⊎_elim}
use Rattle.std.proofs.lemmas.Bool.{and_parts, cases_eq, cond-false, cond-true, eq-eqb, ne_eqb}
use Rattle.std.proofs.lemmas.List.{get_or-set_other, get_or-set_same, length-set, set-get_or}
use Rattle.std.specs.Map.{update}
use Rattle.std.specs.Option.{ok_or}
use Rattle.vocabulary.specs.declared.fault.StoreFault.TheVariants.{NotHeld}
use Rattle.trees.specs.Trees.{Forest, Listing, Tree, empty, tree}
use Rattle.trees.specs.Listings.{bare}
use Rattle.ledger.specs.Ledger.{Ledger, Known, first_of, first_root, opened, trees_of, under, without}
use Rattle.ledger.specs.Causes.{held, is_row}
use Rattle.layout.proofs.Told.{report_no_row}
use Rattle.layout.specs.Layout.{blank}
use Rattle.layout.specs.Reports.{if_row, read_row, rows}
use Rattle.layout.specs.declared.frame.Frame.{Frame}
use Rattle.layout.specs.declared.frame.Role.{Role}
use Rattle.layout.specs.declared.frame.Role.TheVariants.{Linked, Report, Row}
use mathlib.Core.Path.{fun_ext}
use Rattle.store.specs.Calls.{Collected, DrainedInto, Taken, TakenOut, basket_held, report_held}
use Rattle.vocabulary.specs.declared.fault.StoreFault.{StoreFault}
use Rattle.store.specs.Store.{Became, ledger_of, trees_in}
use Rattle.store.specs.Token.{Basket, Exn}
use Rattle.store.specs.declared.store.Store.{Store}
use Rattle.runs.specs.State.{named}
use Rattle.runs.specs.Tokens.{Keeps, Same, VacantRow, at_row, empty_of, flat, found_basket, kept, reports_live, rows_live, set_basket, set_row}
use Rattle.runs.specs.declared.call.Name.{Name}
use Rattle.runs.specs.declared.call.Name.TheVariants.{Made, Foreign}
use Rattle.runs.specs.declared.stop.Stop.{Stop}
use Rattle.runs.specs.declared.stop.Stop.TheVariants.{Refused}
use Rattle.runs.specs.declared.table.Table.{Table}
use Rattle.runs.proofs.Keeping.{held_true, keeps_as, keeps_new, keeps_set, row_below, some_update, switch, table_long}

-- a basket's token stands at its root, where it has one
abbrev pub StandsAt : List (Option Basket) → Option ℕ → Basket → Type 0
StandsAt tokens None b = Unit {0}
StandsAt tokens (Some r) b = named tokens r ≡ Some b

-- a token that was taken out of its place
pub record Out (tokens tokens' : List (Option Basket)) (b : Basket) : Type 0 where
  pub left : tokens' ≡ set_row tokens b.root None
  pub was : StandsAt tokens b.root b
  pub unspent : b.spent ≡ false

some_of : (t : Option Basket) (b : Basket) → Ok b ≡ ok_or t (Refused NotHeld) → t ≡ Some b
some_of None b q = absurd cc
some_of (Some y) b q = cc

some_is : {A : Type 0} {x y : A} → Some x ≡ Some y → x ≡ y
some_is e = cc

kept_row : (number n : ℕ) (v : Bool) (b : Basket) → kept number v (Some n) ≡ Some b → b.root ≡ Some n
kept_row number n true b e = ap (λ (y : Basket). y.root) (sym (some_is e))
kept_row number n false b e = cc

out_empty : (tokens : List (Option Basket)) (number : ℕ) (b : Basket) → b ≡ empty_of number → Out tokens tokens b
out_empty tokens number b e = subst (Out tokens tokens) (sym e) (record { left = refl; was = tt; unspent = refl })

kept_open : (number n : ℕ) (v : Bool) (b : Basket) → kept number v (Some n) ≡ Some b → b.spent ≡ false
kept_open number n true b e = ap (λ (y : Basket). y.spent) (sym (some_is e))
kept_open number n false b e = cc

abbrev ok : Basket → Result Basket Stop
ok b = Ok b

ok_is : {x y : Basket} → ok x ≡ ok y → x ≡ y
ok_is e = cc

out_at : (number : ℕ) (f : ℕ → Bool) (tokens : List (Option Basket)) (b : Basket) → Keeps number f Some tokens → (o : Option (Option ℕ)) → Ok b ≡ at_row number tokens o → Out tokens (set_row tokens (flat o) None) b
out_at number f tokens b k None q = absurd cc
out_at number f tokens b k (Some None) q = out_empty tokens number b (ok_is q)
out_at number f tokens b k (Some (Some r)) q =
    let w = some_of (named tokens r) b q in
    let e = kept_row number r (f r) b (sym (k r) ∙ w) in
    record { left = ap (λ o. set_row tokens o None) (sym e); was = subst (λ o. StandsAt tokens o b) (sym e) w; unspent = kept_open number r (f r) b (sym (k r) ∙ w) }

pub out : (number other : ℕ) (f : ℕ → Bool) (names : List (Option (Option ℕ))) (tokens tokens' : List (Option Basket)) (name : Name) (b : Basket) → Keeps number f Some tokens → Ok b ≡ found_basket number other names tokens name
    → tokens' ≡ set_basket names tokens name None → Out tokens tokens' b
out number other f names tokens tokens' (Made i) b k q e = subst (λ t. Out tokens t b) (sym e) (out_at number f tokens b k (named names i) q)
out number other f names tokens tokens' Foreign b k q e = subst (λ t. Out tokens t b) (sym e) (out_empty tokens other b (ok_is q))

-- tests with other answers at the root of a row
abbrev pub without_live : (ℕ → Bool) → Option ℕ → ℕ → Bool
without_live f None = f
without_live f (Some r) = switch f r false

abbrev pub opened_live : (ℕ → Bool) → Option ℕ → ℕ → Bool
opened_live f None = f
opened_live f (Some r) = switch f r true

pub without_is : (rows : ℕ → Option Forest) (o : Option ℕ) (j : ℕ) → is_some (without rows o j) ≡ without_live (λ n. is_some (rows n)) o j
without_is rows None j = refl
without_is rows (Some r) j = some_update rows r None j

pub opened_is : (rows : ℕ → Option Forest) (o : Option ℕ) (f : Forest) (j : ℕ) → is_some (opened rows o f j) ≡ opened_live (λ n. is_some (rows n)) o j
opened_is rows None f j = refl
opened_is rows (Some r) f j = some_update rows r (Some f) j

live_of : (number : ℕ) (v : Bool) (n : ℕ) (b : Basket) → kept number v (Some n) ≡ Some b → v ≡ true
live_of number true n b e = refl
live_of number false n b e = cc

module _ (s : Store) (t : Table (Option ℕ)) (tokens' : List (Option Basket)) (b : Basket) (k : Keeps s.number (rows_live s) Some t.tokens.items) (w : Out t.tokens.items tokens' b) where
  below : (r : ℕ) → named t.tokens.items r ≡ Some b → r < length t.tokens.items
  below r e = table_long t r (row_below s r (live_of s.number (rows_live s r) r b (sym (k r) ∙ e)))

  pub out_vacant : VacantRow tokens' b.root
  out_vacant = subst (λ ts. VacantRow ts b.root) (sym w.left) (go b.root w.was)
    where
      go : (o : Option ℕ) → StandsAt t.tokens.items o b → VacantRow (set_row t.tokens.items o None) o
      go None u = tt
      go (Some r) u = (row_below s r (live_of s.number (rows_live s r) r b (sym (k r) ∙ u)), get_or-set_same t.tokens.items r None None (below r u))

  pub out_back : (tokens'' : List (Option Basket)) → tokens'' ≡ set_row tokens' b.root (Some b) → Keeps s.number (rows_live s) Some tokens''
  out_back tokens'' e = subst (Keeps s.number (rows_live s) Some) (sym (e ∙ ap (λ ts. set_row ts b.root (Some b)) w.left)) (go b.root w.was)
    where
      go : (o : Option ℕ) → StandsAt t.tokens.items o b → Keeps s.number (rows_live s) Some (set_row (set_row t.tokens.items o None) o (Some b))
      go None u = k
      go (Some r) u = subst (Keeps s.number (rows_live s) Some) (sym (set-set t.tokens.items r None (Some b) ∙ ap (set t.tokens.items r) (sym u) ∙ set-get_or t.tokens.items r None)) k

  pub out_keeps : Keeps s.number (without_live (rows_live s) b.root) Some tokens'
  out_keeps = subst (Keeps s.number (without_live (rows_live s) b.root) Some) (sym w.left) (go b.root w.was)
    where
      go : (o : Option ℕ) → StandsAt t.tokens.items o b → Keeps s.number (without_live (rows_live s) o) Some (set_row t.tokens.items o None)
      go None u = k
      go (Some r) u = keeps_set s.number (rows_live s) Some t.tokens.items r false None k (below r u) refl

  -- where a call has taken its reports
  pub out_gone : (after : Store) (l : Ledger) → Became s after l → ((j : ℕ) → l.rows j ≡ without (ledger_of s).rows b.root j) → Keeps after.number (rows_live after) Some tokens'
  out_gone after l c e = keeps_as s.number after.number _ (rows_live after) Some tokens' out_keeps c.number (λ j. ap is_some (c.holds.rows j ∙ e j) ∙ without_is (ledger_of s).rows b.root j)

none_of : (t : Option Basket) (e : Stop) → Err e ≡ ok_or t (Refused NotHeld) → t ≡ None
none_of None e q = refl
none_of (Some b) e q = absurd cc

-- where no token was found, none is missing
pub missed : (number other : ℕ) (names : List (Option (Option ℕ))) (tokens tokens' : List (Option Basket)) (name : Name) (e : Stop) → Err e ≡ found_basket number other names tokens name → tokens' ≡ set_basket names tokens name None → tokens' ≡ tokens
missed number other names tokens tokens' (Made i) e q d = d ∙ go (named names i) q
  where
    go : (o : Option (Option ℕ)) → Err e ≡ at_row number tokens o → set_row tokens (flat o) None ≡ tokens
    go None q = refl
    go (Some None) q = refl
    go (Some (Some r)) q = ap (set tokens r) (sym (none_of (named tokens r) e q)) ∙ set-get_or tokens r None
missed number other names tokens tokens' Foreign e q d = d

-- a token that comes back, where the store may have ended an empty basket
pub back_kept : (s s1 s2 : Store) (t : Table (Option ℕ)) (tokens' tokens'' : List (Option Basket)) (b g : Basket) → Keeps s.number (rows_live s) Some t.tokens.items → Out t.tokens.items tokens' b → s1 ≡ s → g ≡ b
    → tokens'' ≡ set_row tokens' g.root (Some g) → Same s1 s2 → Keeps s2.number (rows_live s2) Some tokens''
back_kept s s1 s2 t tokens' tokens'' b g k w e d q m =
    keeps_as s.number s2.number (rows_live s) (rows_live s2) Some tokens'' (out_back s t tokens' b k w tokens'' (q ∙ ap (λ (x : Basket). set_row tokens' x.root (Some x)) d)) (m.number ∙ ap (λ (z : Store). z.number) e)
    (λ j. ap is_some (m.holds.rows j) ∙ ap (λ (z : Store). rows_live z j) e)

pub reports_same : (s s1 s2 : Store) (ts : List (Option Exn)) → s1 ≡ s → Same s1 s2 → Keeps s.number (reports_live s) (λ j. j) ts → Keeps s2.number (reports_live s2) (λ j. j) ts
reports_same s s1 s2 ts e m k =
    keeps_as s.number s2.number (reports_live s) (reports_live s2) (λ j. j) ts k (m.number ∙ ap (λ (z : Store). z.number) e) (λ j. ap is_some (m.holds.reports j) ∙ ap (λ (z : Store). reports_live z j) e)

pub rows_same : (s s1 s2 : Store) (ts : List (Option Basket)) → s1 ≡ s → Same s1 s2 → Keeps s.number (rows_live s) Some ts → Keeps s2.number (rows_live s2) Some ts
rows_same s s1 s2 ts e m k =
    keeps_as s.number s2.number (rows_live s) (rows_live s2) Some ts k (m.number ∙ ap (λ (z : Store). z.number) e) (λ j. ap is_some (m.holds.rows j) ∙ ap (λ (z : Store). rows_live z j) e)

-- a report's tree grows or shrinks
pub reports_stay : (before after : Store) (l : Ledger) (x : ℕ) (v : Option Tree) (ts : List (Option Exn)) → Became before after l → ((j : ℕ) → l.reports j ≡ update eqb (ledger_of before).reports x v j) → is_some v ≡ reports_live before x
    → Keeps before.number (reports_live before) (λ j. j) ts → Keeps after.number (reports_live after) (λ j. j) ts
reports_stay before after l x v ts b e w k =
    keeps_as before.number after.number (reports_live before) (reports_live after) (λ j. j) ts k b.number
    (λ j. ap is_some (b.holds.reports j ∙ e j) ∙ some_update (ledger_of before).reports x v j ∙ go j)
  where
    go : (j : ℕ) → cond (eqb x j) (is_some v) (reports_live before j) ≡ reports_live before j
    go j = ⊎_elim (λ p. cond-true (eqb x j) (is_some v) (reports_live before j) (eq-eqb x j (sym p)) ∙ w ∙ ap (reports_live before) (sym p)) (λ d. cond-false (eqb x j) (is_some v) (reports_live before j) (ne_eqb x j (λ q. d (sym q)))) (cases_eq j x)

pub under_some : (o : Option Tree) (f : Forest) → is_some (under o f) ≡ is_some o
under_some None f = refl
under_some (Some t) f = refl

pub bare_some : (o : Option Tree) → is_some (bare o) ≡ is_some o
bare_some None = refl
bare_some (Some t) = refl

known_row : (l : Ledger) (f : Forest) (o : Option ℕ) (n : ℕ) → Known l f o → o ≡ Some n → l.rows n ≡ None
known_row l empty o n q e = absurd cc
known_row l (tree a p k r) o n q e = subst (λ m. l.rows m ≡ None) (some_is (sym q.1 ∙ e)) q.2.row

-- the children of a report's root become the row of a new basket
module _ (before after : Store) (x : Exn) (b : Basket) (d : DrainedInto before after x b) (t : Table (Option ℕ)) (k : Keeps before.number (rows_live before) Some t.tokens.items) where
  row_now : (n : ℕ) → b.root ≡ Some n → n < 1024
  row_now n e = row_below after n (
      ap is_some (d.granted.became.holds.rows n) ∙ opened_is (ledger_of before).rows b.root _ n ∙ ap (λ o. opened_live (rows_live before) o n) e ∙ cond-true (eqb n n) true (rows_live before n) (eq-eqb n n refl))

  pub drained_vacant : VacantRow t.tokens.items b.root
  drained_vacant = go b.root refl
    where
      go : (o : Option ℕ) → b.root ≡ o → VacantRow t.tokens.items o
      go None e = tt
      go (Some n) e = (row_now n e, k n ∙ ap (λ (v : Option Forest). kept before.number (is_some v) (Some n)) (known_row (ledger_of before) _ b.root n d.known e))

  basket_is : Some b ≡ kept before.number true b.root
  basket_is = ap₂ (λ (n : ℕ) (v : Bool). Some (record { store = n; root = b.root; spent = v })) d.open_basket.store d.open_basket.unspent

  pub drained_rows : (ts : List (Option Basket)) → ts ≡ set_row t.tokens.items b.root (Some b) → Keeps after.number (rows_live after) Some ts
  drained_rows ts q = subst (Keeps after.number (rows_live after) Some) (sym q)
      (keeps_as before.number after.number (opened_live (rows_live before) b.root) (rows_live after) Some _ (go b.root refl) d.granted.became.number (λ j. ap is_some (d.granted.became.holds.rows j) ∙ opened_is (ledger_of before).rows b.root _ j))
    where
      go : (o : Option ℕ) → b.root ≡ o → Keeps before.number (opened_live (rows_live before) o) Some (set_row t.tokens.items o (Some b))
      go None e = k
      go (Some n) e = keeps_set before.number (rows_live before) Some t.tokens.items n true (Some b) k (table_long t n (row_now n e)) (basket_is ∙ ap (kept before.number true) e)

  pub drained_reports : (ts : List (Option Exn)) → Keeps before.number (reports_live before) (λ j. j) ts → Keeps after.number (reports_live after) (λ j. j) ts
  drained_reports ts r = reports_stay before after _ x.root _ ts d.granted.became (λ j. refl) (bare_some _) r

first_tree : (fs : List Frame) (n : ℕ) → is_some (trees_in (rows fs n)) ≡ true → is_some (first_of (trees_of (trees_in (rows fs n)))) ≡ true
unfolding rows read_row
first_tree fs n q = go (get_or fs n blank).role q
  where
    go : (s : Role) → is_some (trees_in (if_row s (read_row 1024 fs (Some n)))) ≡ true → is_some (first_of (trees_of (trees_in (if_row s (read_row 1024 fs (Some n)))))) ≡ true
    go Linked q = absurd cc
    go Report q = absurd cc
    go (Row l k) q = refl

-- the first report of a basket comes out of its row
module _ (before after : Store) (b b' : Basket) (y : Exn) (d : TakenOut before after b b' y) (t : Table (Option ℕ)) (k : Keeps before.number (rows_live before) Some t.tokens.items) (tokens : List (Option Basket)) (w : Out t.tokens.items tokens b) where
  row_of_y : rows_live before y.root ≡ true
  row_of_y = ap (is_row (ledger_of before)) (sym d.first) ∙ (and_parts _ _ (held_true _ _ d.granted.free)).1

  tokens_left : tokens ≡ set t.tokens.items y.root None
  tokens_left = w.left ∙ ap (λ o. set_row t.tokens.items o None) d.first

  pub taken_below : y.root < 1024
  taken_below = row_below before y.root row_of_y

  pub taken_reports : (u : Table ℕ) → Keeps before.number (reports_live before) (λ j. j) u.tokens.items → (ts : List (Option Exn)) → ts ≡ set u.tokens.items y.root (Some y) → Keeps after.number (reports_live after) (λ j. j) ts
  taken_reports u r ts q = subst (Keeps after.number (reports_live after) (λ j. j)) (sym q)
      (keeps_new before after _ (reports_live before) y u.tokens.items d.granted.became d.open_exn (table_long u y.root taken_below)
      (λ j. some_update (ledger_of before).reports y.root _ j ∙ ap (λ (v : Bool). switch (reports_live before) y.root v j) (first_tree before.frames.frames y.root row_of_y)) r)

  next_now : (n : ℕ) → b'.root ≡ Some n → n < 1024
  next_now n e = row_below after n (
      ap is_some (d.granted.became.holds.rows n) ∙ opened_is (without (ledger_of before).rows (Some y.root)) b'.root _ n
      ∙ ap (λ o. opened_live (λ m. is_some (without (ledger_of before).rows (Some y.root) m)) o n) e ∙ cond-true (eqb n n) true _ (eq-eqb n n refl))

  next_empty : (n : ℕ) → b'.root ≡ Some n → named tokens n ≡ None
  next_empty n e =
      ap (λ ts. named ts n) tokens_left ∙
      ⊎_elim
      (λ p. ap (named (set t.tokens.items y.root None)) p ∙ get_or-set_same t.tokens.items y.root None None (table_long t y.root taken_below))
      (λ p. get_or-set_other t.tokens.items y.root n None None p ∙ k n ∙ ap (λ (v : Option Forest). kept before.number (is_some v) (Some n)) (known_row (ledger_of before) _ b'.root n d.known e))
      (cases_eq n y.root)

  pub taken_vacant : VacantRow tokens b'.root
  taken_vacant = go b'.root refl
    where
      go : (o : Option ℕ) → b'.root ≡ o → VacantRow tokens o
      go None e = tt
      go (Some n) e = (next_now n e, next_empty n e)

  next_is : b.store ≡ before.number → b.spent ≡ false → Some b' ≡ kept before.number true b'.root
  next_is p q = ap Some d.same ∙ ap₂ (λ (n : ℕ) (v : Bool). Some (record { store = n; root = b'.root; spent = v })) p q

  pub taken_rows : b.store ≡ before.number → b.spent ≡ false → (ts : List (Option Basket)) → ts ≡ set_row tokens b'.root (Some b') → Keeps after.number (rows_live after) Some ts
  taken_rows p q ts e = subst (Keeps after.number (rows_live after) Some) (sym e)
      (keeps_as before.number after.number (opened_live (switch (rows_live before) y.root false) b'.root) (rows_live after) Some _ (go b'.root refl) d.granted.became.number
      (λ j. ap is_some (d.granted.became.holds.rows j) ∙ opened_is (without (ledger_of before).rows (Some y.root)) b'.root _ j ∙ ap (λ f. opened_live f b'.root j) (fun_ext (λ m. some_update (ledger_of before).rows y.root None m))))
    where
      left : Keeps before.number (switch (rows_live before) y.root false) Some tokens
      left = subst (Keeps before.number (switch (rows_live before) y.root false) Some) (sym tokens_left) (keeps_set before.number (rows_live before) Some t.tokens.items y.root false None k (table_long t y.root taken_below) refl)

      go : (o : Option ℕ) → b'.root ≡ o → Keeps before.number (opened_live (switch (rows_live before) y.root false) o) Some (set_row tokens o (Some b'))
      go None f = left
      go (Some n) f = keeps_set before.number (switch (rows_live before) y.root false) Some tokens n true (Some b') left (subst (λ ts. n < length ts) (sym tokens_left) (subst (λ m. n < m) (sym (length-set t.tokens.items y.root None)) (table_long t n (next_now n f)))) (next_is p q ∙ ap (kept before.number true) f)

pub taken_out : (before after : Store) (b b' : Basket) (o : Option Exn) (y : Exn) → o ≡ Some y → Taken before after b b' (Ok o) → TakenOut before after b b' y
taken_out before after b b' o y e m = subst (λ (z : Option Exn). Taken before after b b' (Ok z)) e m

pub basket_number : (s : Store) (b : Basket) (rest : Option StoreFault) → held (basket_held s b) rest ≡ None → b.store ≡ s.number
basket_number s b rest q = eqb-true b.store s.number (and_parts _ _ (held_true _ _ q)).0

pub taken_none : (before after : Store) (b b' : Basket) (o : Option Exn) → o ≡ None → Taken before after b b' (Ok o) → (after ≡ before) × (b' ≡ b)
taken_none before after b b' o e m = let n = subst (λ (z : Option Exn). Taken before after b b' (Ok z)) e m in (n.2, n.3)

-- a report goes to the end of a basket's row
module _ (before after : Store) (b b' : Basket) (x : Exn) (m : Collected before after b b' x (Ok tt)) (t : Table (Option ℕ)) (k : Keeps before.number (rows_live before) Some t.tokens.items) (tokens : List (Option Basket)) (w : Out t.tokens.items tokens b) where
  both : (basket_held before b && report_held before x) ≡ true
  both = held_true _ _ m.0.free

  pub collected_held : report_held before x ≡ true
  collected_held = (and_parts (basket_held before b) (report_held before x) both).1

  root_is : b'.root ≡ Some (first_root b.root x.root)
  root_is = ap (λ (z : Basket). z.root) m.1

  free_there : (o : Option ℕ) → without_live (rows_live before) o (first_root o x.root) ≡ false
  free_there None = ap (λ (v : Option Listing). is_some (trees_in v)) (report_no_row before.frames.frames x.root (and_parts _ _ collected_held).1)
  free_there (Some h) = cond-true (eqb h h) false (rows_live before h) (eq-eqb h h refl)

  first_below : first_root b.root x.root < 1024
  first_below = row_below after (first_root b.root x.root) (
      ap is_some (m.0.became.holds.rows (first_root b.root x.root)) ∙ opened_is (without (ledger_of before).rows b.root) (Some (first_root b.root x.root)) _ (first_root b.root x.root)
      ∙ cond-true (eqb (first_root b.root x.root) (first_root b.root x.root)) true _ (eq-eqb _ _ refl))

  kept_left : Keeps before.number (without_live (rows_live before) b.root) Some tokens
  kept_left = out_keeps before t tokens b k w

  pub collected_vacant : VacantRow tokens b'.root
  collected_vacant = subst (VacantRow tokens) (sym root_is) (first_below, kept_left (first_root b.root x.root) ∙ ap (λ (v : Bool). kept before.number v (Some (first_root b.root x.root))) (free_there b.root))

  long : (o : Option ℕ) (n : ℕ) → n < 1024 → n < length (set_row t.tokens.items o None)
  long None n u = table_long t n u
  long (Some r) n u = subst (λ l. n < l) (sym (length-set t.tokens.items r None)) (table_long t n u)

  basket_now : Some b' ≡ kept before.number true (Some (first_root b.root x.root))
  basket_now = ap Some m.1 ∙ ap₂ (λ (n : ℕ) (v : Bool). Some (record { store = n; root = Some (first_root b.root x.root); spent = v })) (eqb-true b.store before.number (and_parts _ _ (and_parts (basket_held before b) (report_held before x) both).0).0) w.unspent

  pub collected_rows : (ts : List (Option Basket)) → ts ≡ set_row tokens b'.root (Some b') → Keeps after.number (rows_live after) Some ts
  collected_rows ts q = subst (Keeps after.number (rows_live after) Some) (sym (q ∙ ap (λ o. set_row tokens o (Some b')) root_is))
      (keeps_as before.number after.number (switch (without_live (rows_live before) b.root) (first_root b.root x.root) true) (rows_live after) Some _
      (keeps_set before.number (without_live (rows_live before) b.root) Some tokens (first_root b.root x.root) true (Some b') kept_left (subst (λ zs. first_root b.root x.root < length zs) (sym w.left) (long b.root _ first_below)) basket_now) m.0.became.number
      (λ j. ap is_some (m.0.became.holds.rows j) ∙ opened_is (without (ledger_of before).rows b.root) (Some (first_root b.root x.root)) _ j
      ∙ ap (λ (f : ℕ → Bool). switch f (first_root b.root x.root) true j) (fun_ext (λ i. without_is (ledger_of before).rows b.root i))))

  pub collected_reports : (ts : List (Option Exn)) → Keeps before.number (switch (reports_live before) x.root false) (λ j. j) ts → Keeps after.number (reports_live after) (λ j. j) ts
  collected_reports ts r = keeps_as before.number after.number _ (reports_live after) (λ j. j) ts r m.0.became.number (λ j. ap is_some (m.0.became.holds.reports j) ∙ some_update (ledger_of before).reports x.root None j)
