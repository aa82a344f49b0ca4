-- Where a run stands after each call.
use Rattle.std.proofs.Common.{◌≡◌, ◌≢◌, ℕ, true, false, eqb, is_some, Some, None, Option, Ok, Result, sym, refl, ap, ap₂, ◌∙◌, subst, ⊎_elim}
use Rattle.std.proofs.lemmas.Bool.{cases_eq}
use Rattle.std.proofs.lemmas.Map.{update_here, update_apart}
use Rattle.std.specs.Map.{update}
use mathlib.Core.Path.{fun_ext}
use Rattle.vocabulary.specs.declared.fault.StoreFault.{StoreFault}
use Rattle.vocabulary.specs.declared.frame_error.FrameError.TheVariants.{Host}
use Rattle.drive_host.specs.Drive.{drive_errors}
use Rattle.layout.proofs.Told.{report_no_row}
use Rattle.trees.specs.Listings.{bare, children_of}
use Rattle.trees.specs.Trees.{Forest, Tree, empty, tree, ◌then◌, leaf, only}
use Rattle.ledger.specs.Ledger.{Ledger, chained, collected, discarded, discarded_all, drained, first_of, first_root, made, opened, over as lifted, raised, raised_all, rest_of, taken, under, without, alone}
use Rattle.ledger.specs.Ledger.{Known as KnownBy}
use Rattle.store.specs.Calls.{Chained, Collected, Discarded, DiscardedAll, Drained, DrainedInto, Made, Raised, RaisedAll, Taken}
use Rattle.store.specs.Calls.{TakenOut as TakenCall}
use Rattle.store.specs.Store.{ledger_of, trees_in}
use Rattle.store.specs.Token.{Basket, Exn}
use Rattle.store.specs.declared.store.Store.{Store}
use Rattle.store.specs.declared.token.Refusal.{Refusal}
use Rattle.runs.proofs.Standing.{chain_stands, collect_stands, discard_all_stands, discard_stands, drain_stands, ledger_same, ledger_with, new_stands, raise_all_stands, raise_stands, take_stands}
use Rattle.script_runs.proofs.Held.{row_at, row_is}
use Rattle.script_runs.specs.Steps.{over}
use Rattle.script_runs.specs.Working.{Known, Rests, TakenFrom, TakenOut, Vacant, Works, WorksTwo, none, one, row_in}

-- ---- updates

some_is : {A : Type 0} {x y : A} → Some x ≡ Some y → x ≡ y
some_is e = cc

-- what was put and taken away again
pub back : {A : Type 0} (f : ℕ → Option A) (n : ℕ) (v : Option A) → f n ≡ None → update eqb (update eqb f n v) n None ≡ f
back f n v e = fun_ext (λ j. ⊎_elim (λ p. ap (update eqb (update eqb f n v) n None) p ∙ update_here (update eqb f n v) n None ∙ sym (ap f p ∙ e)) (λ d. update_apart (update eqb f n v) n None j d ∙ update_apart f n v j d) (cases_eq j n))

-- what was put in place of something
pub again : {A : Type 0} (f : ℕ → Option A) (n : ℕ) (v w : Option A) → update eqb (update eqb f n v) n w ≡ update eqb f n w
again f n v w = fun_ext (λ j. ⊎_elim (λ p. ap (update eqb (update eqb f n v) n w) p ∙ update_here (update eqb f n v) n w ∙ sym (ap (update eqb f n w) p ∙ update_here f n w)) (λ d. update_apart (update eqb f n v) n w j d ∙ update_apart f n v j d ∙ sym (update_apart f n w j d)) (cases_eq j n))

-- where nothing is after something was put elsewhere
pub vacant_before : {A : Type 0} (f : ℕ → Option A) (n m : ℕ) (v : A) → update eqb f n (Some v) m ≡ None → (m ≢ n) × (f m ≡ None)
vacant_before f n m v e =
    let apart : m ≡ n → ⊥ = λ p. absurd (cc (sym e ∙ ap (update eqb f n (Some v)) p ∙ update_here f n (Some v))) in
    (apart, sym (update_apart f n (Some v) m apart) ∙ e)

pub without_opened : (o : ℕ → Option Forest) (r : Option ℕ) (row : Forest) → Vacant o r → without (opened o r row) r ≡ o
without_opened o None row v = refl
without_opened o (Some n) row v = back o n (Some row) v

-- ---- the first report comes out

known_vacant : (g : ℕ → Option Tree) (o : ℕ → Option Forest) (y : ℕ) (row rest : Forest) (next : Option ℕ) → KnownBy (ledger_with g (opened o (Some y) row)) rest next → Vacant o next × Known next rest
known_vacant g o y row empty next k = subst (λ (n : Option ℕ). Vacant o n × Known n empty) (sym k) (tt, refl)
known_vacant g o y row (tree e p c r) next k = subst (λ (n : Option ℕ). Vacant o n × Known n (tree e p c r)) (sym k.1) ((vacant_before o y k.0 row k.2.row).1, tt)

taken_is : (g : ℕ → Option Tree) (o : ℕ → Option Forest) (y : ℕ) (row : Forest) (next : Option ℕ) → o y ≡ None
    → taken (ledger_with g (opened o (Some y) row)) y next ≡ ledger_with (update eqb g y (first_of row)) (opened o next (rest_of row))
taken_is g o y row next v =
    ap₂ (λ (f : Forest) (rows : ℕ → Option Forest). ledger_with (update eqb g y (first_of f)) (opened rows next (rest_of f))) (row_at g o (Some y) row tt) (without_opened o (Some y) row v)

no_first : {A : Type 0} (row : Forest) → row ≡ empty → is_some (first_of row) ≡ true → A
no_first row e q = absurd (cc (sym (ap (λ (f : Forest). is_some (first_of f)) e) ∙ q))

module _ (s s' : Store) (b b' : Basket) (g : ℕ → Option Tree) (o : ℕ → Option Forest) (row : Forest) (w : Works s b g o row) where
  named : (y : Exn) → TakenCall s s' b b' y → ledger_of s ≡ ledger_with g (opened o (Some y.root) row)
  named y d = w.ledger ∙ ap (λ (r : Option ℕ). ledger_with g (opened o r row)) d.first

  vacant_first : (y : Exn) → TakenCall s s' b b' y → o y.root ≡ None
  vacant_first y d = subst (Vacant o) d.first w.vacant

  out : (y : Exn) → TakenCall s s' b b' y → (f : Forest) → f ≡ row → TakenOut s' b' g o f y
  out y d empty q = no_first row (sym q) (ap (λ (f : Forest). is_some (first_of f)) (sym (row_is s b g o row w)) ∙ d.tree)
  out y d (tree e p c rest) q =
      let known = subst (λ (f : Forest). KnownBy (ledger_of s) (rest_of f) b'.root) (row_is s b g o row w ∙ sym q) d.known in
      let both = known_vacant g o y.root row rest b'.root (subst (λ (l : Ledger). KnownBy l rest b'.root) (named y d) known) in
      record {
        first = record { error = e; place = p; children = c };
        rest = rest;
        parts = refl;
        alone = sym (ap (λ (l : Ledger). l.reports y.root) w.ledger) ∙ d.alone;
        number = d.open_exn.store ∙ sym d.granted.became.number;
        works = record {
          number = ap (λ (z : Basket). z.store) d.same ∙ w.number ∙ sym d.granted.became.number;
          ledger =
              ledger_same s' _ d.granted.became.holds ∙ ap (λ (l : Ledger). taken l y.root b'.root) (named y d) ∙ taken_is g o y.root row b'.root (vacant_first y d)
              ∙ ap (λ (f : Forest). ledger_with (update eqb g y.root (first_of f)) (opened o b'.root (rest_of f))) (sym q);
          vacant = both.0;
          known = both.1;
          reached = take_stands drive_errors s s' b b' y w.reached d;
        };
      }

  from : (x : Option Exn) → Taken s s' b b' (Ok x) → TakenFrom s' b' g o row x
  from None t = (sym (row_is s b g o row w) ∙ t.1, subst (λ (z : Store). Works z b' g o row) (sym t.2) (subst (λ (z : Basket). Works s z g o row) (sym t.3) w))
  from (Some y) d = out y d row refl

  pub taken_from : (x : Option Exn) (r : Result (Option Exn) StoreFault) → Taken s s' b b' r → r ≡ Ok x → TakenFrom s' b' g o row x
  taken_from x r t e = from x (subst (Taken s s' b b') e t)

-- ---- a report goes to the end

collected_is : (g : ℕ → Option Tree) (o : ℕ → Option Forest) (r : Option ℕ) (row : Forest) (x : ℕ) (t : Tree) → g x ≡ Some t → Vacant o r → Known r row
    → collected (ledger_with g (opened o r row)) r x ≡ ledger_with (update eqb g x None) (opened o (Some (first_root r x)) (row then only t))
collected_is g o r row x t e v k =
    ap₂ (λ (rows : ℕ → Option Forest) (f : Forest). ledger_with (update eqb g x None) (opened rows (Some (first_root r x)) f)) (without_opened o r row v)
    (ap₂ (λ (f : Forest) (u : Option Tree). f then alone u) (row_at g o r row k) e)

module _ (s s' : Store) (b b' : Basket) (x : Exn) (g : ℕ → Option Tree) (o : ℕ → Option Forest) (row : Forest) (t : Tree) (w : Works s b g o row) (e : g x.root ≡ Some t) (m : Collected s s' b b' x (Ok tt)) where
  no_row : is_some ((ledger_of s).reports x.root) ≡ true → (ledger_of s).rows x.root ≡ None
  no_row q = ap trees_in (report_no_row s.frames.frames x.root q)

  first_vacant : (r : Option ℕ) → b.root ≡ r → Vacant o (Some (first_root r x.root))
  first_vacant None q =
      sym (ap (λ (l : Ledger). l.rows x.root) (w.ledger ∙ ap (λ (r : Option ℕ). ledger_with g (opened o r row)) q))
      ∙ no_row (ap (λ (l : Ledger). is_some (l.reports x.root)) w.ledger ∙ ap is_some e)
  first_vacant (Some h) q = subst (Vacant o) q w.vacant

  root_is : b'.root ≡ Some (first_root b.root x.root)
  root_is = ap (λ (z : Basket). z.root) m.1

  pub collected_works : Works s' b' (update eqb g x.root None) o (row then only t)
  collected_works = record {
    number = ap (λ (z : Basket). z.store) m.1 ∙ w.number ∙ sym m.0.became.number;
    ledger =
        ledger_same s' _ m.0.became.holds ∙ ap (λ (l : Ledger). collected l b.root x.root) w.ledger ∙ collected_is g o b.root row x.root t e w.vacant w.known
        ∙ ap (λ (r : Option ℕ). ledger_with (update eqb g x.root None) (opened o r (row then only t))) (sym root_is);
    vacant = subst (Vacant o) (sym root_is) (first_vacant b.root refl);
    known = subst (λ (r : Option ℕ). Known r (row then only t)) (sym root_is) tt;
    reached = collect_stands drive_errors s s' b b' x w.reached m;
  }

pub collected_if : (s s' : Store) (b b' : Basket) (x : Exn) (g : ℕ → Option Tree) (o : ℕ → Option Forest) (row : Forest) (t : Tree) (r : Result (Unit {0}) (Refusal Exn)) → Collected s s' b b' x r → r ≡ Ok tt → Works s b g o row → g x.root ≡ Some t
    → Works s' b' (update eqb g x.root None) o (row then only t)
collected_if s s' b b' x g o row t r m q w e = collected_works s s' b b' x g o row t w e (subst (Collected s s' b b' x) q m)

pub collected_number : (s s' : Store) (b b' : Basket) (x : Exn) (r : Result (Unit {0}) (Refusal Exn)) → Collected s s' b b' x r → r ≡ Ok tt → s'.number ≡ s.number
collected_number s s' b b' x r m q = let n = subst (Collected s s' b b' x) q m in n.0.became.number

-- ---- new reports

-- a report with another as the last child of its root
abbrev pub over_last : Tree → Tree → Tree
over_last t u = record { error = t.error; place = t.place; children = t.children then only u }

pub vacant_none : (r : Option ℕ) → Vacant {A = Forest} none r
vacant_none None = tt
vacant_none (Some n) = refl

module _ (s s' : Store) (b : Basket) (row : Forest) where
  pub made_works : (e p : ℕ) (y : Exn) → Rests s b row → Made s s' drive_errors e p (Ok y) → Works s' b (one y.root (over e p empty)) none row
  made_works e p y w m = record {
    number = w.number ∙ sym m.granted.became.number;
    ledger = ledger_same s' _ m.granted.became.holds ∙ ap (λ (l : Ledger). made l (Host e) p y.root) w.ledger;
    vacant = w.vacant;
    known = w.known;
    reached = new_stands drive_errors s s' e p y w.reached m;
  }

  raised_is : (x n : ℕ) (t : Tree) (e p : ℕ) → raised (ledger_with (one x t) (opened none b.root row)) x (Host e) p n ≡ ledger_with (one n (over e p (only t))) (opened none b.root row)
  raised_is x n t e p =
      ap₂ (λ (f : ℕ → Option Tree) (u : Option Tree). ledger_with (update eqb f n (lifted (Host e) p u)) (opened none b.root row)) (back none x (Some t) refl) (update_here none x (Some t))

  pub raised_works : (x : Exn) (t : Tree) (e p : ℕ) (y : Exn) → Works s b (one x.root t) none row → Raised s s' drive_errors x e p (Ok y) → Works s' b (one y.root (over e p (only t))) none row
  raised_works x t e p y w m = record {
    number = w.number ∙ sym m.granted.became.number;
    ledger = ledger_same s' _ m.granted.became.holds ∙ ap (λ (l : Ledger). raised l x.root (Host e) p y.root) w.ledger ∙ raised_is x.root y.root t e p;
    vacant = w.vacant;
    known = w.known;
    reached = raise_stands drive_errors s s' x e p y w.reached m;
  }

  raised_all_is : (n e p : ℕ) → Rests s b row → raised_all (ledger_with none (opened none b.root row)) b.root (Host e) p n ≡ ledger_with (one n (over e p row)) none
  raised_all_is n e p w =
      ap₂ (λ (rows : ℕ → Option Forest) (f : Forest). ledger_with (one n (over e p f)) rows) (without_opened none b.root row w.vacant) (row_at none none b.root row w.known)

  pub raised_all_works : (e p : ℕ) (y : Exn) (b' : Basket) → Rests s b row → RaisedAll s s' drive_errors b e p (Ok y) → b' ≡ record { store = s'.number; root = None; spent = false } → Works s' b' (one y.root (over e p row)) none empty
  raised_all_works e p y b' w m q = subst (λ (c : Basket). Works s' c (one y.root (over e p row)) none empty) (sym q) (record {
    number = refl;
    ledger = ledger_same s' _ m.granted.became.holds ∙ ap (λ (l : Ledger). raised_all l b.root (Host e) p y.root) w.ledger ∙ raised_all_is y.root e p w;
    vacant = tt;
    known = refl;
    reached = raise_all_stands drive_errors s s' b e p y w.reached m;
  })

  -- ---- a second report under the first

  chained_is : (x y : ℕ) (t u : Tree) → one x t y ≡ None → chained (ledger_with (update eqb (one x t) y (Some u)) (opened none b.root row)) x y ≡ ledger_with (one x (over_last t u)) (opened none b.root row)
  chained_is x y t u e =
      let apart = (vacant_before none x y t e).0 in
      ap₂ (λ (f : ℕ → Option Tree) (a : Option Tree). ledger_with (update eqb f x (under a (alone (update eqb (one x t) y (Some u) y)))) (opened none b.root row)) (back (one x t) y (Some u) e)
      (update_apart (one x t) y (Some u) x (λ q. apart (sym q)) ∙ update_here none x (Some t))
      ∙ ap (λ (a : Option Tree). ledger_with (update eqb (one x t) x (under (Some t) (alone a))) (opened none b.root row)) (update_here (one x t) y (Some u))
      ∙ ap (λ (f : ℕ → Option Tree). ledger_with f (opened none b.root row)) (again none x (Some t) (Some (over_last t u)))

  pub chained_works : (x y : Exn) (t u : Tree) → one x.root t y.root ≡ None → Works s b (update eqb (one x.root t) y.root (Some u)) none row → Chained s s' x y (Ok tt) → Works s' b (one x.root (over_last t u)) none row
  chained_works x y t u e w m = record {
    number = w.number ∙ sym m.became.number;
    ledger = ledger_same s' _ m.became.holds ∙ ap (λ (l : Ledger). chained l x.root y.root) w.ledger ∙ chained_is x.root y.root t u e;
    vacant = w.vacant;
    known = w.known;
    reached = chain_stands drive_errors s s' x y w.reached m;
  }

  -- ---- a report is discarded

  pub discarded_works : (x : Exn) (t : Tree) → Works s b (one x.root t) none row → Discarded s s' x (Ok tt) → Rests s' b row
  discarded_works x t w m = record {
    number = w.number ∙ sym m.became.number;
    ledger = ledger_same s' _ m.became.holds ∙ ap (λ (l : Ledger). discarded l x.root) w.ledger ∙ ap (λ (f : ℕ → Option Tree). ledger_with f (opened none b.root row)) (back none x.root (Some t) refl);
    vacant = w.vacant;
    known = w.known;
    reached = discard_stands drive_errors s s' x w.reached m;
  }

-- ---- two baskets

pub swap : (f h : Forest) (a b : Option ℕ) → Vacant (opened none a f) b → (opened (opened none a f) b h ≡ opened (opened none b h) a f) × Vacant (opened none b h) a
swap f h None b v = (refl, tt)
swap f h (Some n) None v = (refl, refl)
swap f h (Some n) (Some m) v =
    let apart : m ≢ n = (vacant_before none n m f v).0 in
    let apart' : n ≢ m = λ q. apart (sym q) in (
      fun_ext (λ j. ⊎_elim
          (λ p. ap (update eqb (update eqb none n (Some f)) m (Some h)) p ∙ update_apart (update eqb none n (Some f)) m (Some h) n apart' ∙ update_here none n (Some f)
          ∙ sym (ap (update eqb (update eqb none m (Some h)) n (Some f)) p ∙ update_here (update eqb none m (Some h)) n (Some f)))
          (λ d. ⊎_elim
          (λ p. ap (update eqb (update eqb none n (Some f)) m (Some h)) p ∙ update_here (update eqb none n (Some f)) m (Some h)
          ∙ sym (ap (update eqb (update eqb none m (Some h)) n (Some f)) p ∙ update_apart (update eqb none m (Some h)) n (Some f) m apart ∙ update_here none m (Some h)))
          (λ k. update_apart (update eqb none n (Some f)) m (Some h) j k ∙ update_apart none n (Some f) j d ∙ sym (update_apart (update eqb none m (Some h)) n (Some f) j d ∙ update_apart none m (Some h) j k))
          (cases_eq j m))
          (cases_eq j n)),
      update_apart none m (Some h) n apart',
    )

-- where one basket's row is known, so is that of the other
pub other_works : (s : Store) (b c : Basket) (g : ℕ → Option Tree) (row more : Forest) → Works s c g (opened none b.root row) more → b.store ≡ s.number → Known b.root row → Works s b g (opened none c.root more) row
other_works s b c g row more w q k =
    let both = swap row more b.root c.root w.vacant in
    record { number = q; ledger = w.ledger ∙ ap (ledger_with g) both.0; vacant = both.1; known = k; reached = w.reached }

drained_is : (g : ℕ → Option Forest) (x : ℕ) (t : Tree) (head : Option ℕ) → drained (ledger_with (one x t) g) x head ≡ ledger_with (one x (leaf t.error t.place)) (opened g head t.children)
drained_is g x t head =
    ap (λ (u : Option Tree). ledger_with (update eqb (one x t) x (bare u)) (opened g head (children_of u))) (update_here none x (Some t))
    ∙ ap (λ (f : ℕ → Option Tree). ledger_with f (opened g head t.children)) (again none x (Some t) (Some (leaf t.error t.place)))

children_known : (l : Ledger) (children : Forest) (n : Option ℕ) → KnownBy l children n → Vacant l.rows n × Known n children
children_known l empty n k = subst (λ (n : Option ℕ). Vacant l.rows n × Known n empty) (sym k) (tt, refl)
children_known l (tree e p c r) n k = subst (λ (n : Option ℕ). Vacant l.rows n × Known n (tree e p c r)) (sym k.1) (k.2.row, tt)

pub drained_works : (s s' : Store) (b c : Basket) (x : Exn) (t : Tree) (row : Forest) → Works s b (one x.root t) none row → DrainedInto s s' x c → WorksTwo s' b c (one x.root (leaf t.error t.place)) row t.children
drained_works s s' b c x t row w d =
    let tree_is : children_of ((ledger_of s).reports x.root) ≡ t.children = ap (λ (l : Ledger). children_of (l.reports x.root)) w.ledger ∙ ap children_of (update_here none x.root (Some t)) in
    let known = children_known (ledger_of s) t.children c.root (subst (λ (f : Forest). KnownBy (ledger_of s) f c.root) tree_is d.known) in
    let second : Works s' c (one x.root (leaf t.error t.place)) (opened none b.root row) t.children =
    record {
      number = d.open_basket.store ∙ sym d.granted.became.number;
      ledger = ledger_same s' _ d.granted.became.holds ∙ ap (λ (l : Ledger). drained l x.root c.root) w.ledger ∙ drained_is (opened none b.root row) x.root t c.root;
      vacant = subst (λ (l : Ledger). Vacant l.rows c.root) w.ledger known.0;
      known = known.1;
      reached = drain_stands drive_errors s s' x c w.reached d;
    } in
    record { first = other_works s' b c _ row t.children second (w.number ∙ sym d.granted.became.number) w.known; second = second }

-- the second basket is discarded
pub ended_works : (s s' : Store) (b c : Basket) (g : ℕ → Option Tree) (row more : Forest) → WorksTwo s b c g row more → DiscardedAll s s' c (Ok tt) → Works s' b g none row
ended_works s s' b c g row more w m = record {
  number = w.first.number ∙ sym m.became.number;
  ledger = ledger_same s' _ m.became.holds ∙ ap (λ (l : Ledger). discarded_all l c.root) w.second.ledger ∙ ap (ledger_with g) (without_opened (opened none b.root row) c.root more w.second.vacant);
  vacant = vacant_none b.root;
  known = w.first.known;
  reached = discard_all_stands drive_errors s s' c w.second.reached m;
}

pub taken_number : (s s' : Store) (b b' : Basket) (x : Option Exn) (r : Result (Option Exn) StoreFault) → Taken s s' b b' r → r ≡ Ok x → s'.number ≡ s.number
taken_number s s' b b' None r t q = let n = subst (Taken s s' b b') q t in ap (λ (z : Store). z.number) n.2
taken_number s s' b b' (Some y) r t q = let n = subst (Taken s s' b b') q t in n.granted.became.number

pub chained_number : (s s' : Store) (x y : Exn) (r : Result (Unit {0}) (Refusal Exn)) → Chained s s' x y r → r ≡ Ok tt → s'.number ≡ s.number
chained_number s s' x y r m q = let n = subst (Chained s s' x y) q m in n.became.number

-- a report moves from the second basket to the first
module _ (s1 s2 : Store) (b b' c : Basket) (x : Exn) (g : ℕ → Option Tree) (row more : Forest) (t : TakenOut s1 c g (opened none b.root row) more x) (number : b.store ≡ s1.number) (known : Known b.root row) (put : (o : ℕ → Option Forest) (row : Forest) → Works s1 b (update eqb g x.root (Some t.first)) o row → Works s2 b' (update eqb (update eqb g x.root (Some t.first)) x.root None) o (row then only t.first)) (same : s2.number ≡ s1.number) where
  before_put : Works s1 b (update eqb g x.root (Some t.first)) (opened none c.root t.rest) row
  before_put = other_works s1 b c (update eqb g x.root (Some t.first)) row t.rest t.works number known

  after_put : Works s2 b' g (opened none c.root t.rest) (row then only t.first)
  after_put = subst (λ (f : ℕ → Option Tree). Works s2 b' f (opened none c.root t.rest) (row then only t.first)) (back g x.root (Some t.first) t.alone) (put (opened none c.root t.rest) row before_put)

  pub moved_works : WorksTwo s2 b' c g (row then only t.first) t.rest
  moved_works = record {
    first = after_put;
    second = other_works s2 c b' g t.rest (row then only t.first) after_put (t.works.number ∙ sym same) t.works.known;
  }

-- the same in the terms of the store
pub two_named : (s : Store) (b c : Basket) (g : ℕ → Option Tree) (row more : Forest) → WorksTwo s b c g row more → WorksTwo s b c (ledger_of s).reports (row_in s b) (row_in s c)
two_named s b c g row more w =
    subst (λ (f : ℕ → Option Tree). WorksTwo s b c f (row_in s b) (row_in s c)) (sym (ap (λ (l : Ledger). l.reports) w.first.ledger))
    (subst (λ (f : Forest). WorksTwo s b c g f (row_in s c)) (sym (row_is s b g (opened none c.root more) row w.first))
    (subst (WorksTwo s b c g row) (sym (row_is s c g (opened none b.root row) more w.second)) w))

pub two_moved : (s s' : Store) (b b' c : Basket) (g : ℕ → Option Tree) (row more : Forest) → WorksTwo s b c g row more → Works s' b' (ledger_of s).reports none (row_in s b then row_in s c) → Works s' b' g none (row then more)
two_moved s s' b b' c g row more w v =
    subst (λ (f : ℕ → Option Tree). Works s' b' f none (row then more)) (ap (λ (l : Ledger). l.reports) w.first.ledger)
    (subst (Works s' b' (ledger_of s).reports none) (ap₂ (λ (f h : Forest). f then h) (row_is s b g (opened none c.root more) row w.first) (row_is s c g (opened none b.root row) more w.second)) v)

pub drained_into : (s s' : Store) (x : Exn) (b : Basket) (r : Result Basket StoreFault) → Drained s s' x r → r ≡ Ok b → DrainedInto s s' x b
drained_into s s' x b r m q = subst (Drained s s' x) q m
