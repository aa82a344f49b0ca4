-- What the frames hold of rows is what the ledger says of them, which knows no numbers of the reports in a row.
use Rattle.std.proofs.Common.{◌≡◌, ℕ, ◌+◌, ◌-◌, ◌<◌, true, false, Bool, cond, eqb, List, [], ◌∷◌, ◌++◌, is_some, IsNone, Some, None, Option, sym, refl, ap, ap₂, ◌∙◌, ⊎_elim, true≢false, eq-eqb, subst, Ok, Err, nat_lt, lt-ltb, arith}
use Rattle.std.proofs.lemmas.Map.{update_here, update_apart}
use Rattle.std.proofs.lemmas.Bool.{cases_eq}
use Rattle.std.specs.Map.{update}
use Rattle.trees.specs.Counting as counting
use Rattle.trees.specs.Counting.{in_report, total}
use Rattle.trees.specs.Listings as listings
use mathlib.Core.Path.{fun_ext}
use Rattle.layout.specs.Calls.{BeginAnswer, Drained, Fresh, taken, with_last}
use Rattle.layout.specs.Reports.{Means}
use Rattle.layout.specs.declared.frame.Frame.{Frame}
use Rattle.layout.proofs.Appends.{Begins, begins, row_parts}
use Rattle.layout.proofs.Roots.{roots_differ}
use Rattle.trees.specs.Listings.{children_of}
use Rattle.trees.specs.Roots.{Differ, RootsDiffer}
use Rattle.vocabulary.specs.declared.fault.HostFault.TheVariants.{NotLive}
use Rattle.vocabulary.specs.declared.fault.StoreFault.TheVariants as fault
use Rattle.vocabulary.specs.declared.fault.StoreFault.TheVariants.{NoFrames}
use Rattle.vocabulary.specs.declared.frame_error.FrameError.TheVariants.{Host}
use Rattle.model.specs.Host.{Errors}
use Rattle.ledger.specs.Causes.{frame_cause, unless}
use Rattle.std.specs.Option.{ok_or}
use Rattle.store.specs.Calls.{FrameMade}
use Rattle.ledger.specs.Causes.{is_row}
use Rattle.trees.specs.Trees.{among, Forest, empty, tree, Tree, Listing, ◌then◌, forest, first_root, list_of, only}
use Rattle.trees.proofs.Options.{there}
use Rattle.frames.specs.Of.{frames_of, reports_of, rows_of}
use Rattle.ledger.specs.Ledger as ledger
use Rattle.ledger.specs.Ledger.{Ledger, free}
use Rattle.store.specs.Store.{ledger_of, trees_in, Became, Holds}
use Rattle.store.specs.declared.store.Store.{Store}

-- the rows of trees
abbrev pub rows_in : (ℕ → Option Listing) → ℕ → Option Forest
rows_in h j = trees_in (h j)

pub trees_update : (h : ℕ → Option Listing) (n : ℕ) (v : Option Listing) (j : ℕ) → trees_in (update eqb h n v j) ≡ update eqb (rows_in h) n (trees_in v) j
trees_update h n v j =
    ⊎_elim
    (λ e. ap (λ (k : ℕ). trees_in (update eqb h n v k)) e ∙ ap trees_in (update_here h n v) ∙ sym (ap (update eqb (rows_in h) n (trees_in v)) e ∙ update_here (rows_in h) n (trees_in v)))
    (λ d. ap trees_in (update_apart h n v j d) ∙ sym (update_apart (rows_in h) n (trees_in v) j d))
    (cases_eq j n)

pub trees_without : (h : ℕ → Option Listing) (b : Option ℕ) (j : ℕ) → trees_in (listings.without h b j) ≡ ledger.without (rows_in h) b j
trees_without h None j = refl
trees_without h (Some n) j = trees_update h n None j

pub trees_opened : (h : ℕ → Option Listing) (x : Listing) (j : ℕ) → trees_in (listings.opened h x j) ≡ ledger.opened (rows_in h) (first_root x) (forest x) j
trees_opened h [] j = refl
trees_opened h (x ∷ xs) j = trees_update h x.0 (Some (x ∷ xs)) j

forest_of : (o : Option Listing) → forest (list_of o) ≡ ledger.trees_of (trees_in o)
forest_of None = refl
forest_of (Some x) = refl

pub forest_alone : (n : ℕ) (o : Option Tree) → forest (list_of (listings.alone n o)) ≡ ledger.alone o
forest_alone n None = refl
forest_alone n (Some t) = refl

pub forest_append : (x y : Listing) → forest (x ++ y) ≡ forest x then forest y
forest_append [] y = refl
forest_append (x ∷ xs) y = ap (λ (f : Forest). only x.1 then f) (forest_append xs y)

pub under_row : (t : Option Tree) (o : Option Listing) → is_some o ≡ true → listings.under t o ≡ ledger.under t (ledger.trees_of (trees_in o))
under_row None None v = refl
under_row None (Some x) v = refl
under_row (Some t) None v = cc
under_row (Some t) (Some x) v = refl

pub under_alone : (t : Option Tree) (n : ℕ) (o : Option Tree) → is_some o ≡ true → listings.under t (listings.alone n o) ≡ ledger.under t (ledger.alone o)
under_alone None n None v = refl
under_alone None n (Some x) v = refl
under_alone (Some t) n None v = cc
under_alone (Some t) n (Some x) v = refl

row_frames : (o : Option Listing) → counting.in_row o ≡ ledger.in_row (trees_in o)
row_frames None = refl
row_frames (Some x) = refl

pub free_same : (s : Store) → free (ledger_of s) ≡ counting.unused (reports_of s.frames) (rows_of s.frames)
free_same s = ap (λ (f : ℕ → ℕ). 1024 - total 1024 f) (sym (fun_ext (λ j. ap (λ (n : ℕ). in_report (reports_of s.frames j) + n) (row_frames (rows_of s.frames j)))))

-- what frames mean, by what the ledger says
pub holds_as : (s : Store) (g : ℕ → Option Tree) (h : ℕ → Option Listing) (l : Ledger) → Means (frames_of s.frames) g h → ((j : ℕ) → g j ≡ l.reports j) → ((j : ℕ) → trees_in (h j) ≡ l.rows j) → Holds s l
holds_as s g h l m p q = record { reports = λ j. m.reports j ∙ p j; rows = λ j. ap trees_in (m.rows j) ∙ q j }

some_in : (o : Option Listing) → is_some (trees_in o) ≡ true → is_some o ≡ true
some_in None v = v
some_in (Some x) v = refl

first_in : (o : Option Listing) → listings.first_of o ≡ ledger.first_of (ledger.trees_of (trees_in o))
first_in None = refl
first_in (Some []) = refl
first_in (Some (x ∷ xs)) = refl

rest_in : (o : Option Listing) → forest (listings.rest_of o) ≡ ledger.rest_of (ledger.trees_of (trees_in o))
rest_in None = refl
rest_in (Some []) = refl
rest_in (Some (x ∷ xs)) = refl

some_is : {A : Type 0} {x y : A} → Some x ≡ Some y → x ≡ y
some_is e = cc

none_is : {A : Type 0} (o : Option A) → (is_some o ≡ true → ⊥) → o ≡ None
none_is None n = refl
none_is (Some x) n = absurd (n refl)

among_first : (n : ℕ) (x : ℕ × Tree) (xs : Listing) → x.0 ≡ n → among n (x ∷ xs) ≡ true
among_first n x xs b = ap (λ (c : Bool). cond c true (among n xs)) (eq-eqb n x.0 (sym b))

then_empty : (f : Forest) → f then empty ≡ f
then_empty empty = refl
then_empty (tree e p c r) = ap (tree e p c) (then_empty r)

under_none : (o : Option Tree) → ledger.under o empty ≡ o
under_none None = refl
under_none (Some t) = ap (λ (f : Forest). Some (record { error = t.error; place = t.place; children = f })) (then_empty t.children)

-- an update to what is there
update_back : (f : ℕ → Option Tree) (n : ℕ) (v : Option Tree) → v ≡ f n → (j : ℕ) → update eqb f n v j ≡ f j
update_back f n v e j = ⊎_elim (λ q. ap (update eqb f n v) q ∙ update_here f n v ∙ e ∙ sym (ap f q)) (update_apart f n v j) (cases_eq j n)

-- a number that is no root is known by nothing
pub fresh_as : (s : Store) (n : ℕ) → Fresh (frames_of s.frames) n → ledger.Fresh (ledger_of s) n
fresh_as s n f = record { report = f.report; row = go (rows_of s.frames n) refl (begins (frames_of s.frames) n) }
  where
    go : (o : Option Listing) → rows_of s.frames n ≡ o → Begins n o → trees_in (rows_of s.frames n) ≡ None
    go None q b = ap trees_in q
    go (Some []) q b = absurd b
    go (Some (x ∷ xs)) q b = absurd (true≢false (sym (among_first n x xs b) ∙ sym (ap (λ (o : Option Listing). among n (list_of o)) q) ∙ f.row n))

among_rest : (n : ℕ) (x : ℕ × Tree) (xs : Listing) → among n xs ≡ true → among n (x ∷ xs) ≡ true
among_rest n x xs v = go (eqb n x.0)
  where
    go : (b : Bool) → cond b true (among n xs) ≡ true
    go true = refl
    go false = v

module _ (s : Store) where
  abbrev g : ℕ → Option Tree
  g = reports_of s.frames

  abbrev h : ℕ → Option Listing
  h = rows_of s.frames

  abbrev l : Ledger
  l = ledger_of s

  known_by : (x : Listing) (o : Option ℕ) → o ≡ first_root x → ((n : ℕ) → among n x ≡ true → ledger.Fresh l n) → ledger.Known l (forest x) o
  known_by [] o e f = e
  known_by (x ∷ xs) o e f = (x.0, e, f x.0 (among_first x.0 x xs refl))

  -- a report becomes the last child of another's root
  pub chains_as : (after : Store) (x y : ℕ) → is_some (g y) ≡ true → Means (frames_of after.frames) (update eqb (update eqb g y None) x (listings.under (g x) (listings.alone y (g y)))) h
      → Holds after (ledger.chained l x y)
  chains_as after x y v m = holds_as after _ _ _ m (λ j. ap (λ (t : Option Tree). update eqb (update eqb g y None) x t j) (under_alone (g x) y (g y) v)) (λ j. refl)

  -- no reports change nothing
  pub chains_none : (x : ℕ) (b : Option ℕ) → b ≡ None → Became s s (ledger.chained_all l x b)
  chains_none x None e = record { number = refl; holds = record { reports = λ j. sym (update_back g x (ledger.under (g x) empty) (under_none (g x)) j); rows = λ j. refl } }
  chains_none x (Some k) e = cc

  -- the reports of a row do
  pub chains_row_as : (after : Store) (x b : ℕ) → is_some (h b) ≡ true → Means (frames_of after.frames) (update eqb g x (listings.under (g x) (h b))) (update eqb h b None)
      → Holds after (ledger.chained_all l x (Some b))
  chains_row_as after x b v m = holds_as after _ _ _ m (λ j. ap (λ (t : Option Tree). update eqb g x t j) (under_row (g x) (h b) v)) (trees_update h b None)

  -- a row is gone
  pub discards_row_as : (after : Store) (b : ℕ) → Means (frames_of after.frames) g (update eqb h b None) → Holds after (ledger.discarded_all l (Some b))
  discards_row_as after b m = holds_as after _ _ _ m (λ j. refl) (trees_update h b None)

  -- one row more
  opens_as : (after : Store) (h' : ℕ → Option Listing) (rows : ℕ → Option Forest) (x : Listing) (o : Option ℕ) (f : Forest) → ((j : ℕ) → trees_in (h' j) ≡ rows j) → first_root x ≡ o → forest x ≡ f
      → (j : ℕ) → trees_in (listings.opened h' x j) ≡ ledger.opened rows o f j
  opens_as after h' rows x o f p q r j =
      trees_opened h' x j ∙ ap (λ (k : ℕ → Option Forest). ledger.opened k (first_root x) (forest x) j) (fun_ext p) ∙ ap₂ (λ (n : Option ℕ) (t : Forest). ledger.opened rows n t j) q r

  -- a basket's row is there
  pub basket_row : (b : Option ℕ) (k : ℕ) → is_row l b ≡ true → b ≡ Some k → is_some (h k) ≡ true
  basket_row b k v e = some_in (h k) (sym (ap (is_row l) e) ∙ v)

  -- a report at the end of a row
  module _ (b : Option ℕ) (y : ℕ) (begun : is_row l b ≡ true) (live : is_some (g y) ≡ true) where
    longer_first : first_root (with_last (frames_of s.frames) b y) ≡ Some (ledger.first_root b y)
    longer_first = go b begun
      where
        go : (b : Option ℕ) → is_row l b ≡ true → first_root (with_last (frames_of s.frames) b y) ≡ Some (ledger.first_root b y)
        go None v = let t = there (g y) live in ap (λ (o : Option Tree). first_root (list_of (listings.alone y o))) t.1
        go (Some k) v =
            let row = row_parts (frames_of s.frames) k (some_in (h k) v) in
            ap (λ (o : Option Listing). first_root (list_of o ++ list_of (listings.alone y (g y)))) row.2 ∙ ap Some row.3

    longer_forest : forest (with_last (frames_of s.frames) b y) ≡ ledger.row_of l b then ledger.alone (g y)
    longer_forest = forest_append (taken (frames_of s.frames) b) (list_of (listings.alone y (g y))) ∙ ap₂ (λ (x z : Forest). x then z) (go b) (forest_alone y (g y))
      where
        go : (b : Option ℕ) → forest (taken (frames_of s.frames) b) ≡ ledger.row_of l b
        go None = refl
        go (Some k) = forest_of (h k)

    pub collects_as : (after : Store) → after.number ≡ s.number → Means (frames_of after.frames) (update eqb g y None) (listings.opened (listings.without h b) (with_last (frames_of s.frames) b y))
        → Became s after (ledger.collected l b y)
    collects_as after same m = record { number = same; holds = holds_as after _ _ _ m (λ j. refl) (opens_as after _ _ _ _ _ (trees_without h b) longer_first longer_forest) }

    pub collects_first : (n : ℕ) → Some n ≡ first_root (with_last (frames_of s.frames) b y) → n ≡ ledger.first_root b y
    collects_first n e = some_is (e ∙ longer_first)

  -- the first report of a row stands alone again
  module _ (b : ℕ) (begun : is_row l (Some b) ≡ true) where
    abbrev row : (x : ℕ × Tree) × (xs : Listing) × (h b ≡ Some (x ∷ xs)) × (x.0 ≡ b)
    row = row_parts (frames_of s.frames) b (some_in (h b) begun)

    abbrev roots : RootsDiffer g h
    roots = roots_differ s.frames.sound

    pub takes_as : (after : Store) (next : Option ℕ) → next ≡ first_root (listings.rest_of (h b))
        → Means (frames_of after.frames) (update eqb g b (listings.first_of (h b))) (listings.opened (update eqb h b None) (listings.rest_of (h b))) → Holds after (ledger.taken l b next)
    takes_as after next e m =
        holds_as after _ _ _ m (λ j. ap (λ (t : Option Tree). update eqb g b t j) (first_in (h b))) (opens_as after _ _ _ _ _ (trees_update h b None) (sym e) (rest_in (h b)))

    pub takes_tree : is_some (ledger.first_of (ledger.row_of l (Some b))) ≡ true
    takes_tree = ap (λ (o : Option Listing). is_some (ledger.first_of (ledger.trees_of (trees_in o)))) row.2

    pub takes_alone : g b ≡ None
    takes_alone = none_is (g b) (λ v. true≢false (sym (among_first b row.0 row.1 row.3) ∙ sym (ap (λ (o : Option Listing). among b (list_of o)) row.2) ∙ roots.alone b b v))

    pub takes_known : (next : Option ℕ) → next ≡ first_root (listings.rest_of (h b)) → ledger.Known l (ledger.rest_of (ledger.row_of l (Some b))) next
    takes_known next e = subst (λ (f : Forest). ledger.Known l f next) (rest_in (h b)) (known_by (listings.rest_of (h b)) next e rest_fresh)
      where
        rest_fresh : (n : ℕ) → among n (listings.rest_of (h b)) ≡ true → ledger.Fresh l n
        rest_fresh n v =
            let here : among n row.1 ≡ true = sym (ap (λ (o : Option Listing). among n (listings.rest_of o)) row.2) ∙ v in
            let inside : among n (list_of (h b)) ≡ true = ap (λ (o : Option Listing). among n (list_of o)) row.2 ∙ among_rest n row.0 row.1 here in
            let differs : among row.0.0 row.1 ≡ false = (subst (λ (o : Option Listing). Differ (list_of o)) row.2 (roots.within b)).0 in
            record {
              report = none_is (g n) (λ u. true≢false (sym inside ∙ roots.alone n b u));
              row = ap trees_in (none_is (h n) (λ u.
                  let first = row_parts (frames_of s.frames) n u in
                  let at = roots.rows n b n inside (ap (λ (o : Option Listing). among n (list_of o)) first.2 ∙ among_first n first.0 first.1 first.3) in
                  true≢false (sym here ∙ ap (λ (k : ℕ). among k row.1) (sym at ∙ sym row.3) ∙ differs)));
            }

  -- the children of a report's root become a row
  pub drains_as : (after : Store) (x : ℕ) (head : Option ℕ) → Drained (frames_of s.frames) (frames_of after.frames) x head → Holds after (ledger.drained l x head)
  drains_as after x head d = holds_as after _ _ _ d.means (λ j. refl) (opens_as after _ _ _ _ _ (λ j. refl) (sym d.first) d.children)

  pub drains_known : (after : Store) (x : ℕ) (head : Option ℕ) → Drained (frames_of s.frames) (frames_of after.frames) x head → ledger.Known l (children_of (g x)) head
  drains_known after x head d = subst (λ (f : Forest). ledger.Known l f head) d.children (known_by (taken (frames_of after.frames) head) head d.first (λ n v. fresh_as s n (d.fresh n v)))

  some_free : 0 < counting.unused g h → nat_lt 0 (free l) ≡ true
  some_free r = let q = free_same s in let lt : 0 < free l = omega arith in lt-ltb 0 (free l) lt

  -- there was a free frame, and now it is a report of one; or none is free
  pub begins_as : (after : Store) (e : Errors) (x p : ℕ) → after.number ≡ s.number → is_some (e x) ≡ true → (o : Option ℕ) → (IsNone o → after ≡ s)
      → BeginAnswer (frames_of s.frames) (frames_of after.frames) (Host x) p o → FrameMade s after e x p (ok_or o (NoFrames 1))
  begins_as after e x p same v None kept a = (live ∙ ap (λ (n : ℕ). unless (nat_lt 0 n) (NoFrames 1) None) (free_same s ∙ a.0), kept refl)
    where
      live : frame_cause l e x ≡ unless (nat_lt 0 (free l)) (NoFrames 1) None
      live = ap (λ (t : Bool). unless t (fault.Host (NotLive x)) (unless (nat_lt 0 (free l)) (NoFrames 1) None)) v
  begins_as after e x p same v (Some n) kept b = (
    ap (λ (t : Bool). unless t (fault.Host (NotLive x)) (unless (nat_lt 0 (free l)) (NoFrames 1) None)) v ∙ ap (λ (t : Bool). unless t (NoFrames 1) None) (some_free b.room),
    fresh_as s n b.fresh,
    record { number = same; holds = holds_as after _ _ _ b.means (λ j. refl) (λ j. refl) },
    b.fresh,
  )
