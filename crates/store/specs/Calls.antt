-- What the building calls answer and leave.
use Rattle.std.specs.Prelude.{◌≡◌, ℕ, Bool, true, false, cond, not, ◌&&◌, is_some, Some, None, Ok, Err, Option, Result, ◌==◌}
use Rattle.vocabulary.specs.declared.fault.StoreFault.{StoreFault}
use Rattle.vocabulary.specs.declared.fault.StoreFault.TheVariants.{NotHeld}
use Rattle.vocabulary.specs.declared.frame_error.FrameError.TheVariants.{Host}
use Rattle.model.specs.Host.{Errors}
use Rattle.trees.specs.Listings.{children_of}
use Rattle.trees.specs.Trees.{empty}
use Rattle.ledger.specs.Causes.{frame_cause, held, is_basket, is_held}
use Rattle.ledger.specs.Ledger.{Ledger, Fresh, Known, chained, chained_all, collected, discarded, discarded_all, drained, first_of, first_root, made, raised, raised_all, rest_of, row_of, taken}
use Rattle.store.specs.Store.{ledger_of, Became, NoRoot, is_in_row}
use Rattle.store.specs.declared.store.Store.{Store}
use Rattle.store.specs.declared.token.Refusal.{Refusal}
use Rattle.store.specs.declared.token.Token.{Token}
use Rattle.store.specs.Token.{Basket, Exn}

-- a new frame of its own is made, under a number that was no root; or nothing changes
abbrev pub FrameMade : Store → Store → Errors → ℕ → ℕ → Result ℕ StoreFault → Type 0
FrameMade before after h e p (Ok n) = (frame_cause (ledger_of before) h e ≡ None) × Fresh (ledger_of before) n × Became before after (made (ledger_of before) (Host e) p n) × NoRoot before n
FrameMade before after h e p (Err f) = (frame_cause (ledger_of before) h e ≡ Some f) × (after ≡ before)

-- A call is granted where no cause holds, and the store then holds what the ledger says.
pub record Granted (before after : Store) (cause : Option StoreFault) (l : Ledger) : Type 0 where
  pub free : cause ≡ None
  pub became : Became before after l

-- It is turned down with the first cause that holds, and the store is as it was.
pub record TurnedDown (before after : Store) (cause : Option StoreFault) (fault : StoreFault) : Type 0 where
  pub first : cause ≡ Some fault
  pub same : after ≡ before

-- an open handle of a store
pub record OpenExn (s : Store) (x : Exn) : Type 0 where
  pub store : x.store ≡ s.number
  pub unspent : x.spent ≡ false

pub record OpenBasket (s : Store) (b : Basket) : Type 0 where
  pub store : b.store ≡ s.number
  pub unspent : b.spent ≡ false

abbrev pub report_held : Store → Exn → Bool
report_held s x = is_held s.number (ledger_of s) x.store x.root

-- the same of any token, whose reports are live or not
abbrev pub token_held : {R : Type 0} → (Ledger → R → Bool) → Store → Token R → Bool
token_held is_live s t = t.store == s.number && is_live (ledger_of s) t.root

-- the root of a report of the store
abbrev pub held_root : Store → Exn → Result ℕ StoreFault
held_root s x = cond (report_held s x) (Ok x.root) (Err NotHeld)

abbrev pub basket_held : Store → Basket → Bool
basket_held s b = is_basket s.number (ledger_of s) b.store b.root

-- a new report over what the ledger says, under a number that was no root
pub record NewExn (before after : Store) (cause : Option StoreFault) (l : ℕ → Ledger) (y : Exn) : Type 0 where
  pub granted : Granted before after cause (l y.root)
  pub fresh : Fresh (ledger_of before) y.root
  pub no_root : NoRoot before y.root
  pub open_exn : OpenExn before y

abbrev pub Made : Store → Store → Errors → ℕ → ℕ → Result Exn StoreFault → Type 0
Made before after h e p (Ok y) = NewExn before after (frame_cause (ledger_of before) h e) (made (ledger_of before) (Host e) p) y
Made before after h e p (Err f) = TurnedDown before after (frame_cause (ledger_of before) h e) f

-- a call that takes what is given for a new report, or hands it back
abbrev pub TakesForNew : {X : Type 0} → Store → Store → Option StoreFault → (ℕ → Ledger) → X → Result Exn (Refusal X) → Type 0
TakesForNew before after cause l x (Ok y) = NewExn before after cause l y
TakesForNew before after cause l x (Err t) = TurnedDown before after cause t.fault × (t.given ≡ x)

abbrev pub Raised : Store → Store → Errors → Exn → ℕ → ℕ → Result Exn (Refusal Exn) → Type 0
Raised before after h x e p r = TakesForNew before after (held (report_held before x) (frame_cause (ledger_of before) h e)) (raised (ledger_of before) x.root (Host e) p) x r

abbrev pub RaisedAll : Store → Store → Errors → Basket → ℕ → ℕ → Result Exn (Refusal Basket) → Type 0
RaisedAll before after h b e p r = TakesForNew before after (held (basket_held before b) (frame_cause (ledger_of before) h e)) (raised_all (ledger_of before) b.root (Host e) p) b r

-- a call on a store that takes what is given, or hands it back
abbrev pub Takes : {A X : Type 0} → Store → Store → Option StoreFault → Ledger → X → Result A (Refusal X) → Type 0
Takes before after cause l x (Ok a) = Granted before after cause l
Takes before after cause l x (Err t) = TurnedDown before after cause t.fault × (t.given ≡ x)

abbrev pub Chained : Store → Store → Exn → Exn → Result (Unit {0}) (Refusal Exn) → Type 0
Chained before after x y r =
    Takes before after (held (report_held before x && report_held before y && not (x.root == y.root)) None) (chained (ledger_of before) x.root y.root) y r

abbrev pub ChainedAll : Store → Store → Exn → Basket → Result (Unit {0}) (Refusal Basket) → Type 0
ChainedAll before after x b r =
    Takes before after (held (report_held before x && basket_held before b) None) (chained_all (ledger_of before) x.root b.root) b r

abbrev pub Discarded : Store → Store → Exn → Result (Unit {0}) (Refusal Exn) → Type 0
Discarded before after x r = Takes before after (held (report_held before x) None) (discarded (ledger_of before) x.root) x r

abbrev pub DiscardedAll : Store → Store → Basket → Result (Unit {0}) (Refusal Basket) → Type 0
DiscardedAll before after b r = Takes before after (held (basket_held before b) None) (discarded_all (ledger_of before) b.root) b r

-- the children become the row of a new basket, all under numbers that were no roots
pub record DrainedInto (before after : Store) (x : Exn) (b : Basket) : Type 0 where
  pub granted : Granted before after (held (report_held before x) None) (drained (ledger_of before) x.root b.root)
  pub known : Known (ledger_of before) (children_of ((ledger_of before).reports x.root)) b.root
  pub no_roots : (n : ℕ) → is_in_row after b.root n ≡ true → NoRoot before n
  pub open_basket : OpenBasket before b

abbrev pub Drained : Store → Store → Exn → Result Basket StoreFault → Type 0
Drained before after x (Ok b) = DrainedInto before after x b
Drained before after x (Err f) = TurnedDown before after (held (report_held before x) None) f

-- a report goes to the end of a basket, which is then known by the first root of its row
abbrev pub Collected : Store → Store → Basket → Basket → Exn → Result (Unit {0}) (Refusal Exn) → Type 0
Collected before after b b' x r =
    Takes before after (held (basket_held before b && report_held before x) None) (collected (ledger_of before) b.root x.root) x r
    × elim r [ Ok u ↦ b' ≡ record { store = b.store; root = Some (first_root b.root x.root); spent = b.spent } | Err t ↦ b' ≡ b ]

-- the first report of a basket's row: there is one, no report was known by its root, and the others are known by the next
pub record TakenOut (before after : Store) (b b' : Basket) (y : Exn) : Type 0 where
  pub granted : Granted before after (held (basket_held before b) None) (taken (ledger_of before) y.root b'.root)
  pub first : b.root ≡ Some y.root
  pub tree : is_some (first_of (row_of (ledger_of before) b.root)) ≡ true
  pub alone : (ledger_of before).reports y.root ≡ None
  pub open_exn : OpenExn before y
  pub known : Known (ledger_of before) (rest_of (row_of (ledger_of before) b.root)) b'.root
  pub same : b' ≡ record { store = b.store; root = b'.root; spent = b.spent }

-- or none of an empty one
abbrev pub Taken : Store → Store → Basket → Basket → Result (Option Exn) StoreFault → Type 0
Taken before after b b' (Ok (Some y)) = TakenOut before after b b' y
Taken before after b b' (Ok None) = (held (basket_held before b) None ≡ None) × (row_of (ledger_of before) b.root ≡ empty) × (after ≡ before) × (b' ≡ b)
Taken before after b b' (Err f) = TurnedDown before after (held (basket_held before b) None) f × (b' ≡ b)
