-- What the calls of a line lead to.
use Rattle.std.proofs.Common.{◌≡◌, ℕ, ◌+◌, Bool, true, eqb, Some, None, Option, Ok, Err, Result, sym, refl, ap, ◌∙◌, subst, zero-add}
use Rattle.std.proofs.lemmas.Map.{update_here}
use Rattle.std.specs.Map.{update}
use Rattle.vocabulary.specs.declared.fault.StoreFault.{StoreFault}
use Rattle.drive_host.specs.Drive.{drive_errors}
use Rattle.rebuilding.proofs.Adopt.{then_assoc}
use Rattle.trees.specs.Trees.{Forest, Tree, empty, ◌then◌, frames, leaf, only}
use Rattle.ledger.specs.Causes as ledger
use Rattle.ledger.specs.Causes.{held}
use Rattle.store.specs.Calls.{basket_held, report_held}
use Rattle.store.specs.Store.{ledger_of}
use Rattle.store.specs.Token.{Basket, Exn}
use Rattle.store.specs.declared.store.Store.{Store}
use Rattle.script_lines.specs.declared.line.Line.TheVariants.{Raise, Chain, Drain, Drop}
use Rattle.script_runs.proofs.Frames.{cause_is, none_weighs, one_weighs, root_below}
use Rattle.script_runs.proofs.Works.{back, over_last}
use Rattle.script_runs.specs.Steps.{frame_cause, over, step, unless_caused}
use Rattle.script_runs.specs.Working.{Out, Rests, TakenFrom, TakenOut, Works, none, one}
use Rattle.script_runs.specs.declared.fault.LineFault.{LineFault}
use Rattle.script_runs.specs.declared.fault.LineFault.TheVariants.{TooFew, Store as Unmade}

-- the report is in the basket
pub rests : (s : Store) (b : Basket) (x : ℕ) (t : Tree) (row : Forest) → Works s b (update eqb (one x t) x None) none row → Rests s b row
rests s b x t row w = subst (λ (g : ℕ → Option Tree). Works s b g none row) (back none x (Some t) refl) w

-- of what is held only the other cause is left
other_cause : (b : Bool) (o c : Option StoreFault) → b ≡ true → held b o ≡ c → o ≡ c
other_cause b o c p q = sym (ap (λ (v : Bool). held v o) p) ∙ q

granted : (row next : Forest) (e : ℕ) → frame_cause row e ≡ None → unless_caused (frame_cause row e) next ≡ Ok next
granted row next e q = ap (λ (o : Option StoreFault). unless_caused o next) q

caused : (row next : Forest) (e : ℕ) (f : StoreFault) → frame_cause row e ≡ Some f → unless_caused (frame_cause row e) next ≡ Err (Unmade f)
caused row next e f q = ap (λ (o : Option StoreFault). unless_caused o next) q

-- ---- a new frame beside the basket's row

module _ (s : Store) (b : Basket) (row : Forest) (e : ℕ) (w : Rests s b row) where
  cause_new : ledger.frame_cause (ledger_of s) drive_errors e ≡ frame_cause row e
  cause_new = cause_is s b none row row 0 e w none_weighs (zero-add (frames row))

  pub new_granted : (next : Forest) → ledger.frame_cause (ledger_of s) drive_errors e ≡ None → unless_caused (frame_cause row e) next ≡ Ok next
  new_granted next q = granted row next e (sym cause_new ∙ q)

  pub new_refused : (next : Forest) (f : StoreFault) → ledger.frame_cause (ledger_of s) drive_errors e ≡ Some f → unless_caused (frame_cause row e) next ≡ Err (Unmade f)
  new_refused next f q = caused row next e f (sym cause_new ∙ q)

  pub all_granted : (next : Forest) → basket_held s b ≡ true → held (basket_held s b) (ledger.frame_cause (ledger_of s) drive_errors e) ≡ None → unless_caused (frame_cause row e) next ≡ Ok next
  all_granted next h q = new_granted next (other_cause (basket_held s b) _ None h q)

  pub all_refused : (next : Forest) (f : StoreFault) → basket_held s b ≡ true → held (basket_held s b) (ledger.frame_cause (ledger_of s) drive_errors e) ≡ Some f → unless_caused (frame_cause row e) next ≡ Err (Unmade f)
  all_refused next f h q = new_refused next f (other_cause (basket_held s b) _ (Some f) h q)

-- ---- the first report is out

pub first_out : (s : Store) (b : Basket) (g : ℕ → Option Tree) (others : ℕ → Option Forest) (row : Forest) (o : Option Exn) (x : Exn) → TakenFrom s b g others row o → o ≡ Some x → TakenOut s b g others row x
first_out s b g others row o x t q = subst (TakenFrom s b g others row) q t

pub none_out : (s : Store) (b : Basket) (g : ℕ → Option Tree) (others : ℕ → Option Forest) (row : Forest) (o : Option Exn) → TakenFrom s b g others row o → o ≡ None → (row ≡ empty) × Works s b g others row
none_out s b g others row o t q = subst (TakenFrom s b g others row) q t

module _ (s : Store) (b : Basket) (row : Forest) (x : Exn) (t : TakenOut s b none none row x) where
  pub is_there : one x.root t.first x.root ≡ Some t.first
  is_there = update_here none x.root (Some t.first)

  pub out_of : Out s b x
  out_of = record { report = t.first; row = t.rest; works = t.works; number = t.number }

  cause_raise : (e : ℕ) → ledger.frame_cause (ledger_of s) drive_errors e ≡ frame_cause row e
  cause_raise e =
      cause_is s b (one x.root t.first) t.rest row (frames t.first.children + 1) e t.works
      (one_weighs x.root t.first (root_below s b (one x.root t.first) none t.rest x.root t.first t.works is_there)) (sym (ap frames t.parts))

  pub raise_granted : (place e : ℕ) → report_held s x ≡ true → held (report_held s x) (ledger.frame_cause (ledger_of s) drive_errors e) ≡ None → step place (Raise e) row ≡ Ok (t.rest then only (over e place (only t.first)))
  raise_granted place e h q =
      ap (step place (Raise e)) t.parts ∙ granted (only t.first then t.rest) _ e (ap (λ (f : Forest). frame_cause f e) (sym t.parts) ∙ sym (cause_raise e) ∙ other_cause (report_held s x) _ None h q)

  pub raise_refused : (place e : ℕ) (f : StoreFault) → report_held s x ≡ true → held (report_held s x) (ledger.frame_cause (ledger_of s) drive_errors e) ≡ Some f → step place (Raise e) row ≡ Err (Unmade f)
  raise_refused place e f h q =
      ap (step place (Raise e)) t.parts ∙ caused (only t.first then t.rest) _ e f (ap (λ (f : Forest). frame_cause f e) (sym t.parts) ∙ sym (cause_raise e) ∙ other_cause (report_held s x) _ (Some f) h q)

  -- a report that came back, from a store that stayed
  pub out_back : (s' : Store) (y : Exn) → s' ≡ s → y ≡ x → Out s' b y
  out_back s' y p q = subst (λ (z : Store). Out z b y) (sym p) (subst (Out s b) (sym q) out_of)

-- ---- too few reports

pub none_raise : (place e : ℕ) (row : Forest) → row ≡ empty → step place (Raise e) row ≡ Err TooFew
none_raise place e row q = ap (step place (Raise e)) q

pub none_chain : (place : ℕ) (row : Forest) → row ≡ empty → step place Chain row ≡ Err TooFew
none_chain place row q = ap (step place Chain) q

pub none_drain : (place : ℕ) (row : Forest) → row ≡ empty → step place Drain row ≡ Err TooFew
none_drain place row q = ap (step place Drain) q

pub none_drop : (place : ℕ) (row : Forest) → row ≡ empty → step place Drop row ≡ Err TooFew
none_drop place row q = ap (step place Drop) q

pub one_chain : (place : ℕ) (row : Forest) (t : Tree) (rest : Forest) → row ≡ only t then rest → rest ≡ empty → step place Chain row ≡ Err TooFew
one_chain place row t rest p q = ap (step place Chain) (p ∙ ap (λ (f : Forest). only t then f) q)

pub two_chain : (place : ℕ) (row : Forest) (t u : Tree) (rest more : Forest) → row ≡ only t then rest → rest ≡ only u then more → step place Chain row ≡ Ok (more then only (over_last t u))
two_chain place row t u rest more p q = ap (step place Chain) (p ∙ ap (λ (f : Forest). only t then f) q)

pub first_drain : (place : ℕ) (row : Forest) (t : Tree) (rest : Forest) → row ≡ only t then rest → step place Drain row ≡ Ok ((rest then t.children) then only (leaf t.error t.place))
first_drain place row t rest p = ap (step place Drain) p ∙ ap ok (sym (then_assoc rest t.children (only (leaf t.error t.place))))
  where
    ok : Forest → Result Forest LineFault
    ok f = Ok f
