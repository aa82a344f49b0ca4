-- How many frames are free beside the reports of a run, and what refuses a new one.
use Rattle.std.proofs.Common.{◌≡◌, ℕ, ◌+◌, ◌-◌, ◌<◌, Bool, eqb, nat_lt, is_some, Some, None, Option, sym, refl, ap, ◌∙◌, subst, ⊎_elim, arith}
use Rattle.std.proofs.lemmas.Bool.{cases_eq}
use Rattle.std.proofs.lemmas.Bool.Decides.{nat_tests}
use Rattle.std.proofs.lemmas.Map.{update_here, update_apart}
use Rattle.std.specs.Map.{update}
use Rattle.vocabulary.specs.declared.fault.HostFault.TheVariants.{NotLive}
use Rattle.vocabulary.specs.declared.fault.StoreFault.TheVariants.{Host as Unknown, NoFrames}
use Rattle.drive_host.specs.Drive.{drive_errors}
use Rattle.trees.specs.Counting.{in_row, used}
use Rattle.trees.specs.Trees.{Forest, Listing, Tree, forest, frames}
use Rattle.trees.proofs.Counting.{used-none, used_report, used_row, used_same}
use Rattle.frames.specs.Of.{reports_of, rows_of}
use Rattle.ledger.specs.Causes as ledger
use Rattle.ledger.specs.Causes.{unless}
use Rattle.ledger.specs.Ledger.{Ledger, free, opened}
use Rattle.runs.proofs.Keeping.{report_below, row_below}
use Rattle.store.proofs.Rows.{free_same}
use Rattle.store.specs.Store.{ledger_of, trees_in}
use Rattle.store.specs.Token.{Basket}
use Rattle.store.specs.declared.store.Store.{Store}
use Rattle.script_runs.specs.Steps.{frame_cause}
use Rattle.script_runs.specs.Working.{Known, Works, none, one}

-- where a row has no trees there is none, and else it has these frames
no_row : (o : Option Listing) → trees_in o ≡ None → o ≡ None
no_row None e = refl
no_row (Some x) e = absurd cc

row_weighs : (o : Option Listing) (f : Forest) → trees_in o ≡ Some f → in_row o ≡ frames f
row_weighs None f e = absurd cc
row_weighs (Some x) f e = let same : forest x ≡ f = cc e in ap frames same

-- reports that take so many frames
abbrev pub Weigh : (ℕ → Option Tree) → ℕ → Type 0
Weigh g n = used g none ≡ n

pub none_weighs : Weigh none 0
none_weighs = used-none

pub one_weighs : (x : ℕ) (t : Tree) → x < 1024 → Weigh (one x t) (frames t.children + 1)
one_weighs x t below = let a = used_report none none x (Some t) below in let b = used-none in omega arith

module _ (s : Store) (b : Basket) (g : ℕ → Option Tree) (row : Forest) (w : Works s b g none row) where
  rows_are : (r : Option ℕ) → b.root ≡ r → (j : ℕ) → trees_in (rows_of s.frames j) ≡ opened none r row j
  rows_are r q j = ap (λ (l : Ledger). l.rows j) w.ledger ∙ ap (λ (n : Option ℕ). opened none n row j) q

  reports_are : (j : ℕ) → reports_of s.frames j ≡ g j
  reports_are j = ap (λ (l : Ledger). l.reports j) w.ledger

  used_is : (r : Option ℕ) → b.root ≡ r → used (reports_of s.frames) (rows_of s.frames) ≡ used g none + frames row
  used_is None q =
      let same = used_same (reports_of s.frames) g (rows_of s.frames) none reports_are (λ j. no_row (rows_of s.frames j) (rows_are None q j)) in
      let nothing = ap frames (subst (λ (n : Option ℕ). Known n row) q w.known) in
      omega (arith, same, nothing)
  used_is (Some n) q =
      let here : trees_in (rows_of s.frames n) ≡ Some row = rows_are (Some n) q n ∙ update_here none n (Some row) in
      let below = row_below s n (ap is_some here) in
      let same = used_same (reports_of s.frames) g (rows_of s.frames) (update eqb none n (rows_of s.frames n)) reports_are
      (λ j. ⊎_elim
      (λ p. ap (rows_of s.frames) p ∙ sym (ap (update eqb none n (rows_of s.frames n)) p ∙ update_here none n (rows_of s.frames n)))
      (λ d. no_row (rows_of s.frames j) (rows_are (Some n) q j ∙ update_apart none n (Some row) j d) ∙ sym (update_apart none n (rows_of s.frames n) j d))
      (cases_eq j n)) in
      let put = used_row g none n (rows_of s.frames n) below in
      let weight = row_weighs (rows_of s.frames n) row here in
      omega (arith, same, put, weight)

  pub free_is : (n : ℕ) → Weigh g n → free (ledger_of s) ≡ 1024 - (n + frames row)
  free_is n weight = free_same s ∙ ap (λ (m : ℕ). 1024 - m) (used_is b.root refl ∙ ap (λ (m : ℕ). m + frames row) weight)

pub root_below : (s : Store) (b : Basket) (g : ℕ → Option Tree) (o : ℕ → Option Forest) (row : Forest) (x : ℕ) (t : Tree) → Works s b g o row → g x ≡ Some t → x < 1024
root_below s b g o row x t w e = report_below s x (ap (λ (l : Ledger). is_some (l.reports x)) w.ledger ∙ ap is_some e)

room_is : (n : ℕ) → nat_lt 0 (1024 - n) ≡ nat_lt n 1024
room_is n = grind (arith, nat_tests)

-- what refuses a new frame is what refuses one beside a row with as many frames
pub cause_is : (s : Store) (b : Basket) (g : ℕ → Option Tree) (rest row : Forest) (n e : ℕ) → Works s b g none rest → Weigh g n → n + frames rest ≡ frames row → ledger.frame_cause (ledger_of s) drive_errors e ≡ frame_cause row e
cause_is s b g rest row n e w weight q =
    ap (λ (room : Bool). unless (is_some (drive_errors e)) (Unknown (NotLive e)) (unless room (NoFrames 1) None))
    (ap (nat_lt 0) (free_is s b g rest w n weight ∙ ap (λ (m : ℕ). 1024 - m) q) ∙ room_is (frames row))
