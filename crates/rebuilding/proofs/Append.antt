-- A report put at the end of a row, a frame begun beside a row, and the last report taken out of one.
use Rattle.std.proofs.Common.{◌≡◌, ℕ, true, false, cond, eqb, List, [], ◌∷◌, ◌++◌, is_some, Some, None, Option, sym, refl, ap, ◌∙◌, subst, ap₂, ⊎_elim}
use Rattle.std.specs.Map.{update}
use Rattle.std.proofs.lemmas.Map.{update_here, update_apart}
use Rattle.std.proofs.lemmas.Bool.{cases_eq}
use Rattle.vocabulary.specs.declared.frame_error.FrameError.{FrameError}
use Rattle.trees.specs.Listings.{alone, first_of, opened, rest_of, without}
use Rattle.trees.specs.Trees.{Tree, leaf, Listing, among, first_root, list_of}
use Rattle.layout.specs.declared.frame.Frame.{Frame}
use Rattle.layout.specs.Reports.{Means, reports, rows}
use Rattle.layout.specs.Calls.{BeginAnswer, Begun, taken, with_last}
use Rattle.layout.proofs.Split.{opened_same}
use Rattle.rebuilding.specs.Steps.{New, WithRow, WithReport, Added, Built}
use Rattle.rebuilding.proofs.Beside.{closed, among_last, no_row, first_new, popped, row_is}

-- the report beside a row
module _ (before fs : List Frame) (head : Option ℕ) (row : Listing) (x : ℕ) (t : Tree) (w : WithReport before fs head row x t) where
  report_is : reports fs x ≡ Some t
  report_is = w.means.reports x ∙ update_here (reports before) x (Some t)

  pub report_there : is_some (reports fs x) ≡ true
  report_there = ap is_some report_is

  without_report : (j : ℕ) → update eqb (reports fs) x None j ≡ reports before j
  without_report = closed (reports before) (reports fs) x (Some t) w.root.fresh.report w.means.reports

  new_last : (n : ℕ) → among n (row ++ (x, t) ∷ []) ≡ true → New before n
  new_last n a = ⊎_elim (w.new n) (λ e. subst (New before) (sym e) w.root) (among_last n x t row a)

-- a row with a report more at its end, and the rows without it
row_taken : (before fs : List Frame) (head : Option ℕ) (row : Listing) → head ≡ first_root row → ((n : ℕ) → among n row ≡ true → New before n) → ((j : ℕ) → rows fs j ≡ opened (rows before) row j)
    → taken fs head ≡ row
row_taken before fs head [] e new m = ap (taken fs) e
row_taken before fs head (y ∷ ys) e new m = ap (taken fs) e ∙ ap list_of (row_is before y ys new fs fs m)

others : (before fs : List Frame) (head : Option ℕ) (row : Listing) → head ≡ first_root row → ((n : ℕ) → among n row ≡ true → New before n) → ((j : ℕ) → rows fs j ≡ opened (rows before) row j)
    → (j : ℕ) → without (rows fs) head j ≡ rows before j
others before fs head [] e new m j = ap (λ (o : Option ℕ). without (rows fs) o j) e ∙ m j
others before fs head (y ∷ ys) e new m j =
    ap (λ (o : Option ℕ). without (rows fs) o j) e ∙ closed (rows before) (rows fs) y.0 (Some (y ∷ ys)) (no_row before y.0 (first_new before y ys new).fresh) m j

module _ (before fs after : List Frame) (x : ℕ) (t : Tree) (head : Option ℕ) (row : Listing) (w : WithReport before fs head row x t) where
  longer : with_last fs head x ≡ row ++ (x, t) ∷ []
  longer = ap₂ (λ (xs ys : Listing). xs ++ ys) (row_taken before fs head row w.first w.new w.means.rows) (ap (λ (o : Option Tree). list_of (alone x o)) (report_is before fs head row x t w))

  pub appended : (root : ℕ) → Some root ≡ first_root (with_last fs head x)
      → Means after (update eqb (reports fs) x None) (opened (without (rows fs) head) (with_last fs head x)) → Added before after row t (Some root)
  appended root first m = record {
    root = x;
    held = record {
      first = first ∙ ap first_root longer;
      new = new_last before fs head row x t w;
      means = record {
        reports = λ j. m.reports j ∙ without_report before fs head row x t w j;
        rows = λ j. m.rows j ∙ ap (λ (xs : Listing). opened (without (rows fs) head) xs j) longer
            ∙ opened_same (without (rows fs) head) (rows before) (row ++ (x, t) ∷ []) j (others before fs head row w.first w.new w.means.rows);
      };
    };
  }

-- the row of a first root is there
pub known_row : (before fs : List Frame) (head : Option ℕ) (row : Listing) (first : ℕ) → head ≡ Some first → head ≡ first_root row → ((j : ℕ) → rows fs j ≡ opened (rows before) row j)
    → rows fs first ≡ Some row
known_row before fs head [] first e q m = absurd (let a : None ≡ Some first = sym q ∙ e in cc)
known_row before fs head (y ∷ ys) first e q m =
    let same : first ≡ y.0 = (let a : Some first ≡ Some y.0 = sym e ∙ q in cc) in
    ap (rows fs) same ∙ m y.0 ∙ update_here (rows before) y.0 (Some (y ∷ ys))

-- a begun frame is the one that was answered
pub begun_as : (fs after : List Frame) (e : FrameError) (p n : ℕ) (o : Option ℕ) → BeginAnswer fs after e p o → o ≡ Some n → Begun fs after e p n
begun_as fs after e p n o b q = subst (BeginAnswer fs after e p) q b

-- a new frame stands beside the row
module _ (before fs after : List Frame) (e : FrameError) (p n : ℕ) (b : Begun fs after e p n) where
  -- what is no root now was none before, and is none of the row
  earlier : (row : Listing) → ((k : ℕ) → among k row ≡ true → New before k) → ((j : ℕ) → rows fs j ≡ opened (rows before) row j) → (k : ℕ) → among n (list_of (rows before k)) ≡ false
  earlier [] new m k = ap (λ (o : Option Listing). among n (list_of o)) (sym (m k)) ∙ b.fresh.row k
  earlier (y ∷ ys) new m k =
      ⊎_elim
      (λ q. ap (λ (o : Option Listing). among n (list_of o)) (ap (rows before) q ∙ no_row before y.0 (first_new before y ys new).fresh))
      (λ q. ap (λ (o : Option Listing). among n (list_of o)) (sym (m k ∙ update_apart (rows before) y.0 (Some (y ∷ ys)) k q)) ∙ b.fresh.row k)
      (cases_eq k y.0)

  apart_row : (row : Listing) → ((j : ℕ) → rows fs j ≡ opened (rows before) row j) → among n row ≡ false
  apart_row [] m = refl
  apart_row (y ∷ ys) m = ap (λ (o : Option Listing). among n (list_of o)) (sym (m y.0 ∙ update_here (rows before) y.0 (Some (y ∷ ys)))) ∙ b.fresh.row y.0

  pub begun_beside : (head : Option ℕ) (row : Listing) → WithRow before fs head row → WithReport before after head row n (leaf e p)
  begun_beside head row w = record {
    first = w.first;
    new = w.new;
    root = record { below = b.below; fresh = record { report = sym (w.means.reports n) ∙ b.fresh.report; row = earlier row w.new w.means.rows } };
    apart = apart_row row w.means.rows;
    means = record {
      reports = λ j. b.means.reports j ∙ ap (λ (o : Option Tree). cond (eqb n j) (Some (leaf e p)) o) (w.means.reports j);
      rows = λ j. b.means.rows j ∙ w.means.rows j;
    };
  }

-- the last report of a row stands alone
module _ (before fs after : List Frame) (t : Tree) (x : ℕ) (w : WithRow before fs (Some x) ((x, t) ∷ [])) where
  pub taken_out : Means after (update eqb (reports fs) x (first_of (rows fs x))) (opened (update eqb (rows fs) x None) (rest_of (rows fs x))) → Built before after x t
  taken_out m =
      let new = first_new before (x, t) [] w.new in
      let out = popped before (x, t) [] w.new fs after w.means.rows m in
      record {
        below = new.below;
        fresh = new.fresh;
        means = record {
          reports = λ j. out.reports j ∙ ap (λ (o : Option Tree). cond (eqb x j) (Some t) o) (w.means.reports j);
          rows = out.rows;
        };
      }
