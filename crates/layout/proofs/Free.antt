-- The frames of a row become free, and a free frame becomes a report.
use Rattle.std.proofs.lemmas.Bool.Decides.{nat_tests}
use Rattle.std.specs.Option.{option_or}
use Rattle.std.proofs.Common.{◌≡◌, ℕ, ◌+◌, ◌-◌, ◌<◌, ◌≤◌, eqb, List, ◌∷◌, length, get_or, set, Some, None, Option, sym, refl, ap, ◌∙◌, subst, subst₂, arith}
use Rattle.std.specs.Map.{update}
use Rattle.std.proofs.lemmas.List.{length-set, get_or-set_same}
use Rattle.vocabulary.specs.declared.frame_error.FrameError.{FrameError}
use Rattle.trees.specs.Trees.{Listing, among, list_of}
use Rattle.trees.specs.Numbered.{Numbered, none, node, ◌beside◌, size, head_of, last_from, last_of}
use Rattle.trees.proofs.Numbered.{one_same, tally_beside, size_beside, head_beside, last_in}
use Rattle.layout.specs.declared.frame.Role.{Role}
use Rattle.layout.specs.declared.frame.Role.TheVariants.{Linked, Report, Row}
use Rattle.layout.specs.declared.frame.Frame.{Frame}
use Rattle.layout.specs.Layout.{blank, frame_of, Held, Block, report, row, tallies, Laid, row_at, with_role, with_next, changed, Within, last_root, row_size}
use Rattle.layout.specs.Reports.{reports, rows, Means}
use Rattle.layout.proofs.Held.{held_set, stand_set, stand_changed, held_role, length-changed, join, joins, off_last, last_below, within_last}
use Rattle.layout.proofs.Told.{told, absent}
use Rattle.layout.proofs.Means.{gone_key, added_key, first_below, first_once}
use Rattle.layout.specs.Calls.{Begun}
use Rattle.layout.proofs.Split.{not_among}
use Rattle.layout.proofs.Count.{count_is}

abbrev pub freed_frames : List Frame → ℕ → Option ℕ → List Frame
freed_frames fs x head = changed (set fs x (with_role Linked (get_or fs x blank))) (last_root (get_or fs x blank).role) (with_next head)

pub freed_from : (fs gs ms : List Frame) (x : ℕ) (last head : Option ℕ) → gs ≡ set fs x (with_role Linked (get_or fs x blank)) → ms ≡ changed gs last (with_next head)
    → last ≡ last_root (get_or fs x blank).role → ms ≡ freed_frames fs x head
freed_from fs gs ms x last head a b c = rw (b, a, c)

module _ {fs : List Frame} {head : Option ℕ} {count x : ℕ} {e : FrameError} {p : ℕ} {k r : Numbered} {rest : List Block} {free : Numbered}
    (l : Laid fs head count (row x e p k r ∷ rest) free) where
  role_is : (get_or fs x blank).role ≡ Row (last_from x r) (size (node x e p k r))
  role_is = ap (λ (f : Frame). f.role) l.stand.0.1

  freed_layout : Laid (changed (set fs x (with_role Linked (get_or fs x blank))) (Some (last_from x r)) (with_next (head_of free))) (Some x) (count + size (node x e p k r)) rest (node x e p k (r beside free))
  freed_layout =
      let fs1 = set fs x (with_role Linked (get_or fs x blank)) in
      let z = last_from x r in
      let o = l.once in
      let x0 = first_below l x refl in
      let ox = o x x0 in
      let sx = one_same x x refl in
      let lng = l.long in
      let long1 : length fs1 ≡ 1024 = length-set fs x _ ∙ l.long in
      let row1 : Held fs1 Linked (node x e p k r) = held_role fs _ Linked x e p k r l.stand.0 (omega arith) in
      let free1 : Held fs1 Linked free = held_set fs Linked free x _ l.spare (omega arith) in
      let oz = o z (let a = last_below fs1 Linked x e p k r row1 in omega arith) in
      let lz = last_in x e p k r in
      record {
        stand = stand_set fs1 rest z _ (stand_set fs rest x _ l.stand.1 (omega arith)) (omega arith);
        spare = join fs1 Linked x e p k r free row1 free1 (λ n lt. let a = o n (omega arith) in omega arith);
        begins = refl;
        once = λ n lt. let a = o n lt in let b = tally_beside n r free in omega arith;
        left = let a = l.left in let b = size_beside r free in omega arith;
        all = let a = l.all in let b = size_beside r free in omega arith;
        long = length-set fs1 z _ ∙ long1;
      }

  freed_is : changed (set fs x (with_role Linked (get_or fs x blank))) (Some (last_from x r)) (with_next (head_of free)) ≡ freed_frames fs x head
  freed_is = grind (arith, nat_tests)

  pub freed_laid : Laid (freed_frames fs x head) (Some x) (count + row_size (get_or fs x blank).role) rest (node x e p k (r beside free))
  freed_laid = subst₂ (λ (gs : List Frame) (n : ℕ). Laid gs (Some x) n rest (node x e p k (r beside free))) freed_is (ap (λ (s : Role). count + row_size s) (sym role_is)) freed_layout

  pub freed_tells : Means (freed_frames fs x head) (reports fs) (update eqb (rows fs) x None)
  freed_tells =
      let m = freed_laid in
      record {
        reports = λ j. (told m j).0 ∙ sym (told l j).0;
        rows = λ j. (told m j).1 ∙ gone_key j x _ _ _ (λ w. subst (λ (y : ℕ). row_at y rest ≡ None) (sym w) (first_once l x refl).1) (told l j).1;
      }

-- the first free frame
pub record First (fs : List Frame) (head : Option ℕ) (count : ℕ) (live : List Block) (i : ℕ) : Type 0 where
  pub error : FrameError
  pub place : ℕ
  pub kids : Numbered
  pub rest : Numbered
  pub laid : Laid fs head count live (node i error place kids rest)

pub first_free : {fs : List Frame} {head : Option ℕ} {count : ℕ} {live : List Block} (free : Numbered) (i : ℕ) → Laid fs head count live free → head ≡ Some i → First fs head count live i
first_free none i l h = absurd (let b = l.begins in cc)
first_free {fs} {head} {count} {live} (node j e p k r) i l h =
    let b = l.begins in
    let q : j ≡ i = cc in
    record { error = e; place = p; kids = k; rest = r; laid = subst (λ (n : ℕ). Laid fs head count live (node n e p k r)) q l }

pub none_free : {fs : List Frame} {head : Option ℕ} {count : ℕ} {live : List Block} (free : Numbered) → Laid fs head count live free → head ≡ None → count ≡ 0
none_free none l h = sym l.left
none_free (node j e p k r) l h = absurd (let b = l.begins in cc)

abbrev pub begun_by : List Frame → ℕ → FrameError → ℕ → Frame → List Frame
begun_by fs i e p f = set (changed fs f.last (with_next f.next)) i (frame_of Report e p none none)

abbrev pub begun_frames : List Frame → ℕ → FrameError → ℕ → List Frame
begun_frames fs i e p = begun_by fs i e p (get_or fs i blank)

pub begun_from : (fs gs : List Frame) (i : ℕ) (e : FrameError) (p : ℕ) → gs ≡ changed fs (get_or fs i blank).last (with_next (get_or fs i blank).next)
    → set gs i (frame_of Report e p none none) ≡ begun_frames fs i e p
begun_from fs gs i e p a = rw a

module _ {fs : List Frame} {head : Option ℕ} {count i : ℕ} {live : List Block} {f : FrameError} {q : ℕ} {k r : Numbered} (l : Laid fs head count live (node i f q k r)) where
  pub free_below : i < 1024
  free_below = let a = l.spare.0 in let b = l.long in omega arith

  free_frame : get_or fs i blank ≡ frame_of Linked f q k r
  free_frame = l.spare.1

  pub some_free : 1 ≤ count
  some_free = let a = l.left in omega arith

  pub within_free : Within (get_or fs i blank).last
  within_free = rw free_frame (within_last fs Linked k l.long l.spare.2)

  module _ (e : FrameError) (p : ℕ) where
    begun_layout : Laid (begun_by fs i e p (frame_of Linked f q k r)) (head_of (k beside r)) (count - 1) (report i e p none ∷ live) (k beside r)
    begun_layout =
        let fs1 = changed fs (last_of k) (with_next (head_of r)) in
        let o = l.once in
        let oi = o i free_below in
        let si = one_same i i refl in
        let lng = l.long in
        let long1 : length fs1 ≡ 1024 = length-changed fs (last_of k) _ ∙ l.long in
        let i1 : i < length fs1 = (let a = free_below in omega arith) in
        let ti = tally_beside i k r in
        record {
          stand = (
            (simp length-set i1, get_or-set_same fs1 i _ blank i1, tt, tt),
            stand_set fs1 live i _ (stand_changed fs live (last_of k) _ l.stand (off_last fs Linked k (λ n. tallies n live) l.spare.2 (λ n lt. let a = o n (omega arith) in omega arith))) (omega arith),
          );
          spare = held_set fs1 Linked (k beside r) i _ (joins fs k r l.spare.2 l.spare.3 (λ n lt. let a = o n (omega arith) in omega arith)) (omega arith);
          begins = refl;
          once = λ n lt. let a = o n lt in let b = tally_beside n k r in omega arith;
          left = let a = l.left in let b = size_beside k r in omega arith;
          all = let a = l.all in let b = size_beside k r in omega arith;
          long = length-set fs1 i _ ∙ long1;
        }

    pub begun_laid : Laid (begun_frames fs i e p) (option_or (get_or fs i blank).first (get_or fs i blank).next) (count - 1) (report i e p none ∷ live) (k beside r)
    begun_laid = rw free_frame (subst (λ (h : Option ℕ). Laid (begun_by fs i e p (frame_of Linked f q k r)) h (count - 1) (report i e p none ∷ live) (k beside r)) (sym (head_beside k r)) begun_layout)

    pub begun : Begun fs (begun_frames fs i e p) e p i
    begun =
        let z : tallies i live ≡ 0 = (let a = l.once i free_below in let b = one_same i i refl in omega arith) in
        record {
          room = let a = some_free in let b = count_is l in omega arith;
          below = free_below;
          fresh = record { report = (told l i).0 ∙ (absent live i z).0; row = λ h. ap (λ (u : Option Listing). among i (list_of u)) (told l h).1 ∙ not_among live i h z };
          means = record {
            reports = λ j. (told begun_laid j).0 ∙ added_key j i _ _ _ _ refl (sym (told l j).0);
            rows = λ j. (told begun_laid j).1 ∙ sym (told l j).1;
          };
        }
