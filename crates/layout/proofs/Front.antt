-- A report or a row that is live comes to the front of the blocks.
use Rattle.std.proofs.Common.{◌≡◌, ℕ, ◌+◌, true, eqb, List, [], ◌∷◌, is_some, Some, Option, sym, refl, ap, ◌∙◌, subst, ⊎_elim, arith}
use Rattle.std.proofs.lemmas.Bool.{eqb-true, cond-false, false≢true, cases_Bool}
use Rattle.vocabulary.specs.declared.frame_error.FrameError.{FrameError}
use Rattle.trees.specs.Numbered.{Numbered, node, size, tally, tree_of, listing}
use Rattle.layout.specs.declared.frame.Frame.{Frame}
use Rattle.layout.specs.Layout.{Held, Block, report, row, nodes, role_of, Stand, tallies, sizes, Laid, report_at, row_at}
use Rattle.layout.specs.Reports.{reports, rows}
use Rattle.layout.proofs.Told.{told}

-- blocks with one of them in front
pub record With (fs : List Frame) (bs : List Block) (b : Block) : Type 0 where
  pub rest : List Block
  pub held : Held fs (role_of b) (nodes b)
  pub stand : Stand fs rest
  pub same : (n : ℕ) → tallies n bs ≡ tally n (nodes b) + tallies n rest
  pub many : sizes bs ≡ size (nodes b) + sizes rest

pub here : (fs : List Frame) (b : Block) (bs : List Block) → Stand fs (b ∷ bs) → With fs (b ∷ bs) b
here fs b bs h = record { rest = bs; held = h.0; stand = h.1; same = λ n. refl; many = refl }

pub there : (fs : List Frame) (a b : Block) (bs : List Block) → Stand fs (a ∷ bs) → With fs bs b → With fs (a ∷ bs) b
there fs a b bs h w = record {
  rest = a ∷ w.rest;
  held = w.held;
  stand = (h.0, w.stand);
  same = λ n. let v = w.same n in omega arith;
  many = let v = w.many in omega arith;
}

pub record WithReport (fs : List Frame) (bs : List Block) (x : ℕ) : Type 0 where
  pub error : FrameError
  pub place : ℕ
  pub kids : Numbered
  pub with : With fs bs (report x error place kids)

pub record WithRow (fs : List Frame) (bs : List Block) (x : ℕ) : Type 0 where
  pub error : FrameError
  pub place : ℕ
  pub kids : Numbered
  pub more : Numbered
  pub with : With fs bs (row x error place kids more)

pub find_report : (fs : List Frame) (bs : List Block) (x : ℕ) → Stand fs bs → is_some (report_at x bs) ≡ true → WithReport fs bs x
find_report fs [] x h s = absurd (false≢true s)
find_report fs (row i e p k r ∷ bs) x h s =
    let w = find_report fs bs x h.1 s in
    record { error = w.error; place = w.place; kids = w.kids; with = there fs _ _ bs h w.with }
find_report fs (report i e p k ∷ bs) x h s =
    ⊎_elim
    (λ q. subst (λ (y : ℕ). WithReport fs (report i e p k ∷ bs) y) (sym (eqb-true x i q)) (record { error = e; place = p; kids = k; with = here fs _ bs h }))
    (λ q. let w = find_report fs bs x h.1 (sym (ap is_some (cond-false (eqb x i) (Some (tree_of e p k)) (report_at x bs) q)) ∙ s) in
    record { error = w.error; place = w.place; kids = w.kids; with = there fs _ _ bs h w.with })
    (cases_Bool (eqb x i))

pub find_row : (fs : List Frame) (bs : List Block) (x : ℕ) → Stand fs bs → is_some (row_at x bs) ≡ true → WithRow fs bs x
find_row fs [] x h s = absurd (false≢true s)
find_row fs (report i e p k ∷ bs) x h s =
    let w = find_row fs bs x h.1 s in
    record { error = w.error; place = w.place; kids = w.kids; more = w.more; with = there fs _ _ bs h w.with }
find_row fs (row i e p k r ∷ bs) x h s =
    ⊎_elim
    (λ q. subst (λ (y : ℕ). WithRow fs (row i e p k r ∷ bs) y) (sym (eqb-true x i q)) (record { error = e; place = p; kids = k; more = r; with = here fs _ bs h }))
    (λ q. let w = find_row fs bs x h.1 (sym (ap is_some (cond-false (eqb x i) (Some (listing (node i e p k r))) (row_at x bs) q)) ∙ s) in
    record { error = w.error; place = w.place; kids = w.kids; more = w.more; with = there fs _ _ bs h w.with })
    (cases_Bool (eqb x i))

-- other blocks with the same numbers
pub relaid : {fs : List Frame} {head : Option ℕ} {count : ℕ} {live : List Block} {free : Numbered} (new : List Block) → Laid fs head count live free → Stand fs new
    → ((n : ℕ) → tallies n live ≡ tallies n new) → sizes live ≡ sizes new → Laid fs head count new free
relaid new l s t m = record {
  stand = s;
  spare = l.spare;
  begins = l.begins;
  once = λ n lt. let a = l.once n lt in let b = t n in omega arith;
  left = l.left;
  all = let a = l.all in omega arith;
  long = l.long;
}

-- a block comes to the front
pub fronted : {fs : List Frame} {head : Option ℕ} {count : ℕ} {live : List Block} {free : Numbered} {b : Block} → Laid fs head count live free → (w : With fs live b) → Laid fs head count (b ∷ w.rest) free
fronted l w = relaid _ l (w.held, w.stand) w.same w.many

pub record FrontReport (fs : List Frame) (head : Option ℕ) (count : ℕ) (free : Numbered) (x : ℕ) : Type 0 where
  pub error : FrameError
  pub place : ℕ
  pub kids : Numbered
  pub rest : List Block
  pub laid : Laid fs head count (report x error place kids ∷ rest) free

pub record FrontRow (fs : List Frame) (head : Option ℕ) (count : ℕ) (free : Numbered) (x : ℕ) : Type 0 where
  pub error : FrameError
  pub place : ℕ
  pub kids : Numbered
  pub more : Numbered
  pub rest : List Block
  pub laid : Laid fs head count (row x error place kids more ∷ rest) free

-- a report and a row
pub record FrontBoth (fs : List Frame) (head : Option ℕ) (count : ℕ) (free : Numbered) (x y : ℕ) : Type 0 where
  pub error : FrameError
  pub place : ℕ
  pub kids : Numbered
  pub error' : FrameError
  pub place' : ℕ
  pub kids' : Numbered
  pub more : Numbered
  pub rest : List Block
  pub laid : Laid fs head count (report x error place kids ∷ row y error' place' kids' more ∷ rest) free

module _ {fs : List Frame} {head : Option ℕ} {count : ℕ} {live : List Block} {free : Numbered} (l : Laid fs head count live free) where
  pub front_report : (x : ℕ) → is_some (reports fs x) ≡ true → FrontReport fs head count free x
  front_report x s =
      let w = find_report fs live x l.stand (sym (ap is_some (told l x).0) ∙ s) in
      record { error = w.error; place = w.place; kids = w.kids; rest = w.with.rest; laid = fronted l w.with }

  pub front_row : (x : ℕ) → is_some (rows fs x) ≡ true → FrontRow fs head count free x
  front_row x s =
      let w = find_row fs live x l.stand (sym (ap is_some (told l x).1) ∙ s) in
      record { error = w.error; place = w.place; kids = w.kids; more = w.more; rest = w.with.rest; laid = fronted l w.with }

pub front_both : {fs : List Frame} {head : Option ℕ} {count : ℕ} {live : List Block} {free : Numbered} (l : Laid fs head count live free)
    (x y : ℕ) → is_some (reports fs x) ≡ true → is_some (rows fs y) ≡ true → FrontBoth fs head count free x y
front_both {fs} l x y s t =
    let f = front_report l x s in
    let w = find_row fs f.rest y f.laid.stand.1 (sym (ap is_some (told f.laid y).1) ∙ t) in
    record {
      error = f.error;
      place = f.place;
      kids = f.kids;
      error' = w.error;
      place' = w.place;
      kids' = w.kids;
      more = w.more;
      rest = w.with.rest;
      laid = relaid (report x f.error f.place f.kids ∷ row y w.error w.place w.kids w.more ∷ w.with.rest) f.laid (f.laid.stand.0, (w.with.held, w.with.stand))
          (λ n. let a = w.with.same n in omega arith) (let a = w.with.many in omega arith);
    }
