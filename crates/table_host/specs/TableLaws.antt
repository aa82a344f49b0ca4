-- Which records are live, and that the table host keeps the rules of a host.
use Rattle.std.specs.Prelude.{◌≡◌, ℕ, zero, suc, ◌+◌, ◌-◌, ◌<◌, ◌≤◌, Bool, true, false, cond, not, ◌&&◌, List, [], ◌∷◌, ◌++◌, length, get_or, take, drop, is_some, Some, None, Ok, Err, Option, nat_le, nat_lt, ok_or, slice_index_or, refl}
use Rattle.std.proofs.Common.{sym, ap, subst, ◌∙◌, ⊎_elim, arith, length-take, length-drop, length-append, below_more, ltb-true, leb-true, lt-ltb}
use Rattle.std.proofs.Math.Bool.{and-true}
use Rattle.std.proofs.Math.Nat.{le-min, min-eq_left, min-le_right}
use Rattle.std.proofs.lemmas.Bool.{and_parts, cases_lt, cond-true, not-true}
use Rattle.std.proofs.lemmas.List.{drop_more, get_or_append_left, get_or_at, get_or_past}
use Rattle.std.proofs.lemmas.Option.{slice_get_past, slice_get-get_or}
use Rattle.std.specs.Option.{option_map}
use Rattle.std.specs.List.{slice_get}
use Rattle.vocabulary.specs.Kind.{sourceless}
use Rattle.vocabulary.specs.declared.kind.Kind.{Kind}
use Rattle.vocabulary.specs.declared.fault.HostFault.TheVariants.{NotLive, TextTooLong}
use Rattle.model.specs.Host.{Error, Lawful, Live, answer, text_answer, text_filled}
use Rattle.table_host.specs.Table.{kind_of_record, live_kind, live_record, record_kind, kind_fits, record_fits, source_live, record_live, live_within, live, record_error, record_told, table_errors, table_span}
use Rattle.table_host.specs.declared.record.Record.{Record}

blank : Record
blank = record { kind = 0; detail = 0; source = None; start = 0; len = 0 }

-- the source of a record that fits is a smaller number, and its kind may have one
fits_source : (size e d : ℕ) (r : Record) → record_fits size e r ≡ true → r.source ≡ Some d → (d < e)
fits_source size e d r t s = go (record_kind r) (subst (λ (o : Option ℕ). kind_fits e (record_kind r) o ≡ true) s (and_parts _ _ t).0)
  where
    go : (k : Option Kind) → kind_fits e k (Some d) ≡ true → d < e
    go None q = absurd cc
    go (Some k) q = ltb-true d e (and_parts _ _ q).0

-- Liveness depends only on the liveness of smaller numbers.
same_below : (size e : ℕ) (f g : ℕ → Bool) (o : Option Record) → ((d : ℕ) → d < e → f d ≡ g d) → record_live size f e o ≡ record_live size g e o
same_below size e f g None h = refl
same_below size e f g (Some r) h = go (record_fits size e r) r.source (λ t d s. h d (fits_source size e d r t s))
  where
    go : (b : Bool) (s : Option ℕ) → (b ≡ true → (d : ℕ) → s ≡ Some d → f d ≡ g d) → ((b && source_live f s) && nat_lt e 65536) ≡ ((b && source_live g s) && nat_lt e 65536)
    go false s k = refl
    go true None k = refl
    go true (Some d) k = ap (λ (b : Bool). (b && nat_lt e 65536)) (k refl d refl)

module _ (records : List Record) (size : ℕ) where
  same_limit : (f g e : ℕ) → e < f → e < g → live_within records size f e ≡ live_within records size g e
  unfolding live_within
  same_limit zero g e a b = absurd (omega arith)
  same_limit (suc f) zero e a b = absurd (omega arith)
  same_limit (suc f) (suc g) e a b = same_below size e (live_within records size f) (live_within records size g) (slice_get records e) (λ d h. same_limit f g d (omega arith) (omega arith))

  -- a record is live exactly if it keeps the rules and its source, if any, is live
  pub live_is : (e : ℕ) → live records size e ≡ record_live size (live records size) e (slice_get records e)
  unfolding live_within
  live_is e = same_below size e (live_within records size e) (live records size) (slice_get records e) (λ d h. same_limit e (suc d) d h (omega arith))

  record Facts (e : ℕ) (r : Record) : Type 0 where
    small : e < 65536
    fits : record_fits size e r ≡ true
    source : source_live (live records size) r.source ≡ true

  facts : (e : ℕ) (r : Record) → live records size e ≡ true → slice_get records e ≡ Some r → Facts e r
  facts e r t n =
      let p = and_parts _ _ (ap (record_live size (live records size) e) (sym n) ∙ sym (live_is e) ∙ t) in
      let q = and_parts _ _ p.0 in
      record { small = ltb-true e 65536 p.1; fits = q.0; source = q.1 }

  -- a live number has a record
  pub live-read : (e : ℕ) → live records size e ≡ true → e < length records
  live-read e t = ⊎_elim (λ h. h) (λ h. let f : false ≡ true = ap (record_live size (live records size) e) (sym (slice_get_past records e h)) ∙ sym (live_is e) ∙ t in absurd cc) (cases_lt e (length records))

  -- a live record has a kind, and one that is not live has none
  pub marked : (e : ℕ) → is_some (live_kind records size e) ≡ live records size e
  marked e = go (live records size e) (slice_get records e) refl refl
    where
      named : (r : Record) → live records size e ≡ true → slice_get records e ≡ Some r → is_some (record_kind r) ≡ true
      named r t n = some (record_kind r) (and_parts _ _ (facts e r t n).fits).0
        where
          some : (k : Option Kind) → kind_fits e k r.source ≡ true → is_some k ≡ true
          some None q = absurd cc
          some (Some k) q = refl

      go : (b : Bool) (o : Option Record) → live records size e ≡ b → slice_get records e ≡ o → is_some (kind_of_record (cond b o None)) ≡ b
      go true (Some r) t n = named r t n
      go true None t n = let f : false ≡ true = ap (record_live size (live records size) e) (sym n) ∙ sym (live_is e) ∙ t in absurd cc
      go false o t n = refl

  -- what a pass has come to: its kinds, the records that are left of those that may be live, and how many it has read
  pub record Pass (kinds : List (Option Kind)) (rest : List Record) (left e : ℕ) : Type 0 where
    pub count : length kinds ≡ e
    pub kinds_are : (d : ℕ) → d < e → slice_index_or kinds d None ≡ live_kind records size d
    pub rest_is : rest ≡ drop e records
    pub left_is : left + e ≡ 65536

  -- one record more, judged by the kinds of those before it
  pub pass_more : {kinds seen kinds' : List (Option Kind)} {rest rest' : List Record} {left left' e e' number : ℕ} {x : Record} {b : Bool} → Pass kinds rest left e
      → rest ≡ x ∷ rest' → left' + 1 ≡ left → number ≡ e → e' ≡ e + 1 → seen ≡ kinds
      → b ≡ (record_fits size number x && source_live (λ s. is_some (get_or seen s None)) x.source) → kinds' ≡ kinds ++ cond b (record_kind x) None ∷ [] → Pass kinds' rest' left' e'
  pass_more {kinds} {seen} {kinds'} {rest} {rest'} {left} {left'} {e} {e'} {number} {x} {b} m r l at next same q p =
      subst (λ (k : ℕ). Pass kinds' rest' left' k) (sym next) (record {
        count = ap length p ∙ simp length-append (let n = m.count in omega arith);
        kinds_are = below_more _ e old new;
        rest_is = let n = drop_more records e x within in cc;
        left_is = let n = m.left_is in omega arith;
      })
    where
      within : e < length records
      within = let n = ap (λ (xs : List Record). length xs) (sym m.rest_is ∙ r) in omega (arith, length-drop e records)

      read : slice_get records e ≡ Some x
      read = let n = drop_more records e x within in let s = slice_get-get_or records e x within in cc

      old : (k : ℕ) → k < e → slice_index_or kinds' k None ≡ live_kind records size k
      old k l = let n = m.count in ap (λ (xs : List (Option Kind)). get_or xs k None) p ∙ get_or_append_left kinds (cond b (record_kind x) None ∷ []) None k (omega arith) ∙ m.kinds_are k l

      judged : b ≡ live records size e
      judged =
          let s : e < 65536 = let n = m.left_is in omega arith in
          q
          ∙ ap (λ (k : ℕ). (record_fits size k x && source_live (λ s. is_some (get_or seen s None)) x.source)) at
          ∙ ap (λ (xs : List (Option Kind)). (record_fits size e x && source_live (λ s. is_some (get_or xs s None)) x.source)) same
          ∙ sym (and-true (record_fits size e x && source_live (λ s. is_some (get_or kinds s None)) x.source))
          ∙ ap (λ (t : Bool). ((record_fits size e x && source_live (λ s. is_some (get_or kinds s None)) x.source) && t)) (sym (lt-ltb e 65536 s))
          ∙ same_below size e (λ s. is_some (get_or kinds s None)) (live records size) (Some x) (λ d h. ap is_some (m.kinds_are d h) ∙ marked d)
          ∙ ap (record_live size (live records size) e) (sym read)
          ∙ sym (live_is e)

      told_kind : cond b (record_kind x) None ≡ live_kind records size e
      told_kind =
          ap (λ (t : Bool). cond t (record_kind x) None) judged
          ∙ inside (live records size e)
          ∙ ap (λ (o : Option Record). kind_of_record (cond (live records size e) o None)) (sym read)
        where
          inside : (t : Bool) → cond t (record_kind x) None ≡ kind_of_record (cond t (Some x) None)
          inside true = refl
          inside false = refl

      new : get_or kinds' e None ≡ live_kind records size e
      new = ap (λ (xs : List (Option Kind)). get_or xs e None) p ∙ get_or_at kinds (cond b (record_kind x) None) [] None e m.count ∙ told_kind

  -- past the pass there is no live record
  pub pass_ends : {kinds : List (Option Kind)} {rest : List Record} {left count : ℕ} → Pass kinds rest left count → (0 < left → length rest ≡ 0) → (e : ℕ) → slice_index_or kinds e None ≡ live_kind records size e
  pass_ends {kinds} {rest} {left} {count} m done e = ⊎_elim (m.kinds_are e) past (cases_lt e count)
    where
      absent : count ≤ e → (b : Bool) → live records size e ≡ b → None ≡ kind_of_record (cond b (slice_get records e) None)
      absent h false q = refl
      absent h true q =
          let r = live-read e q in
          let f = (facts e (slice_index_or records e blank) q (slice_get-get_or records e blank r)).small in
          let n : 0 < left = let l = m.left_is in omega arith in
          let k = sym (ap (λ (xs : List Record). length xs) m.rest_is) ∙ done n in
          absurd (omega (arith, length-drop count records))

      past : count ≤ e → slice_index_or kinds e None ≡ live_kind records size e
      past h = get_or_past kinds e None (let n = m.count in omega arith) ∙ absent h (live records size e) refl

-- the kind of a live record is the one that is told
pub kind_answered : (records : List Record) (bytes : List ℕ) (e : ℕ) → ok_or (live_kind records (length bytes) e) (NotLive e) ≡ answer (table_errors records bytes e) e (λ m. m.kind)
kind_answered records bytes e = go (live records (length bytes) e) (slice_get records e)
  where
    told_so : (r : Record) (k : Option Kind) → ok_or k (NotLive e) ≡ answer (option_map (record_error bytes r) k) e (λ m. m.kind)
    told_so r None = refl
    told_so r (Some k) = refl

    go : (b : Bool) (o : Option Record) → ok_or (kind_of_record (cond b o None)) (NotLive e) ≡ answer (cond b (record_told bytes o) None) e (λ m. m.kind)
    go true None = refl
    go true (Some r) = told_so r (record_kind r)
    go false o = refl

-- what is told of a live record
record Told (records : List Record) (bytes : List ℕ) (e : ℕ) (r : Record) : Type 0 where
  rules : Facts records (length bytes) e r
  within : e < length records
  kind : Kind
  named : record_kind r ≡ Some kind
  is : table_errors records bytes e ≡ Some (record_error bytes r kind)

told : (records : List Record) (bytes : List ℕ) (e : ℕ) (r : Record) → live records (length bytes) e ≡ true → slice_get records e ≡ Some r → Told records bytes e r
told records bytes e r t n =
    let f = facts records (length bytes) e r t n in
    go f (record_kind r) refl (and_parts _ _ f.fits).0
  where
    go : Facts records (length bytes) e r → (k : Option Kind) → record_kind r ≡ k → kind_fits e k r.source ≡ true → Told records bytes e r
    go f None q b = absurd cc
    go f (Some k) q b =
        record {
          rules = f;
          within = live-read records (length bytes) e t;
          kind = k;
          named = q;
          is = cond-true (live records (length bytes) e) _ _ t ∙ ap (record_told bytes) n ∙ ap (option_map (record_error bytes r)) q;
        }

text_within : (size e : ℕ) (r : Record) → record_fits size e r ≡ true → (r.len ≤ 255) × (r.start + r.len ≤ size)
text_within size e r f = let p = and_parts _ _ (and_parts _ _ f).1 in (leb-true r.len 255 p.0, leb-true (r.start + r.len) size p.1)

text_length : (bytes : List ℕ) (e : ℕ) (r : Record) → record_fits (length bytes) e r ≡ true → length (take r.len (drop r.start bytes)) ≡ r.len
text_length bytes e r f = let w = text_within (length bytes) e r f in simp (length-take, length-drop) (min-eq_left (omega arith))

-- the record that was read of an error, where one was
module _ (records : List Record) (bytes : List ℕ) (e : ℕ) (r : Record) (q : Ok r ≡ ok_or (live_record records (length bytes) e) (NotLive e)) where
  it : Told records bytes e r
  it = go (live records (length bytes) e) (slice_get records e) refl refl q
    where
      go : (b : Bool) (o : Option Record) → live records (length bytes) e ≡ b → slice_get records e ≡ o → Ok r ≡ ok_or (cond b o None) (NotLive e) → Told records bytes e r
      go true (Some x) t n p = told records bytes e r t (n ∙ (let s : Some x ≡ Some r = cc in s))
      go true None t n p = absurd cc
      go false o t n p = absurd cc

  pub source_told : Ok r.source ≡ answer (table_errors records bytes e) e (λ m. m.source)
  source_told = sym (ap (λ o. answer o e (λ m. m.source)) it.is)

  pub length_told : Ok r.len ≡ answer (table_errors records bytes e) e (λ m. length m.text)
  length_told = ap Ok (sym (text_length bytes e r it.rules.fits)) ∙ sym (ap (λ o. answer o e (λ m. length m.text)) it.is)

  pub text_ends : r.start + r.len ≤ length bytes
  text_ends = (text_within (length bytes) e r it.rules.fits).1

  -- the text, as the part of the bytes that is read
  module _ (part seen text : List ℕ) (s : seen ≡ bytes) (t : text ≡ take (r.start + r.len - r.start) (drop r.start seen)) where
    its_text : text ≡ take r.len (drop r.start bytes)
    its_text = let n : r.start + r.len - r.start ≡ r.len = omega arith in t ∙ ap (λ (k : ℕ). take k (drop r.start seen)) n ∙ ap (λ (xs : List ℕ). take r.len (drop r.start xs)) s

    pub text_answered : cond (nat_le (length text) (length part)) (Ok (length text)) (Err (TextTooLong (length text))) ≡ text_answer (table_errors records bytes e) e (length part)
    text_answered = ap (λ (x : List ℕ). text_answer (Some (record { kind = it.kind; text = x; source = r.source })) e (length part)) its_text ∙ sym (ap (λ o. text_answer o e (length part)) it.is)

    pub text_put : cond (nat_le (length text) (length part)) (text ++ drop (length text) part) part ≡ text_filled (table_errors records bytes e) part
    text_put = ap (λ (x : List ℕ). text_filled (Some (record { kind = it.kind; text = x; source = r.source })) part) its_text ∙ sym (ap (λ o. text_filled o part) it.is)

-- every error of the table is a live record's
record Read (records : List Record) (bytes : List ℕ) (e : ℕ) (m : Error) : Type 0 where
  item : Record
  told_of : Told records bytes e item
  is : record_error bytes item told_of.kind ≡ m

reads : (records : List Record) (bytes : List ℕ) (e : ℕ) (m : Error) → table_errors records bytes e ≡ Some m → Read records bytes e m
reads records bytes e m q = go (live records (length bytes) e) (slice_get records e) refl refl q
  where
    go : (b : Bool) (o : Option Record) → live records (length bytes) e ≡ b → slice_get records e ≡ o → cond b (record_told bytes o) None ≡ Some m → Read records bytes e m
    go true (Some r) t n p = let w = told records bytes e r t n in record { item = r; told_of = w; is = let s : Some (record_error bytes r w.kind) ≡ Some m = sym w.is ∙ q in cc }
    go true None t n p = absurd cc
    go false o t n p = absurd cc

module _ (records : List Record) (bytes : List ℕ) (e d : ℕ) (m : Error) (r : Read records bytes e m) (s : m.source ≡ Some d) where
  its_source : r.item.source ≡ Some d
  its_source = ap (λ (x : Error). x.source) r.is ∙ s

  source_falls : d < e
  source_falls = fits_source (length bytes) e d r.item r.told_of.rules.fits its_source

  source_lives : Live (table_errors records bytes) d
  source_lives =
      let t : live records (length bytes) d ≡ true = ap (source_live (live records (length bytes))) (sym its_source) ∙ r.told_of.rules.source in
      ap is_some (told records bytes d (slice_index_or records d blank) t (slice_get-get_or records d blank (live-read records (length bytes) d t))).is

  bare-source : sourceless m.kind ≡ true → ⊥
  bare-source b =
      let k = r.told_of in
      let f : kind_fits e (Some k.kind) (Some d) ≡ true = ap (λ (k : Option Kind). kind_fits e k (Some d)) (sym k.named) ∙ ap (kind_fits e (record_kind r.item)) (sym its_source) ∙ (and_parts _ _ k.rules.fits).0 in
      let g : sourceless k.kind ≡ false = not-true (sourceless k.kind) (and_parts (nat_lt d e) (not (sourceless k.kind)) f).1 in
      let h : sourceless k.kind ≡ true = ap (λ (x : Error). sourceless x.kind) r.is ∙ b in
      cc

pub table_lawful : (records : List Record) (bytes : List ℕ) → Lawful (table_errors records bytes) (table_span records)
table_lawful records bytes =
    record {
      small = min-le_right (length records) 65536;
      within = λ e m q. let r = (reads records bytes e m q).told_of in le-min r.within r.rules.small;
      short = λ e m q. let r = reads records bytes e m q in
          subst (λ (x : Error). length x.text ≤ 255) r.is
          (let f = (text_within (length bytes) e r.item r.told_of.rules.fits).0 in let l = text_length bytes e r.item r.told_of.rules.fits in omega arith);
      bare = λ e m q b. no_source e m (reads records bytes e m q) b m.source refl;
      falls = λ e d m q s. source_falls records bytes e d m (reads records bytes e m q) s;
      lives = λ e d m q s. source_lives records bytes e d m (reads records bytes e m q) s;
    }
  where
    no_source : (e : ℕ) (m : Error) → Read records bytes e m → sourceless m.kind ≡ true → (o : Option ℕ) → m.source ≡ o → m.source ≡ None
    no_source e m r b None p = p
    no_source e m r b (Some d) p = absurd (bare-source records bytes e d m r p b)
