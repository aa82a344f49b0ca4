-- A layer that gains an entry gains one error, and else is as it was.
use Rattle.std.specs.Prelude.{◌≡◌, ℕ, ◌-◌, ◌<◌, ◌≤◌, Bool, true, false, cond, List, [], ◌∷◌, Some, None, Ok, Option, Result, ok_or, nat_eq}
use Rattle.std.proofs.Common.{sym, subst, arith, length-append}
use Rattle.std.proofs.lemmas.Bool.{cond_both}
use Rattle.std.proofs.lemmas.Bool.Decides.{nat_tests}
use Rattle.std.proofs.lemmas.Option.{slice_get_past, slice_get_within}
use Rattle.std.specs.List.{slice_get}
use Rattle.std.specs.Map.{update}
use Rattle.classes.specs.declared.class.NotNamed.{NotNamed}
use Rattle.vocabulary.specs.Kind.{sourceless}
use Rattle.vocabulary.specs.declared.fault.LayerFault.{LayerFault}
use Rattle.vocabulary.specs.declared.kind.Kind.{Kind}
use Rattle.model.specs.Host.{Error, Errors, Extends, answer}
use Rattle.layers.specs.Entries.{IsTable, entry_error, entry_told, foot_of, has_room, layered, next_number, pushed, room_for, with_entry}
use Rattle.layers.specs.EntryKinds.{Wraps}
use Rattle.layers.specs.EntryLaws.{get_more, either}
use Rattle.layers.specs.Layer.{around, gained, told_text, wrap_answer}
use Rattle.layers.specs.declared.entries.Entries.{Entries}
use Rattle.layers.specs.declared.entry.Entry.{Entry}
use Rattle.layers.specs.declared.entry.Foot.{Foot}

module _ (lower : Errors) (t : Entries) where
  pub passed : (e : ℕ) → e < t.below → layered lower t e ≡ lower e
  passed e h = grind (arith, nat_tests)

  pub entered : (e : ℕ) → t.below ≤ e → layered lower t e ≡ entry_told lower (slice_get t.items.items (e - t.below))
  entered e h = grind (arith, nat_tests)

  -- the layer with one entry more has one error more, at the next number
  one_more : (x : Entry) (m : Error) (i : ℕ) → entry_error x (lower x.foot.base) ≡ Some m
      → layered lower (with_entry t x) i ≡ update nat_eq (layered lower t) (next_number t) (Some m) i
  one_more x m i q = grind (arith, nat_tests, get_more t.items.items x (i - t.below), slice_get_past t.items.items (i - t.below))

  -- the next number is no error's yet
  next_free : layered lower t (next_number t) ≡ None
  next_free = grind (arith, nat_tests, slice_get_past t.items.items (next_number t - t.below))

  early : (e : ℕ) (m : Error) → layered lower t e ≡ Some m → e < next_number t
  early e m q = grind (arith, nat_tests, slice_get_past t.items.items (e - t.below))

  -- an entry around a live error is told with its own text
  new_told : (e : ℕ) (m : Error) (k : Kind) (keeps : Bool) (f : Foot) → layered lower t e ≡ Some m
      → f ≡ record { base = (foot_of t e).base; silent = cond keeps (foot_of t e).silent true }
      → entry_error (record { error = e; kind = k; foot = f }) (lower f.base) ≡ Some (around k (cond keeps m.text []) e)
  new_told e m k keeps f q p = grind (arith, nat_tests)

  -- a layer that gains an entry keeps what it had
  pub wrap_extends : (e v : ℕ) (ko : Option Kind) (text : List ℕ) (r : Result ℕ LayerFault) (after : Errors)
      → r ≡ wrap_answer (layered lower t e) e ko v t → ((i : ℕ) → after i ≡ gained (layered lower t) ko text e r i) → Extends (layered lower t) after
  wrap_extends e v ko text r after a g i m q = grind (arith, nat_tests, g i, next_free)

  -- and so does one whose host below gains
  pub lower_extends : (after : Errors) → Extends lower after → Extends (layered lower t) (layered after t)
  lower_extends after more e m q = grind (arith, nat_tests, more)

-- a table with one entry more
module _ (t : Entries) (x : Entry) where
  -- what the errors rest on that it had
  pub foot_kept : (e : ℕ) → e < next_number t → foot_of (with_entry t x) e ≡ foot_of t e
  foot_kept e h = grind (arith, nat_tests, get_more t.items.items x (e - t.below))

  module _ (k : IsTable t) (early : x.error < next_number t) (ends : x.foot.base ≡ (foot_of t x.error).base) (wraps : sourceless x.kind ≡ false) where
    longer : has_room t ≡ true → IsTable (with_entry t x)
    longer r =
        record {
          room = grind (arith, nat_tests, length-append t.items.items (x ∷ []));
          numbered = grind (arith, nat_tests, length-append t.items.items (x ∷ []));
          falling = λ i y q. grind (arith, either t.items.items x i y q, k.falling i y);
          ending = λ i y q. grind (arith, either t.items.items x i y q, k.falling i y, k.ending i y, slice_get_within t.items.items i y, foot_kept y.error);
          sourced = λ i y q. grind (arith, either t.items.items x i y q, k.sourced i y);
        }

    pub table_more : IsTable (pushed t x)
    table_more = cond_both (has_room t) (with_entry t x) t IsTable longer (λ _. k)

-- a wrap, as the code does it
module _ (lower : Errors) (t : Entries) (e n : ℕ) (ko : Option Kind) (keeps : Bool) {kind k : Kind} {f g : Foot} {u : Entries} {r : Result ℕ LayerFault}
    (told : Ok kind ≡ answer (layered lower t e) e (λ m. m.kind)) (named : Ok k ≡ ok_or {E = NotNamed} ko (record { 0 = n }))
    (foot : f ≡ foot_of t e) (rest : ◌≡◌ {A = Foot} g (record { base = f.base; silent = cond keeps f.silent true }))
    (answered : r ≡ room_for t) (added : u ≡ pushed t (record { error = e; kind = k; foot = g })) where
  pub add_errors : (i : ℕ) → layered lower u i ≡ gained (layered lower t) ko (cond keeps (told_text (layered lower t) e) []) e r i
  add_errors i = grind (arith, nat_tests, one_more lower t (record { error = e; kind = k; foot = g }), new_told lower t e)

  pub add_table : IsTable t → Wraps ko → IsTable u
  add_table h w = subst IsTable (sym added) (table_more t (record { error = e; kind = k; foot = g }) h (grind (arith, early lower t e)) (grind arith) (grind arith))
