-- The entries of a layer, and the host that they make of the host below.
use Rattle.std.specs.Prelude.{◌≡◌, ℕ, ◌+◌, ◌-◌, ◌<◌, ◌≤◌, min, Bool, true, false, cond, ◌&&◌, [], ◌∷◌, ◌++◌, Some, None, Ok, Err, Option, Result, nat_lt}
use Rattle.std.specs.List.{slice_get}
use Rattle.std.specs.Option.{option_map, option_map_or}
use Rattle.arrayvec.specs.ArrayVec.{array_vec_len}
use Rattle.vocabulary.specs.Kind.{sourceless}
use Rattle.vocabulary.specs.declared.fault.HostFault.{HostFault}
use Rattle.vocabulary.specs.declared.fault.HostFault.TheVariants.{NotLive}
use Rattle.vocabulary.specs.declared.fault.LayerFault.{LayerFault}
use Rattle.vocabulary.specs.declared.fault.LayerFault.TheVariants.{Full}
use Rattle.vocabulary.specs.declared.kind.Kind.TheVariants.{Plain}
use Rattle.model.specs.Host.{Error, Errors}
use Rattle.layers.specs.declared.entries.Entries.{Entries}
use Rattle.layers.specs.declared.entry.Entry.{Entry}
use Rattle.layers.specs.declared.entry.Foot.{Foot}

-- the entry that a layer has in a place where none was made yet
abbrev pub unmade : Entry
unmade = record { error = 0; kind = Plain; foot = record { base = 0; silent = true } }

-- a layer's span is that below plus 64, at most 65,536, whatever entries there are
abbrev pub layered_span : Entries → ℕ
layered_span t = min (t.below + 64) 65536

-- the entry of a number: entry i is the span below plus i
abbrev pub entry_of : Entries → ℕ → Option Entry
entry_of t e = cond (nat_lt e t.below) None (slice_get t.items.items (e - t.below))

-- what an entry is, where the error below in which its sources end is `base`: it is live while that one is
abbrev pub entry_error : Entry → Option Error → Option Error
entry_error x base = option_map (λ b. record { kind = x.kind; text = cond x.foot.silent [] b.text; source = Some x.error }) base

abbrev pub entry_told : Errors → Option Entry → Option Error
entry_told lower x = option_map_or (λ y. entry_error y (lower y.foot.base)) x None

-- the host of a layer: numbers within the span below are passed down, and the others are the entries'
abbrev pub layered : Errors → Entries → Errors
layered lower t e = cond (nat_lt e t.below) (lower e) (entry_told lower (slice_get t.items.items (e - t.below)))

-- what a number rests on: the error below in which its sources end, and whether its text is empty
abbrev pub foot_of : Entries → ℕ → Foot
foot_of t e = option_map_or (λ x. x.foot) (entry_of t e) (record { base = e; silent = false })

-- what holds of the entries of every layer
pub record IsTable (t : Entries) : Type 0 where
  pub room : array_vec_len t.items ≤ 64
  pub numbered : t.below + array_vec_len t.items ≤ 65536
  -- an entry stands around an error with a lower number, below or in the same layer
  pub falling : (i : ℕ) (x : Entry) → slice_get t.items.items i ≡ Some x → x.error < t.below + i
  -- its sources end where those of that error end
  pub ending : (i : ℕ) (x : Entry) → slice_get t.items.items i ≡ Some x → x.foot.base ≡ (foot_of t x.error).base
  -- and it is of a kind that may have a source
  pub sourced : (i : ℕ) (x : Entry) → slice_get t.items.items i ≡ Some x → sourceless x.kind ≡ false

-- which entry or lower error a number is: `Ok None` for one that is passed down
abbrev pub Resolved : Errors → Entries → ℕ → Result (Option Entry) HostFault → Type 0
Resolved lower t e (Ok None) = layered lower t e ≡ lower e
Resolved lower t e (Ok (Some x)) = (m : Error) × (lower x.foot.base ≡ Some m) × (layered lower t e ≡ entry_error x (Some m))
Resolved lower t e (Err f) = (f ≡ NotLive e) × (layered lower t e ≡ None)

-- the number of the next entry
abbrev pub next_number : Entries → ℕ
next_number t = t.below + array_vec_len t.items

-- whether a layer takes one entry more: it has fewer than 64, and the new number is at most 65,535
abbrev pub has_room : Entries → Bool
has_room t = nat_lt (array_vec_len t.items) 64 && nat_lt (next_number t) 65536

-- the answer to one more entry: its number, where there is room
abbrev pub room_for : Entries → Result ℕ LayerFault
room_for t = cond (has_room t) (Ok (next_number t)) (Err (Full (array_vec_len t.items)))

abbrev pub with_entry : Entries → Entry → Entries
with_entry t x = record { below = t.below; items = record { items = t.items.items ++ x ∷ [] } }

-- what adding an entry does: it stands at the end, or nothing changes
abbrev pub pushed : Entries → Entry → Entries
pushed t x = cond (has_room t) (with_entry t x) t
