-- The table host: the errors of the caller's records.
use Rattle.std.specs.Prelude.{ℕ, zero, suc, ◌+◌, min, Bool, true, false, cond, not, ◌&&◌, List, length, take, drop, Some, None, Option, nat_le, nat_lt}
use Rattle.std.specs.Option.{option_map}
use Rattle.std.specs.List.{slice_get}
use Rattle.vocabulary.specs.Kind.{kind_at, sourceless}
use Rattle.vocabulary.specs.declared.kind.Kind.{Kind}
use Rattle.model.specs.Host.{Error, Errors}
use Rattle.table_host.specs.declared.record.Record.{Record}

-- a record's kind, where its numbers name one
abbrev pub record_kind : Record → Option Kind
record_kind r = kind_at r.kind r.detail

-- the kind may have the source, and the source is a smaller number
abbrev pub source_fits : ℕ → Kind → Option ℕ → Bool
source_fits e k None = true
source_fits e k (Some d) = nat_lt d e && not (sourceless k)

abbrev pub kind_fits : ℕ → Option Kind → Option ℕ → Bool
kind_fits e None source = false
kind_fits e (Some k) source = source_fits e k source

-- a text of at most 255 bytes that lies in the caller's bytes, of which there are `size`
abbrev pub text_fits : ℕ → Record → Bool
text_fits size r = nat_le r.len 255 && nat_le (r.start + r.len) size

-- the record of number `e` keeps the rules by itself
abbrev pub record_fits : ℕ → ℕ → Record → Bool
record_fits size e r = kind_fits e (record_kind r) r.source && text_fits size r

abbrev pub source_live : (ℕ → Bool) → Option ℕ → Bool
source_live live None = true
source_live live (Some d) = live d

abbrev pub record_live : ℕ → (ℕ → Bool) → ℕ → Option Record → Bool
record_live size live e None = false
record_live size live e (Some r) = (record_fits size e r && source_live live r.source) && nat_lt e 65536

-- A record is live if its number is at most 65,535, it keeps the rules and its source, if any, is live. Sources are
-- smaller numbers, so `limit` questions suffice for a number below it.
unfoldable pub live_within : List Record → ℕ → ℕ → ℕ → Bool
live_within records size zero e = false
live_within records size (suc limit) e = record_live size (live_within records size limit) e (slice_get records e)

abbrev pub live : List Record → ℕ → ℕ → Bool
live records size e = live_within records size (suc e) e

-- what a record tells
abbrev pub record_error : List ℕ → Record → Kind → Error
record_error bytes r k = record { kind = k; text = take r.len (drop r.start bytes); source = r.source }

abbrev pub record_told : List ℕ → Option Record → Option Error
record_told bytes None = None
record_told bytes (Some r) = option_map (record_error bytes r) (record_kind r)

abbrev pub table_errors : List Record → List ℕ → Errors
table_errors records bytes e = cond (live records (length bytes) e) (record_told bytes (slice_get records e)) None

abbrev pub table_span : List Record → ℕ
table_span records = min (length records) 65536

-- the record of a live error
abbrev pub live_record : List Record → ℕ → ℕ → Option Record
live_record records size e = cond (live records size e) (slice_get records e) None

abbrev pub kind_of_record : Option Record → Option Kind
kind_of_record None = None
kind_of_record (Some r) = record_kind r

-- the kind of a live error
abbrev pub live_kind : List Record → ℕ → ℕ → Option Kind
live_kind records size e = kind_of_record (live_record records size e)
