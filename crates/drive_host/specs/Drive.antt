-- The drive's errors: 48 numbers, sixteen reasons at each of three stages.
use Rattle.std.specs.Prelude.{ℕ, ◌+◌, ◌-◌, ◌/◌, ◌%◌, cond, List, [], ◌∷◌, ◌++◌, Some, None, Option, nat_lt}
use Rattle.std.specs.Option.{option_map}
use Rattle.classes.specs.Ascii.{ascii}
use Rattle.vocabulary.specs.IoKind.{io_kind_at}
use Rattle.vocabulary.specs.declared.io_kind.IoKind.{IoKind}
use Rattle.vocabulary.specs.declared.kind.Kind.TheVariants.{Plain, Io}
use Rattle.model.specs.Host.{Error, Errors}

-- a number below 100 in decimal, without a leading zero
abbrev pub decimal : ℕ → List ℕ
decimal k = cond (nat_lt k 10) ((48 + k) ∷ []) ((48 + k / 10) ∷ (48 + k % 10) ∷ [])

-- stage 0 is the gauge, an io error by the reason's number; stage 1 the drive and stage 2 the gate, plain errors
-- whose source is the same reason one stage below
abbrev pub gauge_error : ℕ → IoKind → Error
gauge_error k i = record { kind = Io i; text = ascii "gauge " ++ decimal k; source = None }

abbrev pub gauge : ℕ → Option Error
gauge k = option_map (gauge_error k) (io_kind_at k)

abbrev pub plain : ℕ → List ℕ → Option Error
plain below text = Some (record { kind = Plain; text = text; source = Some below })

abbrev pub gate : ℕ → Option Error
gate e = cond (nat_lt e 48) (plain (e - 16) (ascii "gate " ++ decimal (e - 32))) None

abbrev pub drive : ℕ → Option Error
drive e = cond (nat_lt e 32) (plain (e - 16) (ascii "drive " ++ decimal (e - 16))) (gate e)

abbrev pub drive_errors : Errors
drive_errors e = cond (nat_lt e 16) (gauge e) (drive e)
