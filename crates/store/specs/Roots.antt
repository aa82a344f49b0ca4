-- What reports are known by, and what it has to keep.
use Rattle.std.specs.Prelude.{◌≡◌, ℕ, Bool, true, not, is_some, ◌==◌}
use Rattle.vocabulary.specs.declared.frame_error.FrameError.{FrameError}
use Rattle.ledger.specs.Ledger.{Ledger, Fresh, made}
use Rattle.store.specs.Store.{ledger_of, Became}
use Rattle.store.specs.declared.store.Store.{Store}

abbrev pub is_report : Ledger → ℕ → Bool
is_report l x = is_some (l.reports x)

abbrev pub differ : ℕ → ℕ → Bool
differ y x = not (x == y)

-- A new report of one frame is none of the reports that are live, and they stay so; where they are joined to it, it is
-- the root over them.
pub record OverNew {R : Type 0} (is_live : Ledger → R → Bool) (is_apart : R → ℕ → Bool) (joined : Ledger → ℕ → R → Ledger) (raised : Ledger → R → FrameError → ℕ → ℕ → Ledger) (before mid : Store) (r : R) (e : FrameError) (p n : ℕ) : Type 0 where
  pub live : is_live (ledger_of mid) r ≡ true
  pub apart : is_apart r n ≡ true
  pub over : (after : Store) → Became mid after (joined (ledger_of mid) n r) → Became before after (raised (ledger_of before) r e p n)

abbrev pub Raises : {R : Type 0} → (Ledger → R → Bool) → (R → ℕ → Bool) → (Ledger → ℕ → R → Ledger) → (Ledger → R → FrameError → ℕ → ℕ → Ledger) → Type 0
Raises {R} is_live is_apart joined raised =
    (before mid : Store) (r : R) (e : FrameError) (p n : ℕ) → is_live (ledger_of before) r ≡ true → Fresh (ledger_of before) n → Became before mid (made (ledger_of before) e p n)
    → OverNew is_live is_apart joined raised before mid r e p n
