-- What a marker and an io error have to show as entries of a layer.
use Rattle.std.specs.Prelude.{◌≡◌, ℕ, false, Option, IfSome}
use Rattle.std.proofs.Common.{arith}
use Rattle.vocabulary.specs.Kind.{sourceless}
use Rattle.vocabulary.specs.declared.kind.Kind.{Kind}
use Rattle.layers.specs.Layer.{marker_kind, io_error_kind}

-- whether a number, where it names a kind, names one that may have a source
abbrev pub Wraps : Option Kind → Type 0
Wraps o = IfSome o (λ k. sourceless k ≡ false)

pub marker_wraps : (n : ℕ) → Wraps (marker_kind n)
marker_wraps n = grind arith

pub io_error_wraps : (n : ℕ) → Wraps (io_error_kind n)
io_error_wraps n = grind arith
