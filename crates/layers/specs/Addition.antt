-- What a layer does that is asked to add.
use Rattle.std.specs.Prelude.{◌≡◌, ℕ, List, Option, Result}
use Rattle.vocabulary.specs.declared.fault.LayerFault.{LayerFault}
use Rattle.vocabulary.specs.declared.kind.Kind.{Kind}
use Rattle.model.specs.Host.{Errors}
use Rattle.layers.specs.Layer.{wrap_answer, gained}
use Rattle.layers.specs.declared.addition.LayerAddition.{LayerAddition}
use Rattle.layers.specs.declared.addition.LayerAddition.TheVariants.{Wrap, Below}
use Rattle.layers.specs.declared.entries.Entries.{Entries}

-- A wrap is answered as said, and the host gains the error or is as it was; of an addition below no more is said than of
-- any host that gains. `kind` says which kind a value names, and `text` what text a new entry around an error has.
abbrev pub Added : {A : Type 0} → Errors → Errors → Entries → (ℕ → Option Kind) → (ℕ → List ℕ) → LayerAddition A → Result ℕ LayerFault → Type 0
Added before after t kind text (Wrap e v) r = (r ≡ wrap_answer (before e) e (kind v) v t) × ((i : ℕ) → after i ≡ gained before (kind v) (text e) e r i)
Added before after t kind text (Below a) r = Unit {0}
