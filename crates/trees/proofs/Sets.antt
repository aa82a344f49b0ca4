-- What the contracts speak of are sets.
use Rattle.std.proofs.Common.{Option}
use mathlib.Core.Sum.{⊎_set}
use mathlib.Core.List
use native.Mathlib.Nat.{ℕ_set}
use Rattle.vocabulary.specs.declared.frame_error.FrameError.{FrameError}
use Rattle.trees.specs.Trees.{Tree, Forest, Forest_is_set, Listing}

pub option_set : {A : Type 0} → IsSet A → IsSet (Option A)
option_set s = hlevel ⊎_set

pub error_set : IsSet FrameError
error_set = hlevel ℕ_set

pub forest_set : IsSet Forest
forest_set = Forest_is_set error_set ℕ_set

pub report_set : IsSet (Option Tree)
report_set = hlevel (option_set, error_set, ℕ_set, forest_set)

pub row_set : IsSet (Option Listing)
row_set = hlevel (option_set, List.is_set, error_set, ℕ_set, forest_set)
