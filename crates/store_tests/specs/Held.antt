-- A report or basket, or none, of a store. A test and no `ForSome`, by which the calls of cross.rt are not proved.
use Rattle.std.specs.Prelude.{Bool, true, Some, None, Option}
use Rattle.store.specs.Calls.{basket_held, report_held}
use Rattle.store.specs.declared.store.Store.{Store}
use Rattle.store.specs.Token.{Basket, Exn}

abbrev pub report_kept : Store → Option Exn → Bool
report_kept s None = true
report_kept s (Some x) = report_held s x

abbrev pub basket_kept : Store → Option Basket → Bool
basket_kept s None = true
basket_kept s (Some b) = basket_held s b
