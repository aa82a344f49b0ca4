use Rattle.std.proofs.Common.{◌≡◌, Option, Some, None, refl, ap, ◌∙◌}
use Rattle.std.specs.Option.{ok_or}
use Rattle.std.specs.Result.{result_ok}
use Rattle.table_host.proofs.record.Record.named_kind.Goals as goal

ok_of-ok_or : {A E : Type 0} (o : Option A) (e : E) → result_ok (ok_or o e) ≡ o
ok_of-ok_or None e = refl
ok_of-ok_or (Some x) e = refl

pub returns : goal.returns
returns c = c.ok.ensures.value ∙ ap result_ok c.try_from.ensures ∙ ok_of-ok_or _ _
