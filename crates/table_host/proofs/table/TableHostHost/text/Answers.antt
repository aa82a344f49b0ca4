use Rattle.std.proofs.Common.{refl, ◌∙◌}
use Rattle.table_host.specs.TableLaws.{text_answered, text_put}
use Rattle.table_host.proofs.table.TableHostHost.text.Goals as goal

pub returns : goal.returns
returns c =
    let put = c.fill_front.ensures in
    let read = c.in_ok-record.ensures in
    let bytes = c.as_slice.ensures.value in
    record {
      answered = put.answered ∙ text_answered _ _ _ _ read c.args.part.now _ _ bytes refl;
      filled = put.filled ∙ text_put _ _ _ _ read c.args.part.now _ _ bytes refl;
    }
