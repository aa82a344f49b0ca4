use Rattle.table_host.specs.TableLaws.{source_told}
use Rattle.table_host.proofs.table.TableHostHost.source.Goals as goal

pub returns : goal.returns
returns c = source_told _ _ _ _ c.in_ok-record.ensures
