use Rattle.std.proofs.Common.{◌≡◌, Some, rules}
use Rattle.vocabulary.specs.IoKind.{io_kind_at}
use Rattle.drive_host.proofs.drive.DriveHostHost.kind.Goals as goal

pub returns-in-0-to-15 : goal.returns-in-0-to-15
returns-in-0-to-15 c =
    let named : io_kind_at c.args.error ≡ Some c.unwrap.result = search rules in
    search rules
