use Rattle.std.proofs.Common.{refl}
use Rattle.store.proofs.Rows.{collects_as}
use Rattle.store.proofs.store.Store.push.Goals as goal

pub returns-clause-became : goal.returns-clause-became
returns-clause-became c = collects_as c.args.self.now c.args.head c.args.root c.requires.begun c.requires.live _ refl c.append.ensures.means
