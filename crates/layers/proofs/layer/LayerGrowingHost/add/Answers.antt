use Rattle.layers.specs.LayerLaws.{wrap_extends}
use Rattle.layers.proofs.layer.LayerGrowingHost.add.Goals as goal

pub returns-in-Wrap-clause-extends : goal.returns-in-Wrap-clause-extends
returns-in-Wrap-clause-extends g c = wrap_extends _ _ _ _ _ _ _ _ c.wrap.ensures.answered c.wrap.ensures.errors
