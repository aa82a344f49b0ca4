use Rattle.buffers.proofs.Printed.{together}
use Rattle.prints.proofs.pieces.put_label.Goals as goal

pub returns : goal.returns
unfolding lib.Utf8.encode
returns c = together _ _ _ _ _ _ _ _ c.put_number-at.ensures.printed c.put.ensures.printed
