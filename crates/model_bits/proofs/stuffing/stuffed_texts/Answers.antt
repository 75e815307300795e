-- The law is that of StuffingShape.
use Rattle.model_bits.proofs.StuffingShape.{stuffed_where_shaped}
use Rattle.model_bits.proofs.stuffing.stuffed_texts.Goals as goal

pub returns : goal.returns
returns c = stuffed_where_shaped
