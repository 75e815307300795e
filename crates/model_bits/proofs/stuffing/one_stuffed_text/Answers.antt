-- The laws are those of StuffingShape.
use Rattle.model_bits.proofs.StuffingShape.{unstuffed-stuffed, stuffed_once}
use Rattle.model_bits.proofs.stuffing.one_stuffed_text.Goals as goal

pub returns-clause-come_back : goal.returns-clause-come_back
returns-clause-come_back c = unstuffed-stuffed

pub returns-clause-one_text_each : goal.returns-clause-one_text_each
returns-clause-one_text_each c = stuffed_once
