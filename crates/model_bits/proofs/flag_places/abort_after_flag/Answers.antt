-- The law is that of FlagPlaces.
use Rattle.model_bits.proofs.FlagPlaces.{first_abort_after_flag}
use Rattle.model_bits.proofs.flag_places.abort_after_flag.Goals as goal

pub returns : goal.returns
returns c = first_abort_after_flag
