-- The law of the codec is its lemma.
use Rattle.model_card.proofs.OfPorts.Codec.{octets_are_a_codec}
use Rattle.model_card.proofs.ports.laws.octets_are_a_codec.Goals as goal

pub returns : goal.returns
returns c = octets_are_a_codec
