-- What a sender has put on its line.
use Rattle.std.specs.Prelude.{ℕ, List, ◌++◌}
use Rattle.model_bits.specs.Framer as framing
use Rattle.model_bits.specs.Sent.{Item}
use Rattle.model_bits.specs.StuffingLaws.{AreOctets}

-- These octets, after those before; all are the beginning of these items.
pub record HasPut (framer : framing.Framing) (before octets : List ℕ) (items : List Item) : Type 0 where
  pub are_octets : AreOctets octets
  pub stands : framing.FramerStands framer items (before ++ octets)
