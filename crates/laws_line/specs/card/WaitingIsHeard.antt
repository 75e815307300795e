-- Frames are heard in octets beyond what was heard before.
use Rattle.std.specs.Prelude.{◌≡◌, ℕ, List, ◌++◌, map}
use Rattle.model_bits.specs.Stream as stream
use Rattle.laws_line.specs.card.Among.{AreAmong}

-- These frames are among those that a receiver hears in octets beyond what was heard in a beginning of them.
pub record AreHeardSince (n201 : ℕ) (before octets : List ℕ) (frames : List (List ℕ)) : Type 0 where
  pub since : List stream.Event
  pub goes_on : stream.heard_in n201 octets ≡ stream.heard_in n201 before ++ since
  pub among : AreAmong (map stream.frame frames) since
