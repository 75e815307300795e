-- What a receiver hears of a line are frames, and in the end all of them.
use Rattle.std.specs.Prelude.{◌≡◌, ℕ, List, map, All}
use Rattle.model_bits.specs.Stream as stream
use Rattle.model_bits.specs.StuffingLaws.{AreOctets}
use Rattle.model_line.specs.declared.config.Config.{Config}
use Rattle.laws_trace.specs.FramesAreRead.{IsSpelled}
use Rattle.model_card.specs.ports.Event.{Event}
use Rattle.model_card.specs.ports.GoingOut.{as_octets, GoOut, octets_given, frames_to_hear}
use Rattle.laws_trace.specs.octets.Granted.{contents_granted}
use Rattle.laws_trace.specs.octets.Pulled.{EndsInPulls}

-- All that a receiver hears in the octets that a line's pulls gave is a frame, and one that the grammar has, as that of the
-- card's side, of a service or of TEI management (Q.921 clauses 2, 3 and 3.3.3).
abbrev pub IsReadable : Config → stream.Event → Type 0
IsReadable c (stream.frame octets) = IsSpelled c octets
IsReadable c other = ⊥

abbrev pub OnlyFramesAreHeard : Config → List Event → ℕ → Type 0
OnlyFramesAreHeard c events number = All (IsReadable c) (stream.heard_in c.n201 (octets_given c events number))

-- Where the contents that are granted are octets, each 0 to 255, so are the frames that the card of frames gives, whoever sent
-- what they answer; and a receiver hears them as they are.
abbrev pub GivenAreOctets : Config → List Event → ℕ → Type 0
GivenAreOctets c events number = All AreOctets (contents_granted c events number) → All AreOctets (frames_to_hear c events number)

abbrev pub GoOutAsTheyAre : Config → List Event → ℕ → Type 0
GoOutAsTheyAre c events number =
    All AreOctets (contents_granted c events number) → GoOut c.n201 (octets_given c events number) (frames_to_hear c events number)

-- Once the line was only pulled, a receiver has heard them all: none is on its way.
abbrev pub AllFramesGoOut : Config → List Event → ℕ → Type 0
AllFramesGoOut c events number =
    EndsInPulls c events number → map stream.frame (map as_octets (frames_to_hear c events number)) ≡ stream.heard_in c.n201 (octets_given c events number)
