-- After noise frames come again: each that an end puts on its line is received.
use Rattle.std.specs.Prelude.{◌≡◌, ◌≤◌, ℕ, ◌+◌, List, ◌∷◌, ◌++◌, length, map, drop, All}
use Rattle.model_bits.specs.Stream as stream
use Rattle.model_card.specs.ports.Codec.{frames_among}
use Rattle.laws_order.specs.circuit.Beats.{longest}
use Rattle.laws_order.specs.circuit.Circuit.{port_of}
use Rattle.laws_time.specs.circuit.Clocked.{TimedEndpoint, Beat, after}
use Rattle.laws_time.specs.circuit.LongEnough.{Line, IsTalk, AreClear, begins}
use Rattle.laws_time.specs.circuit.Answered.{IsClean, begun}
use Rattle.laws_time.specs.circuit.InBeats.{Begins, AreShort}

-- The frames that an end put on its line between two times.
abbrev pub put_since : TimedEndpoint → TimedEndpoint → List (List ℕ)
put_since from s = drop (length (frames_among (port_of from.at).items)) (frames_among (port_of s.at).items)

-- They stand in what the other end has received since then, in order, and nothing is heard between them.
abbrev pub HasReceivedSince : Line → TimedEndpoint → TimedEndpoint → TimedEndpoint → TimedEndpoint → Type 0
HasReceivedSince l from s other_from other =
    (before more : List stream.Event)
    × (stream.heard_in l.near.n201 (port_of other.at).received
    ≡ stream.heard_in l.near.n201 (port_of other_from.at).received ++ (before ++ (map (λ octets. stream.frame octets) (put_since from s) ++ more)))

-- Noise may have been of any kind. From the end of the first beat without noise on so it is of each frame, L + D beats after it was put there, if
-- L is the longest of the frames that went by then.
abbrev pub FramesComeAfterNoise : Type 0
FramesComeAfterNoise =
    (l : Line) (noisy bs more : List Beat) (b : Beat) (m : ℕ) → Begins l → All (IsTalk l) (noisy ++ b ∷ (bs ++ more)) → All IsClean (b ∷ (bs ++ more)) →
    longest m + l.way ≤ length more → let v = begun l noisy b in let w = after l.rate bs v in let u = after l.rate more w in AreShort m w.near → AreShort m w.far →
    HasReceivedSince l v.near w.near v.far u.far × HasReceivedSince l v.far w.far v.near u.near

-- L + 1 beats after noise has ended none of the octets that are heard makes a frame with noise: each frame that is heard stood in what the other
-- end gave.
abbrev pub NoiseMakesNoFrameAfter : Type 0
NoiseMakesNoFrameAfter =
    (l : Line) (noisy quiet bs : List Beat) → Begins l → All (IsTalk l) (noisy ++ (quiet ++ bs)) → All IsClean (quiet ++ bs) →
    longest l.near.n201 + 1 ≤ length quiet → AreClear l bs (after l.rate (noisy ++ quiet) (begins l))
