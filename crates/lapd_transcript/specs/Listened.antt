-- What a listener finds in the octets that a line takes.
use Rattle.std.specs.Prelude.{ℕ, List, ◌++◌, length, drop, filter_map, flat_map, Option, None, Some}
use Rattle.model_bits.specs.Stream as stream
use Rattle.lapd_bits.specs.Deframer as deframing
use Rattle.lapd_bits.specs.declared.deframer.Deframer.{Deframer}
use Rattle.lapd_transcript.specs.Text.{sent_text, frame_text}

-- It finds the frames that end in what the line takes.
abbrev pub frame_in : stream.Event → Option (List ℕ)
frame_in (stream.frame octets) = Some octets
frame_in (stream.overlong head) = None
frame_in (stream.dropped cause) = None

abbrev pub found : List ℕ → List ℕ → List (List ℕ)
found before octets = filter_map frame_in (drop (length (stream.heard_in 1024 before)) (stream.heard_in 1024 (before ++ octets)))

abbrev pub pulled_text : ℕ → List ℕ → List ℕ → List ℕ
pulled_text line before octets = sent_text line octets ++ flat_map (frame_text line) (found before octets)

-- A listener has heard these octets, in which frames have up to 1,024 octets of information (profile).
abbrev pub Hears : Deframer → List ℕ → Type 0
Hears listener taken = deframing.DeframerStands 1024 listener taken
