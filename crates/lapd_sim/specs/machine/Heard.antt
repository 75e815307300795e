-- What terminals send and what lines take, as a receiver of the line's octets hears it.
use Rattle.std.specs.Prelude.{◌≡◌, ℕ, List, [], ◌∷◌, ◌++◌, All, map, filter_map}
use Rattle.model_bits.specs.RoundTrip.{IsHeardWhole}
use Rattle.model_bits.specs.Stream as stream
use Rattle.lapd_transcript.specs.Terminal.{Terminal, octets_sent, after_sending}
use Rattle.lapd_transcript.specs.Listened.{frame_in, found}

-- All the octets that a terminal puts on its line for frames, one after the other.
abbrev pub all_sent : List (List ℕ) → Terminal → List ℕ
all_sent [] t = []
all_sent (octets ∷ frames) t = octets_sent octets t ++ all_sent frames (after_sending octets t)

pub record FramesAreHeard : Type 0 where
  -- What a terminal has put on its line since it began is heard as exactly the frames that it was told to send, in
  -- order, by a receiver that takes each of them for a whole frame: after each `in` its frame has been heard.
  pub sent : (n201 : ℕ) (frames : List (List ℕ)) → All (IsHeardWhole n201) frames
      → stream.heard_in n201 (all_sent frames (record { items = []; given = 0 })) ≡ map stream.frame frames
  -- The frames that are found in pulls, one after the other, are those that are heard in all that the line took: none
  -- is found twice, and none is missed between two pulls.
  pub found_all : (octets : List ℕ) → found [] octets ≡ filter_map frame_in (stream.heard_in 1024 octets)
  pub found_on : (past first more : List ℕ) → found past (first ++ more) ≡ found past first ++ found (past ++ first) more
