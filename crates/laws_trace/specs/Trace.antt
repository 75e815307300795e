-- What an observer of one line of a card sees, in order of time.
use Rattle.std.specs.Prelude.{◌≡◌, ℕ, ◌==◌, ◌<◌, ◌&&◌, Bool, List, [], ◌∷◌, ◌++◌, map, flat_map, Option, option_map, option_to_list, if◌then◌else◌, nat_le}
use Rattle.model_bits.specs.Stream as stream
use Rattle.lapd_frame.specs.declared.notes.Note.{Note}
use Rattle.lapd_frame.specs.declared.services.Service.{Service}
use Rattle.lapd_frame.specs.Services.{same_service}
use Rattle.model_line.specs.declared.config.Config.{Config}
use Rattle.model_line.specs.Event.{Event, hears, expiry, request, next, NextFrame, Answer, told, gave}
use Rattle.model_line.specs.Request.{Request, Data}
use Rattle.model_line.specs.Sound.{IsInRange}
use Rattle.model_card.specs.Card.{fresh}
use Rattle.model_card.specs.Event as card
use Rattle.model_card.specs.Run.{Moment, moments, AreAtLines}

-- A frame is heard, or what is dropped in place of one; a frame begins, of these octets; layer 3 and management are told
-- notes, with contents; a request is granted; and frames are told as lost.
pub data Seen : Type 0 where
  heard : stream.Event → Seen
  begun : List ℕ → Seen
  noted : List Note → Option (List ℕ) → Seen
  granted : Request → Seen
  lost : ℕ → Seen

-- What an answer shows.
abbrev pub seen_told : Answer → List Seen
seen_told (told t) = noted t.notes t.contents ∷ lost t.lost ∷ []
seen_told other = []

abbrev pub seen_granted : Request → Answer → List Seen
seen_granted r (told t) = granted r ∷ []
seen_granted r other = []

-- The frame that it gives, which begins then.
abbrev pub frame_in : Answer → List (List ℕ)
frame_in (gave frame) = option_to_list (option_map (λ (f : NextFrame). f.octets) frame)
frame_in other = []

-- What an event of a line and its answer show: what is heard; a request, whether it is granted; and a call for the next
-- frame the one that begins with it.
abbrev pub seen : Event → Answer → List Seen
seen (hears e) answer = heard e ∷ seen_told answer
seen (expiry timer) answer = seen_told answer
seen (request r) answer = seen_granted r answer ++ seen_told answer
seen next answer = map begun (frame_in answer)

-- A note, a request or a timer of the link of a service with a TEI.
abbrev pub is_own : Service → ℕ → Service → ℕ → Bool
is_own service tei of by = same_service of service && by == tei

-- The data of a link that a request asks for.
abbrev pub data_asked : Service → ℕ → Request → List (List ℕ)
data_asked service tei (Data of by contents) = if is_own service tei of by then contents ∷ [] else []
data_asked service tei other = []

-- What is seen of a line in the moments of a run.
abbrev pub seen_in : ℕ → Moment → List Seen
seen_in number m = if m.event.line == number then seen m.event.what m.answer else []

abbrev pub trace : ℕ → List Moment → List Seen
trace number ms = flat_map (seen_in number) ms

-- The trace of a line of a card, from its start on.
abbrev pub trace_of : Config → List card.Event → ℕ → List Seen
trace_of c events number = trace number (moments (fresh c) events)

-- The frames that begin, in order.
abbrev pub frame_begun : Seen → List (List ℕ)
frame_begun (begun octets) = octets ∷ []
frame_begun other = []

abbrev pub frames_begun : List Seen → List (List ℕ)
frames_begun t = flat_map frame_begun t

-- States 7 and 8 are those of multiple-frame operation; a state is the number that `Card::state` tells (Q.921 annex B).
abbrev pub is_up : ℕ → Bool
is_up state = nat_le 7 state

-- One list is a front of another.
pub record IsFront {X : Type 0} (front whole : List X) : Type 0 where
  pub rest : List X
  pub whole_is : whole ≡ front ++ rest

-- One thing is among others.
pub record IsAmong {X : Type 0} (x : X) (xs : List X) : Type 0 where
  pub front : List X
  pub back : List X
  pub split : xs ≡ front ++ x ∷ back

-- A law of traces: from a fresh card of a configuration in range, for every list of events at its lines, and every line.
abbrev pub Always : (Config → List card.Event → ℕ → Type 0) → Type 0
Always Law = (c : Config) (events : List card.Event) (number : ℕ) → IsInRange c → AreAtLines (fresh c) events → number < c.lines → Law c events number
