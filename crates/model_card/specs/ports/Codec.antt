-- The law of the codec: a run of octets is, at the card of frames inside, the run of the frame events that it means, moment
-- by moment, and its answers are made of those of the card of frames. What is heard is exactly what stands in the octets
-- received, and what is given is exactly what stands in the octets put on the line.
use Rattle.std.specs.Prelude.{◌≡◌, ℕ, ◌==◌, ◌<◌, true, false, List, [], ◌∷◌, ◌++◌, map, flat_map, All, Option, Some, None, option_map, option_to_list, if◌then◌else◌}
use Rattle.model_bits.specs.Bits.{bits}
use Rattle.model_bits.specs.Sent.{Item, idle, frame, line_text}
use Rattle.model_bits.specs.Stream as stream
use Rattle.model_line.specs.Event as line
use Rattle.model_line.specs.Event.{nothing}
use Rattle.model_card.specs.Event as frames
use Rattle.model_card.specs.Machine as machine
use Rattle.model_card.specs.Run as runs
use Rattle.model_card.specs.Takes.{frames_given}
use Rattle.model_card.specs.ports.Event.{Event}
use Rattle.model_card.specs.ports.Port as port
use Rattle.model_card.specs.ports.Port.{Answer, Port, left_of}
use Rattle.model_card.specs.ports.Card.{OctetCard, meant, port_at}
use Rattle.model_card.specs.ports.Run.{Moment, moments, after_all, meant_all, AreAtLines}

-- The moment of the card of frames that a moment means, if it means one.
abbrev pub frame_moment : OctetCard → frames.Event → runs.Moment
frame_moment m f = record { card = m.card; event = f; answer = machine.answer f m.card }

abbrev pub meant_in : Moment → List runs.Moment
meant_in moment = option_to_list (option_map (frame_moment moment.card) (meant moment.event moment.card))

-- The expiries and requests among events of octets, each at its line; and those among events of frames.
abbrev pub asked_of : port.Event → List line.Event
asked_of (port.expiry timer) = line.expiry timer ∷ []
asked_of (port.request r) = line.request r ∷ []
asked_of other = []

abbrev pub asked_in : line.Event → List line.Event
asked_in (line.expiry timer) = line.expiry timer ∷ []
asked_in (line.request r) = line.request r ∷ []
asked_in other = []

abbrev pub asked_with : Event → List frames.Event
asked_with e = map (frames.at e.line) (asked_of e.what)

abbrev pub asked_among : frames.Event → List frames.Event
asked_among f = map (frames.at f.line) (asked_in f.what)

-- What an answer is made of: what the card of frames said to what was meant. A pull, and nothing else, calls for the next frame; its
-- answer also has the octet that goes.
abbrev pub Says : port.Event → Answer → line.Answer → Type 0
Says what a (line.told t) = a ≡ port.told t
Says what a (line.refused why) = a ≡ port.refused why
Says what a (line.gave None) = (what ≡ port.pull) × (value : ℕ) × (a ≡ port.pulled value false [])
Says what a (line.gave (Some next)) = (what ≡ port.pull) × (value : ℕ) × (a ≡ port.pulled value true next.orders)

-- An octet that ends nothing tells nothing, nor does a pull with which no frame is called for.
abbrev pub SaysNothing : port.Event → Answer → Type 0
SaysNothing (port.octet value) a = a ≡ port.told nothing
SaysNothing port.pull a = (value : ℕ) × (a ≡ port.pulled value false [])
SaysNothing other a = ⊥

abbrev pub SaysSo : port.Event → Answer → Option line.Answer → Type 0
SaysSo what a None = SaysNothing what a
SaysSo what a (Some said) = Says what a said

-- To what an event means, the card of frames says what its machine answers.
abbrev pub IsAnswered : Moment → Type 0
IsAnswered moment = SaysSo moment.event.what moment.answer (option_map (λ f. machine.answer f moment.card.card) (meant moment.event moment.card))

pub record Refines (m : OctetCard) (events : List Event) : Type 0 where
  pub asked : flat_map asked_among (meant_all m events) ≡ flat_map asked_with events
  pub answered : All IsAnswered (moments m events)
  pub card : (after_all m events).card ≡ runs.after_all m.card (meant_all m events)
  pub moments : flat_map meant_in (moments m events) ≡ runs.moments m.card (meant_all m events)
  pub at_lines : AreAtLines m events → runs.AreAtLines m.card (meant_all m events)

-- What a list of events of frames has at a line: what is heard there.
abbrev pub heard_by : line.Event → List stream.Event
heard_by (line.hears e) = e ∷ []
heard_by other = []

abbrev pub heard_of : ℕ → frames.Event → List stream.Event
heard_of number e = if e.line == number then heard_by e.what else []

abbrev pub heard_at : ℕ → List frames.Event → List stream.Event
heard_at number events = flat_map (heard_of number) events

-- The frames among the items of a line.
abbrev pub frames_among : List Item → List (List ℕ)
frames_among [] = []
frames_among (idle ∷ items) = frames_among items
frames_among (frame octets ∷ items) = octets ∷ frames_among items

-- The octets of a list of events that come at a line, and those that its pulls give.
abbrev pub octet_come : port.Event → List ℕ
octet_come (port.octet value) = value ∷ []
octet_come other = []

abbrev pub come_of : ℕ → Event → List ℕ
come_of number e = if e.line == number then octet_come e.what else []

abbrev pub octets_come : ℕ → List Event → List ℕ
octets_come number events = flat_map (come_of number) events

abbrev pub octet_pulled : Answer → List ℕ
octet_pulled (port.told t) = []
octet_pulled (port.refused why) = []
octet_pulled (port.pulled value begun orders) = value ∷ []

abbrev pub pulled_of : ℕ → Moment → List ℕ
pulled_of number m = if m.event.line == number then octet_pulled m.answer else []

abbrev pub octets_pulled : ℕ → List Moment → List ℕ
octets_pulled number ms = flat_map (pulled_of number) ms

-- The octets given are a beginning of the text of the items.
pub record IsTextOf (p : Port) : Type 0 where
  pub text : line_text p.items ≡ bits p.given ++ left_of p

-- A line's port goes on: it has received the octets that came, and what is heard in all of them has grown by what the card
-- of frames heard there; its pulls have given octets of its text, which has grown by items of which the frames are those that
-- the card of frames gave there.
pub record GoesOn (n201 : ℕ) (old new : Port) (come : List ℕ) (events : List stream.Event) (pulled : List ℕ) (frames_out : List (List ℕ)) : Type 0 where
  pub received : new.received ≡ old.received ++ come
  pub heard : stream.heard_in n201 new.received ≡ stream.heard_in n201 old.received ++ events
  pub items : List Item
  pub put : new.items ≡ old.items ++ items
  pub given : new.given ≡ old.given ++ pulled
  pub frames : frames_among items ≡ frames_out
  pub text : IsTextOf old → IsTextOf new

abbrev pub PortGoesOn : OctetCard → List Event → ℕ → Type 0
PortGoesOn m events number =
    GoesOn m.card.config.n201 (port_at number m) (port_at number (after_all m events))
    (octets_come number events) (heard_at number (meant_all m events))
    (octets_pulled number (moments m events)) (frames_given number (runs.moments m.card (meant_all m events)))

pub record IsCodec (m : OctetCard) (events : List Event) : Type 0 where
  pub run : Refines m events
  pub ports : (number : ℕ) → number < m.card.config.lines → PortGoesOn m events number
