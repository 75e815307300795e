-- Worked values: what is counted of a run, and counters that count nothing, which break the law.
use Rattle.std.specs.Prelude.{◌≡◌, ℕ, List, [], ◌∷◌, ◌++◌, flat_map, refl}
use Rattle.model_bits.specs.Stream.{frame, dropped}
use Rattle.model_bits.specs.declared.heard.Cause.TheVariants.{Fcs}
use Rattle.lapd_count.specs.declared.counter.Counter.{Counter}
use Rattle.lapd_count.specs.declared.counter.Counter.TheVariants.{Frames, Octets, Dropped, EstablishIndications, Lost, Messages}
use Rattle.lapd_count.specs.declared.counter.Way.TheVariants.{Heard, Begun}
use Rattle.lapd_count.specs.declared.kinds.Kind.TheVariants.{Sabme, Ua}
use Rattle.lapd_count.specs.declared.messages.MessageType.TheVariants.{IdentityRequest, IdentityAssigned, IdentityDenied}
use Rattle.lapd_count.specs.Counters.{More, amount_in}
use Rattle.lapd_frame.specs.Reading.{reading, header_of, control_of, unnumbered_of}
use Rattle.lapd_frame.specs.Senders.{exchanged, reading as read_by}
use Rattle.model_teis.specs.network.Events as teis
use Rattle.model_line.specs.declared.config.Config.{Config}
use Rattle.model_line.specs.Event as line_event
use Rattle.model_line.specs.Event.{hears, told, nothing}
use Rattle.model_line.specs.Machine as lines
use Rattle.model_card.specs.Card.{fresh}
use Rattle.model_card.specs.Event.{Event}
use Rattle.model_card.specs.Run.{Moment, moments}
use Rattle.laws_line.specs.card.Worked.{usual, up}
use Rattle.laws_trace.specs.CountersCount.{names}
use Rattle.laws_trace.specs.WorkedUnits.{calls, frame_comes}

-- The names of what is seen of a line.
abbrev named_of : Config → List Event → List More
named_of c events = flat_map (λ (m : Moment). names c.side m.event.what m.answer) (moments (fresh c) events)

-- SABME of TEI 64, and two calls for the next frame: its UA goes.
abbrev seen_of : Counter → ℕ
seen_of counter = amount_in counter (named_of usual (up ++ calls 2))

one_sabme : seen_of (Frames Heard Sabme) ≡ 1
unfolding moments lines.after lines.answer lines.takes_slot teis.course teis.refusal exchanged read_by reading header_of control_of unnumbered_of
one_sabme = refl

one_ua : seen_of (Frames Begun Ua) ≡ 1
unfolding moments lines.after lines.answer lines.takes_slot teis.course teis.refusal exchanged read_by reading header_of control_of unnumbered_of
one_ua = refl

its_octets : seen_of (Octets Begun) ≡ 3
unfolding moments lines.after lines.answer lines.takes_slot teis.course teis.refusal exchanged read_by reading header_of control_of unnumbered_of
its_octets = refl

one_noted : seen_of EstablishIndications ≡ 1
unfolding moments lines.after lines.answer lines.takes_slot teis.course teis.refusal exchanged read_by reading header_of control_of unnumbered_of
one_noted = refl

-- On a line with room for one TEI a terminal asks for one, and gets it; another asks, and is denied one.
abbrev small : Config
small = record usual { terminals = 1 }

abbrev asks : ℕ → Event
asks ri = frame_comes (0xFC ∷ 0xFF ∷ 0x03 ∷ 0x0F ∷ 0x12 ∷ ri ∷ 0x01 ∷ 0xFF ∷ [])

abbrev managed : Counter → ℕ
managed counter = amount_in counter (named_of small (asks 1 ∷ asks 2 ∷ calls 3))

two_requests : managed (Messages Heard IdentityRequest) ≡ 2
unfolding moments lines.after lines.answer lines.takes_slot teis.course teis.refusal exchanged read_by reading header_of control_of unnumbered_of
two_requests = refl

one_assigned : managed (Messages Begun IdentityAssigned) ≡ 1
unfolding moments lines.after lines.answer lines.takes_slot teis.course teis.refusal exchanged read_by reading header_of control_of unnumbered_of
one_assigned = refl

one_denied : managed (Messages Begun IdentityDenied) ≡ 1
unfolding moments lines.after lines.answer lines.takes_slot teis.course teis.refusal exchanged read_by reading header_of control_of unnumbered_of
one_denied = refl

-- Where SABME is heard, and the event shows nothing, the law is broken.
abbrev heard_sabme : List More
heard_sabme = names usual.side (hears (frame (0x00 ∷ 0x81 ∷ 0x7F ∷ []))) (told nothing)

none_shown : [] ≡ heard_sabme → ⊥
unfolding control_of unnumbered_of
none_shown e = cc e

-- What is dropped is counted by its cause, and what is lost by how much it is.
one_drop : names usual.side (hears (dropped Fcs)) (told (line_event.dropped Fcs)) ≡ (Dropped Fcs, 1) ∷ []
one_drop = refl

two_lost : names usual.side (hears (dropped Fcs)) (told (record nothing { lost = 2 })) ≡ (Lost, 2) ∷ []
two_lost = refl
