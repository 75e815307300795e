-- What is promised of a list of events, from a card on, beside what the laws of the trace of a line say of it.
use Rattle.std.specs.Prelude.{◌≡◌, ◌≢◌, ◌<◌, ◌&&◌, false, ℕ, List, All, Ok}
use Rattle.lapd_frame.specs.declared.addresses.Side.TheVariants.{User}
use Rattle.lapd_frame.specs.Grammar.{Parts}
use Rattle.lapd_frame.specs.Senders.{reading}
use Rattle.model_bits.specs.Stream as stream
use Rattle.model_bits.specs.declared.heard.Cause.{Cause}
use Rattle.model_bits.specs.declared.heard.Cause.TheVariants.{Unserved}
use Rattle.model_line.specs.Event.{hears, told, dropped}
use Rattle.model_line.specs.Heard.{heard_side}
use Rattle.model_line.specs.Line.{Line, is_terminal, link_count, place_at, tei_at, link_at}
use Rattle.model_card.specs.Card.{Card, line_at}
use Rattle.model_card.specs.Event.{Event}
use Rattle.model_card.specs.Machine.{after}
use Rattle.model_card.specs.Run.{Moment, moments}

-- Of the links of a line all but one stay as they are, but those of a TEI that comes or leaves;
pub record LinksStay (count : ℕ) (before after : Line) : Type 0 where
  pub one : ℕ
  pub others : (other : ℕ) → other < count → other ≢ one → tei_at (place_at other) after ≡ tei_at (place_at other) before
      → link_at other after ≡ link_at other before

-- and so they do in every moment at the line of the event, and all other lines stay.
pub record LeavesOthers (m : Moment) : Type 0 where
  pub lines : (other : ℕ) → other ≢ m.event.line → line_at other (after m.event m.card) ≡ line_at other m.card
  pub links : LinksStay (link_count m.card.config) (line_at m.event.line m.card) (line_at m.event.line (after m.event m.card))

abbrev pub OthersStay : Card → List Event → Type 0
OthersStay m events = All LeavesOthers (moments m events)

-- Of what is heard and is no frame why it is none is all that is answered; and of a frame of TEI management on the user's side,
-- that serves none, that it is not served: at a trunk's end, and of a response at a terminal.
pub record TellsCause (m : Moment) : Type 0 where
  pub no_frame : (cause : Cause) → m.event.what ≡ hears (stream.dropped cause) → m.answer ≡ told (dropped cause)
  pub management : (octets : List ℕ) (frame : Parts) → m.event.what ≡ hears (stream.frame octets) → reading (heard_side m.card.config) octets ≡ Ok frame
      → m.card.config.side ≡ User → (is_terminal m.card.config && frame.address.command) ≡ false → frame.address.sapi ≡ 63 → frame.address.tei ≡ 127 → m.answer ≡ told (dropped Unserved)

abbrev pub CausesAreTold : Card → List Event → Type 0
CausesAreTold m events = All TellsCause (moments m events)
