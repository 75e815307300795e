-- What the words mean that laws share with the machine.
use Rattle.std.specs.Prelude.{◌≡◌, ℕ, ◌≤◌, ◌<◌, ◌==◌, ◌&&◌, not, Bool, true, false, List, [], ◌∷◌, map, flat_map, All, None, Some, is_some, option_map, if◌then◌else◌}
use Rattle.model_bits.specs.Stream as stream
use Rattle.lapd_count.specs.Counters.{most}
use Rattle.lapd_frame.specs.declared.readings.Reading.TheVariants.{Profile, AnnexB}
use Rattle.lapd_frame.specs.declared.refusals.Refusal.{Refusal}
use Rattle.lapd_frame.specs.declared.services.Service.{Service}
use Rattle.lapd_frame.specs.declared.services.Service.TheVariants.{Call, Packet}
use Rattle.lapd_frame.specs.Readings.{by_reading}
use Rattle.lapd_frame.specs.Services.{sapi_of}
use Rattle.lapd_frame.specs.declared.timers.Order.{Order}
use Rattle.lapd_frame.specs.declared.timers.Timer.{Timer}
use Rattle.model_line.specs.declared.config.Config.{Config}
use Rattle.model_line.specs.Event as line
use Rattle.model_line.specs.Event.{LineTold, NextFrame, told, gave, nothing}
use Rattle.model_line.specs.Laws.{orders_in, cause_in}
use Rattle.model_line.specs.Line.{is_terminal}
use Rattle.model_line.specs.Request.{Request}
use Rattle.model_card.specs.Card.{Card, state}
use Rattle.model_card.specs.Event as frame
use Rattle.model_card.specs.Machine as machine
use Rattle.model_card.specs.Run as frames
use Rattle.model_card.specs.ports.Card as ports
use Rattle.model_card.specs.ports.Card.{OctetCard}
use Rattle.model_card.specs.ports.Codec.{asked_among, asked_in, asked_of, asked_with, heard_at, octet_pulled, octets_come, octets_pulled, IsAnswered, SaysSo}
use Rattle.model_card.specs.ports.Event as octet
use Rattle.model_card.specs.ports.Port as port
use Rattle.model_card.specs.ports.Run as octets
use Rattle.laws_line.specs.Frames.{lost_in}
use Rattle.laws_line.specs.Heard.{contents_in, notes_of}
use Rattle.laws_line.specs.Share.{is_granted}
use Rattle.laws_trace.specs.Managing.{manages}

-- The octet that an event brings, and what it hears.
abbrev pub octet_in : port.Event → List ℕ
octet_in (port.octet value) = value ∷ []
octet_in other = []

abbrev pub heard_in : line.Event → List stream.Event
heard_in (line.hears e) = e ∷ []
heard_in other = []

-- The words are the machine's, so that a change of both would not be seen in another law.
pub record WordsMeanThis : Type 0 where
  -- The orders and the cause that laws find in an answer are all that stand in it.
  pub orders : (t : LineTold) → orders_in (told t) ≡ t.orders
  pub orders_given : (next : NextFrame) → orders_in (gave (Some next)) ≡ next.orders
  pub cause : (t : LineTold) → cause_in (told t) ≡ t.cause
  -- So are the notes, the contents, and how many frames are lost; and what is told to a request grants it.
  pub notes : (t : LineTold) → notes_of (told t) ≡ t.notes
  pub contents : (t : LineTold) → contents_in (told t) ≡ t.contents
  pub lost : (t : LineTold) → lost_in (told t) ≡ t.lost
  pub granted : (t : LineTold) → is_granted (told t) ≡ true
  pub refused : (why : Refusal) → is_granted (line.refused why) ≡ false
  -- A terminal is a user's side with a seed of reference numbers (profile).
  pub terminal : (c : Config) → is_terminal c ≡ (not (manages c.side) && is_some c.seed)
  -- As frames are read, call control has SAPI 0, and the second service 16 (Q.921 clause 3.3.3, table 2).
  pub call : sapi_of Call ≡ 0
  pub packet : sapi_of Packet ≡ 16
  -- A counter of a line is a number of 64 bits, which stays at its greatest value (profile).
  pub greatest : most ≡ 18446744073709551615
  -- Of two that differ the first is the profile's, and the second that of annex B.
  pub readings : (first second : Bool) → (by_reading Profile first second ≡ first) × (by_reading AnnexB first second ≡ second)
  -- `Card::state` tells none for a line that the card has not.
  pub no_line : (card : Card) (number : ℕ) (service : Service) (tei : ℕ) → card.config.lines ≤ number → state number service tei card ≡ None
  -- Laws of a whole card speak of each list of events at lines that the card has.
  pub frames_at_lines : (card : Card) (events : List frame.Event) → All (λ (e : frame.Event). e.line < card.config.lines) events → frames.AreAtLines card events
  pub octets_at_lines : (m : OctetCard) (events : List octet.Event) → All (λ (e : octet.Event). e.line < m.card.config.lines) events → octets.AreAtLines m events

-- What is said to what is meant, or to what means nothing, is the answer.
pub record SaysWhatIsMeant : Type 0 where
  pub told : (what : port.Event) (a : port.Answer) (t : LineTold) → SaysSo what a (Some (line.told t)) → a ≡ port.told t
  pub refused : (what : port.Event) (a : port.Answer) (why : Refusal) → SaysSo what a (Some (line.refused why)) → a ≡ port.refused why
  pub given : (what : port.Event) (a : port.Answer) (next : NextFrame) → SaysSo what a (Some (gave (Some next))) → (value : ℕ) × (a ≡ port.pulled value true next.orders)
  pub none : (what : port.Event) (a : port.Answer) → SaysSo what a (Some (gave None)) → (value : ℕ) × (a ≡ port.pulled value false [])
  pub nothing_ends : (value : ℕ) (a : port.Answer) → SaysSo (port.octet value) a None → a ≡ port.told nothing
  pub nothing_pulled : (a : port.Answer) → SaysSo port.pull a None → (value : ℕ) × (a ≡ port.pulled value false [])

-- So do the words by which a run of octets is a run of frames, and what comes and goes in it.
pub record WordsOfOctetsMeanThis : Type 0 where
  -- The octets that come, and those that pulls give, are those of the events, and of the answers, at the line.
  pub come : (number : ℕ) (events : List octet.Event) → octets_come number events ≡ flat_map (λ (e : octet.Event). if e.line == number then octet_in e.what else []) events
  pub pulled : (number : ℕ) (ms : List octets.Moment) → octets_pulled number ms ≡ flat_map (λ (m : octets.Moment). if m.event.line == number then octet_pulled m.answer else []) ms
  pub gives : (value : ℕ) (begun : Bool) (orders : List Order) → octet_pulled (port.pulled value begun orders) ≡ value ∷ []
  pub none_given : (t : LineTold) → octet_pulled (port.told t) ≡ []
  -- What the card of frames hears at the line is what its events there hear.
  pub heard : (number : ℕ) (events : List frame.Event) → heard_at number events ≡ flat_map (λ (e : frame.Event). if e.line == number then heard_in e.what else []) events
  -- An expiry and a request mean themselves, at their line.
  pub asks : (e : octet.Event) → asked_with e ≡ map (frame.at e.line) (asked_of e.what)
  pub asked : (e : frame.Event) → asked_among e ≡ map (frame.at e.line) (asked_in e.what)
  pub expires : (timer : Timer) → (asked_of (port.expiry timer) ≡ line.expiry timer ∷ []) × (asked_in (line.expiry timer) ≡ line.expiry timer ∷ [])
  pub requests : (r : Request) → (asked_of (port.request r) ≡ line.request r ∷ []) × (asked_in (line.request r) ≡ line.request r ∷ [])
  -- An answer is what the card of frames says to what is meant.
  pub is_answered : (m : octets.Moment) → IsAnswered m → SaysSo m.event.what m.answer (option_map (λ f. machine.answer f m.card.card) (ports.meant m.event m.card))
  pub says : SaysWhatIsMeant
