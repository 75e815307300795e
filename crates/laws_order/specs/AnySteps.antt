-- All that can happen to two cards on one wire, at any of their lines.
use Rattle.std.specs.Prelude.{◌≡◌, ◌≢◌, ◌<◌, ℕ, Bool, ◌&&◌, not, List, [], ◌∷◌, ◌++◌, flat_map, Result, Ok, Err, if◌then◌else◌}
use Rattle.model_bits.specs.Stream as stream
use Rattle.lapd_frame.specs.declared.faults.ReadFault.{ReadFault}
use Rattle.lapd_frame.specs.declared.senders.Sender.{Sender}
use Rattle.lapd_frame.specs.declared.services.Service.{Service}
use Rattle.lapd_frame.specs.Grammar.{Parts}
use Rattle.lapd_frame.specs.Senders.{reading}
use Rattle.model_line.specs.Came.{came}
use Rattle.model_line.specs.declared.config.Config.{Config}
use Rattle.model_line.specs.Event.{Event, hears, expiry, request, next}
use Rattle.model_line.specs.Heard.{heard_side}
use Rattle.model_card.specs.Event as card
use Rattle.model_card.specs.Machine.{after}
use Rattle.laws_trace.specs.LinkFrames.{is_for}
use Rattle.laws_trace.specs.Trace.{Seen, seen}
use Rattle.laws_trace.specs.Units.{is_ui}
use Rattle.laws_wire.specs.Wire.{Endpoint, Wire, Step, requests, expires, sends, receives, loses, answered, happens, acting, turned}

-- What is of a link: the frames with its SAPI and TEI, but unit data (Q.921 clauses 3.3.3, 3.3.4 and 5.2.2).
abbrev pub is_of_link : Service → ℕ → Parts → Bool
is_of_link service tei f = is_for service tei f.address && not (is_ui f.control)

abbrev pub of_link_in : Service → ℕ → Result Parts ReadFault → List Parts
of_link_in service tei (Ok f) = if is_of_link service tei f then f ∷ [] else []
of_link_in service tei (Err fault) = []

abbrev pub of_link_at : Service → ℕ → Sender → List ℕ → List Parts
of_link_at service tei sender octets = of_link_in service tei (reading sender octets)

-- Any step at an endpoint: one that `Wire` of `laws_wire` has, so that layer 3 or management requests anything, any timer of the line
-- expires, and frames are sent, received or lost; something else is heard on the wire; or anything happens at another line of the card.
pub data AnyStep : Type 0 where
  step : Step → AnyStep
  disturbed : stream.Event → AnyStep
  elsewhere : card.Event → AnyStep

-- What else is heard is no frame of the link: a fault, more octets than a frame has, a frame of TEI management or of another
-- terminal on the line, unit data, or one that can't be read.
abbrev pub IsNotOf : Service → ℕ → Config → stream.Event → Type 0
IsNotOf service tei c (stream.frame octets) = of_link_at service tei (heard_side c) octets ≡ []
IsNotOf service tei c other = Unit {0}

abbrev pub IsElsewhere : Endpoint → card.Event → Type 0
IsElsewhere s e = (e.line < s.card.config.lines) × (e.line ≢ s.line)

abbrev pub IsPossibleAt : Service → ℕ → Endpoint → AnyStep → Type 0
IsPossibleAt service tei s (step act) = Unit {0}
IsPossibleAt service tei s (disturbed what) = IsNotOf service tei s.card.config what
IsPossibleAt service tei s (elsewhere e) = IsElsewhere s e

abbrev pub elsewhere_on : card.Event → Endpoint → Endpoint
elsewhere_on e s = record s { card = after e s.card }

abbrev pub any_acting : AnyStep → Wire → Wire
any_acting (step act) w = acting act w
any_acting (disturbed what) w = record w { near = happens (hears what) w.near }
any_acting (elsewhere e) w = record w { near = elsewhere_on e w.near }

-- The same at either end, and one after the other.
pub data AnyStepAt : Type 0 where
  any_near : AnyStep → AnyStepAt
  any_far : AnyStep → AnyStepAt

abbrev pub IsPossible : Service → ℕ → Wire → AnyStepAt → Type 0
IsPossible service tei w (any_near act) = IsPossibleAt service tei w.near act
IsPossible service tei w (any_far act) = IsPossibleAt service tei w.far act

abbrev pub any_doing : AnyStepAt → Wire → Wire
any_doing (any_near act) w = any_acting act w
any_doing (any_far act) w = turned (any_acting act (turned w))

unfoldable pub any_doing_all : List AnyStepAt → Wire → Wire
any_doing_all [] w = w
any_doing_all (h ∷ hs) w = any_doing_all hs (any_doing h w)

-- What is seen at an end, as `Trace` of `laws_trace` has it: the event at the line of the wire, if there is one, with its answer.
abbrev pub first_heard : ℕ → List (List ℕ) → List Event
first_heard n201 [] = []
first_heard n201 (octets ∷ more) = hears (came n201 octets) ∷ []

abbrev pub events_here : AnyStep → Wire → List Event
events_here (step (requests r)) w = request r ∷ []
events_here (step (expires timer)) w = expiry timer ∷ []
events_here (step sends) w = next ∷ []
events_here (step receives) w = first_heard w.near.card.config.n201 w.far.way
events_here (step loses) w = []
events_here (disturbed what) w = hears what ∷ []
events_here (elsewhere e) w = []

abbrev pub shown_by : Endpoint → Event → List Seen
shown_by s e = seen e (answered e s)

abbrev pub seen_by : AnyStep → Wire → List Seen
seen_by act w = flat_map (shown_by w.near) (events_here act w)

abbrev pub seen_at_near : AnyStepAt → Wire → List Seen
seen_at_near (any_near act) w = seen_by act w
seen_at_near (any_far act) w = []

abbrev pub seen_at_far : AnyStepAt → Wire → List Seen
seen_at_far (any_near act) w = []
seen_at_far (any_far act) w = seen_by act (turned w)

unfoldable pub seen_near : List AnyStepAt → Wire → List Seen
seen_near [] w = []
seen_near (h ∷ hs) w = seen_at_near h w ++ seen_near hs (any_doing h w)

unfoldable pub seen_far : List AnyStepAt → Wire → List Seen
seen_far [] w = []
seen_far (h ∷ hs) w = seen_at_far h w ++ seen_far hs (any_doing h w)
