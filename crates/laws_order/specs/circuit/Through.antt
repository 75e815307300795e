-- A call between two cards of octets: what layer 3 of each asks for, and what it is told.
use Rattle.std.specs.Prelude.{◌≡◌, ℕ, Bool, true, false, ◌||◌, List, [], ◌∷◌, ◌++◌, map, All, None}
use Rattle.lapd_frame.specs.declared.services.Service.{Service}
use Rattle.model_bits.specs.Sent.{Item, idle}
use Rattle.model_bits.specs.StuffingLaws.{AreOctets}
use Rattle.model_line.specs.declared.config.Config.{Config}
use Rattle.model_line.specs.Event.{LineTold, next, gave}
use Rattle.model_line.specs.Request.{Request, Establish, Data, Assign}
use Rattle.model_card.specs.Event as frames
use Rattle.model_card.specs.Machine as machine
use Rattle.model_card.specs.ports.Card.{fresh}
use Rattle.model_card.specs.ports.Port as port
use Rattle.model_card.specs.ports.Port.{request, Answer}
use Rattle.laws_wire.specs.Call.{CanCall, ToldInOrder, confirmed, told_first, data_told}
use Rattle.laws_order.specs.circuit.Circuit.{Endpoint, port_of, Circuit, happens, answered, Step, requests, sends, receives, StepAt, at_near, at_far, doing, doing_all}

-- A card that has just begun, at one of its lines; it has the TEI assigned; and two such, of which one is asked to establish.
abbrev pub octet_endpoint : Config → ℕ → Endpoint
octet_endpoint c line = record { card = fresh c; line = line; way = []; granted = []; told = [] }

abbrev pub assigned : Config → ℕ → ℕ → Endpoint
assigned c line tei = happens (request (Assign tei)) (octet_endpoint c line)

abbrev pub calling : Service → ℕ → Config → ℕ → Config → ℕ → Circuit
calling service tei c line d other =
    record { near = happens (request (Establish service tei)) (assigned c line tei); far = assigned d other tei }

-- What is done in a call: either layer 3 asks to establish the link, or to send octets as data, and is granted or refused; and
-- octets are pulled and heard.
abbrev pub IsAsked : Service → ℕ → Request → Type 0
IsAsked service tei (Establish s t) = (s ≡ service) × (t ≡ tei)
IsAsked service tei (Data s t contents) = (s ≡ service) × (t ≡ tei) × AreOctets contents
IsAsked service tei other = ⊥

abbrev pub IsTalkOf : Service → ℕ → Step → Type 0
IsTalkOf service tei (requests r) = IsAsked service tei r
IsTalkOf service tei sends = Unit {0}
IsTalkOf service tei receives = Unit {0}

abbrev pub IsTalk : Service → ℕ → StepAt → Type 0
IsTalk service tei (at_near act) = IsTalkOf service tei act
IsTalk service tei (at_far act) = IsTalkOf service tei act

-- Whether layer 3 of the far end was granted an establishment, too: then both ends call. Once SABME has come it is refused.
abbrev pub is_granted : Answer → Bool
is_granted (port.told t) = true
is_granted (port.refused why) = false
is_granted (port.pulled value begun orders) = false

abbrev pub calls_back : StepAt → Circuit → Bool
calls_back (at_far (requests (Establish s t))) w = is_granted (answered (request (Establish s t)) w.far)
calls_back other w = false

unfoldable pub both_call : List StepAt → Circuit → Bool
both_call [] w = false
both_call (d ∷ ds) w = calls_back d w || both_call ds (doing d w)

-- All that an end had to send has gone: no frame waits, what was put on its line last is an idle flag, and each octet that it
-- gave was heard.
pub record HasGone (s : Endpoint) : Type 0 where
  pub none : machine.answer (frames.at s.line next) s.card.card ≡ gave None
  pub flag : (front : List Item) × ((port_of s).items ≡ front ++ idle ∷ [])
  pub heard : s.way ≡ []

abbrev pub HasAllGone : Circuit → Type 0
HasAllGone w = HasGone w.near × HasGone w.far

-- One establishment, and then the data that the other was granted to send, in order, and nothing else: at any time layer 3 of
-- each was told a beginning of that, and all of it where all has gone.
abbrev pub all_told : Service → ℕ → LineTold → Endpoint → List LineTold
all_told service tei first other = first ∷ map (data_told service tei) other.granted

pub record ComesThrough (service : Service) (tei : ℕ) (both : Bool) (w : Circuit) : Type 0 where
  pub near : ToldInOrder (HasAllGone w) (all_told service tei (confirmed service tei) w.far) w.near.told
  pub far : ToldInOrder (HasAllGone w) (all_told service tei (told_first service tei both) w.near) w.far.told

abbrev pub CallsComeThroughInOctets : Type 0
CallsComeThroughInOctets =
    (service : Service) (c d : Config) (line other tei : ℕ) (ds : List StepAt) → CanCall c line d other tei → All (IsTalk service tei) ds →
    let w = calling service tei c line d other in ComesThrough service tei (both_call ds w) (doing_all ds w)
