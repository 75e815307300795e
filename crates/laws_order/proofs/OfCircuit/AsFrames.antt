-- What happens at an end of a circuit, as the card of frames inside has it.
use Rattle.laws_order.proofs.Vocabulary.{arith, ◌≡◌, ℕ, List, [], Option, None, Some, option_map, append-nil, answer_of, Endpoint, Request, port_pull, port_request, PortEvent, port_octet, port_meant, card_answer}
use Rattle.model_line.specs.Event as line
unfoldable use Rattle.model_line.specs.Machine.{answer as line_answer, takes_slot}
use Rattle.model_card.specs.Event as frames
unfoldable use Rattle.model_card.specs.ports.Card.{after, answer, meant}
use Rattle.laws_line.specs.Share as share
use Rattle.laws_wire.specs.Wire as wire
use Rattle.laws_order.specs.circuit.Circuit.{Endpoint as OctetEndpoint, port_of, happens, answered, unless_refused}
use Rattle.laws_order.specs.circuit.Through.{is_granted}

-- An end as one of frames, with the frames on its way.
abbrev pub as_endpoint : List (List ℕ) → OctetEndpoint → Endpoint
as_endpoint way s = record { card = s.card.card; line = s.line; way = way; granted = s.granted; told = s.told }

-- What an event means there, and what comes of that.
abbrev pub meaning : PortEvent → OctetEndpoint → Option line.Event
meaning what s = port_meant s.card.card.config.n201 what (port_of s)

abbrev pub if_meant : Option line.Event → Endpoint → Endpoint
if_meant None x = x
if_meant (Some f) x = wire.happens f x

-- An end is as the card of frames has it.
abbrev IsAs : OctetEndpoint → Endpoint → Type 0
IsAs s x = as_endpoint x.way s ≡ x

-- what is told and granted by an answer
none-granted : (a : line.Answer) → unless_refused (answer_of a) [] ≡ wire.unless_refused a []
none-granted a = grind arith

pub heard-as : (value : ℕ) (s : OctetEndpoint) (way : List (List ℕ)) → as_endpoint way (happens (port_octet value) s) ≡ if_meant (meaning (port_octet value) s) (as_endpoint way s)
unfolding after answer meant line_answer takes_slot
heard-as value s way = grind (arith, option_map, append-nil, none-granted)

-- A request is told or refused, and gives no frame.
abbrev IsReply : line.Answer → Type 0
IsReply a =
    (wire.frames_by a ≡ []) × ((contents : List (List ℕ)) → unless_refused (answer_of a) contents ≡ wire.unless_refused a contents)
    × (is_granted (answer_of a) ≡ share.is_granted a)

replied : (s : OctetEndpoint) (r : Request) → IsReply (card_answer (frames.at s.line (line.request r)) s.card.card)
unfolding line_answer
replied s r = grind arith

pub asked-as : (r : Request) (s : OctetEndpoint) (way : List (List ℕ)) → as_endpoint way (happens (port_request r) s) ≡ wire.happens (line.request r) (as_endpoint way s)
unfolding after answer meant
asked-as r s way = grind (arith, replied, append-nil)

-- it is granted or refused there as well
pub granted-as : (r : Request) (s : OctetEndpoint) (way : List (List ℕ)) → is_granted (answered (port_request r) s) ≡ share.is_granted (wire.answered (line.request r) (as_endpoint way s))
unfolding answer meant
granted-as r s way = (replied s r).2

pub pulled-as : (s : OctetEndpoint) (way : List (List ℕ)) → IsAs (happens port_pull s) (if_meant (meaning port_pull s) (as_endpoint way s))
unfolding after answer meant line_answer takes_slot
pulled-as s way = grind (arith, option_map, append-nil)
