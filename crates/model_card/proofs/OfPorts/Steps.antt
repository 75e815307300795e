-- An event at a card of octets is one at one of its ports, and what it means is one at the card of frames.
use Rattle.model_card.proofs.OfPorts.Vocabulary.{arith, ◌≡◌, ◌==◌, ℕ, ◌<◌, Bool, true, false, List, [], ◌∷◌, ◌++◌, length, Option, option_map_or, option_to_list, refl, ◌∙◌, eqb-true, eq-eqb, get_or-set_same, get_or-set_other, length-set, Card, Event, OctetCard, Port, port_at, said, after, after_all, card_after}
use Rattle.model_card.specs.Event as frames
use Rattle.model_card.specs.Machine as machine
use Rattle.model_card.specs.Run as runs
unfoldable use Rattle.model_card.specs.Run.{after_all as frames_after, moments as frame_moments}
use Rattle.model_card.specs.ports.Port as port

-- ---- the card of frames

pub card_step : (card : Card) (o : Option frames.Event) → option_map_or (card_after card) o card ≡ runs.after_all card (option_to_list o)
unfolding frames_after
card_step card o = grind arith

pub config_after : (m : OctetCard) (e : Event) → (after e m).card.config ≡ m.card.config
unfolding after
config_after m e = grind arith

pub config_stays : (m : OctetCard) (events : List Event) → (after_all m events).card.config ≡ m.card.config
unfolding after_all
config_stays m [] = refl
config_stays m (e ∷ events) = config_stays (after e m) events ∙ config_after m e

pub moments-append : (card : Card) (a b : List frames.Event) → runs.moments card (a ++ b) ≡ runs.moments card a ++ runs.moments (runs.after_all card a) b
unfolding frames_after frame_moments
moments-append card [] b = refl
moments-append card (f ∷ a) b = grind (arith, (moments-append (machine.after f card) a b))

-- ---- the ports

pub ports_after : (m : OctetCard) (e : Event) → length (after e m).ports ≡ length m.ports
unfolding after
ports_after m e = length-set m.ports e.line (port.after e.what (said e m) (port_at e.line m))

-- What an event is to one port: nothing if it is at another line.
pub by_port : (m : OctetCard) (e : Event) (number : ℕ) → number < length m.ports → (P : Bool → Port → Port → Type 0)
    → P false (port_at number m) (port_at number m)
    → (e.line ≡ number → P true (port_at e.line m) (port.after e.what (said e m) (port_at e.line m)))
    → P (e.line == number) (port_at number m) (port_at number (after e m))
unfolding after
by_port m e number within P elsewhere here = grind (arith, eq-eqb, get_or-set_other, eqb-true, get_or-set_same)
