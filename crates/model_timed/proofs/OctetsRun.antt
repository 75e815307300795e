-- What an event of octets is to the timers of the card of frames inside.
use Rattle.std.proofs.Common.{◌≡◌, ℕ, Bool, true, false, cond, List, [], Option, Some, None, option_map, refl, ap, ◌∙◌}
use Rattle.std.specs.Option.{option_map_or}
use Rattle.lapd_clock.specs.Timer.{Timer, Order}
use Rattle.lapd_frame.specs.declared.refusals.Refusal.{Refusal}
use Rattle.lapd_frame.specs.declared.refusals.Refusal.TheVariants.{PoolFull}
use Rattle.model_bits.specs.Stream as stream
use Rattle.model_line.specs.Effect.{Effect}
use Rattle.model_line.specs.Event as line
use Rattle.model_line.specs.Laws.{orders_in}
use Rattle.model_line.specs.Line.{Line}
use Rattle.model_line.specs.Machine as lines
use Rattle.model_line.specs.Refusal.{refusal}
use Rattle.model_line.specs.Request.{Request}
use Rattle.model_line.specs.declared.config.Config.{Config}
use Rattle.model_card.specs.Card.{Card, line_at}
use Rattle.model_card.specs.Event as frames
use Rattle.model_card.specs.Machine as machine
use Rattle.model_card.specs.ports.Card as ports
use Rattle.model_card.specs.ports.Card.{OctetCard, port_at}
use Rattle.model_card.specs.ports.Event as octets
use Rattle.model_card.specs.ports.Port as port
use Rattle.model_card.specs.ports.Port.{Port}
use Rattle.model_timed.specs.Frames as timed_frames
use Rattle.model_timed.specs.Octets as timed_octets

-- What the card of frames answers to an event that is no call for the next frame, gives none; and to such a call nothing else is
-- answered.
answered : (P : line.Answer → Type 0) (f : frames.Event) (card : Card) → P (line.refused PoolFull) → P (lines.answer card.config f.what (line_at f.line card)) → P (machine.answer f card)
answered P f card full served = (elim (machine.wants_room f card) as (λ b. P (cond b (line.refused PoolFull) (lines.answer card.config f.what (line_at f.line card)))) [
  | true ↦ full
  | false ↦ served
])

abbrev SaysThem : line.Answer → Type 0
SaysThem a = timed_octets.orders_in (port.answer_of a) ≡ orders_in a

abbrev GivesThem : line.Answer → Type 0
GivesThem a = option_map_or port.orders_with (line.given_in a) [] ≡ orders_in a

unless : (o : Option Refusal) (f : Effect) → SaysThem (lines.unless_refused_told o f)
unless None f = refl
unless (Some why) f = refl

heard-says : (c : Config) (x : stream.Event) (l : Line) → SaysThem (lines.answer c (line.hears x) l)
unfolding lines.answer
heard-says c x l = refl

expiry-says : (c : Config) (timer : Timer) (l : Line) → SaysThem (lines.answer c (line.expiry timer) l)
unfolding lines.answer
expiry-says c timer l = refl

request-says : (c : Config) (r : Request) (l : Line) → SaysThem (lines.answer c (line.request r) l)
unfolding lines.answer
request-says c r l = unless (refusal c false r l) (lines.of_request c r l)

next-gives : (c : Config) (l : Line) → GivesThem (lines.answer c line.next l)
unfolding lines.answer
next-gives c l = refl

-- What is ordered, and what becomes of the card, by what the event means.
abbrev orders_by : ℕ → Card → port.Event → Port → Option line.Event → List Order
orders_by number card what p o = timed_octets.orders_in (port.answer what (option_map (ports.answer_to card) (option_map (frames.at number) o)) p)

abbrev card_by : ℕ → Card → Option line.Event → Card
card_by number card o = option_map_or (ports.card_after card) (option_map (frames.at number) o) card

abbrev Means : ℕ → Card → port.Event → Port → Option line.Event → Type 0
Means number card what p None = (orders_by number card what p None ≡ []) × (card_by number card None ≡ card)
Means number card what p (Some f) =
    (orders_by number card what p (Some f) ≡ timed_frames.orders_at (frames.at number f) card) × (card_by number card (Some f) ≡ machine.after (frames.at number f) card)
    × (timed_octets.IsNoExpiry what → timed_frames.IsNoExpiry f)

module _ (number : ℕ) (card : Card) (p : Port) where
  by-octet : (value : ℕ) (g : Option stream.Event) → Means number card (port.octet value) p (option_map line.hears g)
  by-octet value None = (refl, refl)
  by-octet value (Some x) = (answered SaysThem (frames.at number (line.hears x)) card refl (heard-says card.config x (line_at number card)), refl, λ may. tt)

  by-pull : (b : Bool) → Means number card port.pull p (cond b (Some line.next) None)
  by-pull true = (answered GivesThem (frames.at number line.next) card refl (next-gives card.config (line_at number card)), refl, λ may. tt)
  by-pull false = (refl, refl)

  means : (n201 : ℕ) (what : port.Event) → Means number card what p (port.meant n201 what p)
  means n201 (port.octet value) = by-octet value (port.gained n201 p.received value)
  means n201 (port.expiry timer) = (answered SaysThem (frames.at number (line.expiry timer)) card refl (expiry-says card.config timer (line_at number card)), refl, λ may. absurd may)
  means n201 (port.request r) = (answered SaysThem (frames.at number (line.request r)) card refl (request-says card.config r (line_at number card)), refl, λ may. tt)
  means n201 port.pull = by-pull (port.is_due p)

-- So an event of octets either means nothing, and orders nothing; or its orders are those of the event of frames that it means.
abbrev pub OctetsMean : octets.Event → OctetCard → Option frames.Event → Type 0
OctetsMean e m None = (timed_octets.orders_at e m ≡ []) × ((ports.after e m).card ≡ m.card)
OctetsMean e m (Some f) =
    (f.line ≡ e.line) × (timed_octets.orders_at e m ≡ timed_frames.orders_at f m.card) × ((ports.after e m).card ≡ machine.after f m.card)
    × (timed_octets.IsNoExpiry e.what → timed_frames.IsNoExpiry f.what)

over : (number : ℕ) (m : OctetCard) (what : port.Event) (o : Option line.Event) → port.meant m.card.config.n201 what (port_at number m) ≡ o → Means number m.card what (port_at number m) o
    → OctetsMean (octets.at number what) m (option_map (frames.at number) o)
unfolding ports.after ports.answer ports.meant
over number m what None is h = (ap (orders_by number m.card what (port_at number m)) is ∙ h.0, ap (card_by number m.card) is ∙ h.1)
over number m what (Some f) is h = (refl, ap (orders_by number m.card what (port_at number m)) is ∙ h.0, ap (card_by number m.card) is ∙ h.1, h.2)

pub octets-mean : (e : octets.Event) (m : OctetCard) → OctetsMean e m (ports.meant e m)
unfolding ports.meant
octets-mean e m = over e.line m e.what (port.meant m.card.config.n201 e.what (port_at e.line m)) refl (means e.line m.card (port_at e.line m) m.card.config.n201 e.what)
