-- A card of octets is sound as it begins, and each event keeps it so.
use Rattle.model_card.proofs.OfPorts.Vocabulary.{◌≡◌, ℕ, ◌+◌, ◌≤◌, ◌<◌, Bool, true, false, List, [], ◌∷◌, length, Option, None, Some, IfSome, option_map, option_map_or, refl, ap, sym, ◌∙◌, subst, cond, arith, length-replicate, All, All-get_or, All-head, All-nil, All-push, All-replicate, All-set, All-tail, Item, item_octets, IsInRange, Config, Card, CardsStaySound, Event, IsSoundOctetCard}
use Rattle.model_card.proofs.OfPorts.Vocabulary.{IsSoundPort, IsAtLine, AreAtLines, OctetCard, Port, after, after_all, card_after, fresh, with_fresh_ports, fresh_port, given_in, is_due, item_of, meant, port_at, pull, said, with_item, with_octet, Line, NextFrame, Taken, line_at, next_of, taken}
use Rattle.model_card.specs.Event as frames
use Rattle.model_card.specs.Card.{fresh as fresh_frames}
use Rattle.model_card.specs.Sound as cards
use Rattle.model_card.proofs.CardSound.{after_is_sound, fresh_is_sound}
use Rattle.model_card.proofs.Steps.{has_lines, line_sound}
use Rattle.model_line.specs.Event as line
unfoldable use Rattle.model_line.specs.Machine.{answer as line_answer, takes_slot}
use Rattle.model_line.proofs.TakenSound.{TakesSoundly, taken_sound}
use Rattle.model_card.specs.ports.Port as port
use Rattle.model_card.proofs.OfPorts.Codec.{asked_at, own_port, said_is}
use Rattle.model_card.proofs.OfPorts.Steps.{config_after, ports_after}

-- ---- a port

-- an item of a port has at most the longest frame's octets
abbrev pub IsShort : ℕ → Item → Type 0
IsShort n201 item = item_octets item ≤ n201 + 4

-- What a line gives is such a frame.
abbrev pub GivesShort : ℕ → (line.Event → line.Answer) → Type 0
GivesShort n201 ask = IfSome (given_in (ask line.next)) (λ next. length next.octets ≤ n201 + 4)

pub item_short : (n201 : ℕ) (g : Option NextFrame) → IfSome g (λ next. length next.octets ≤ n201 + 4) → IsShort n201 (item_of g)
item_short n201 g h = grind arith

sizes_after : (n201 : ℕ) (e : port.Event) (p : Port) (ask : line.Event → line.Answer) → GivesShort n201 ask → All (IsShort n201) p.items
    → All (IsShort n201) (port.after e (option_map ask (port.meant n201 e p)) p).items
sizes_after n201 pull p ask short sizes = go (is_due p)
  where
    go : (due : Bool) → All (IsShort n201) (with_octet (with_item (option_map ask (cond due (Some line.next) None)) p)).items
    go false = sizes
    go true = All-push (IsShort n201) p.items (item_of (given_in (ask line.next))) sizes (item_short n201 (given_in (ask line.next)) short)
sizes_after n201 other p ask short sizes = sizes

-- ---- what the lines of a sound card give

taken_short : (c : Config) (l : Line) (o : Option Taken) → IfSome o (TakesSoundly c l) → IfSome (option_map next_of o) (λ next. length next.octets ≤ c.n201 + 4)
taken_short c l o h = grind arith

pub gives_short : (card : Card) (number : ℕ) → cards.IsSound card → number < card.config.lines → GivesShort card.config.n201 (asked_at card number)
unfolding line_answer takes_slot
gives_short card number s within =
    let l = line_at number card in
    taken_short card.config l (taken card.config l) (taken_sound card.config s.config l (line_sound card number (has_lines card s) within))

-- ---- a card

card_sound : (card : Card) (number : ℕ) (o : Option line.Event) → cards.IsSound card → number < card.config.lines
    → cards.IsSound (option_map_or (card_after card) (option_map (frames.at number) o) card)
card_sound card number None s within = s
card_sound card number (Some f) s within = after_is_sound card (frames.at number f) s within

pub port_sound : (m : OctetCard) (number : ℕ) → IsSoundOctetCard m → number < m.card.config.lines → IsSoundPort m.card.config.n201 (port_at number m)
port_sound m number s within = All-get_or (IsSoundPort m.card.config.n201) m.ports number fresh_port (omega (arith, s.count, within)) s.ports

own_port_sound : (m : OctetCard) (e : Event) → IsSoundOctetCard m → IsAtLine m e → IsSoundPort m.card.config.n201 (port.after e.what (said e m) (port_at e.line m))
unfolding meant
own_port_sound m e s within = grind (arith, port_sound, own_port, said_is, sizes_after, asked_at, gives_short)

pub octets_keep_sound : (m : OctetCard) (e : Event) → IsSoundOctetCard m → IsAtLine m e → IsSoundOctetCard (after e m)
unfolding after meant
octets_keep_sound m e s within =
    let c = m.card.config in
    let same : (after e m).card.config ≡ c = config_after m e in
    let all = All-set (IsSoundPort c.n201) m.ports e.line (port.after e.what (said e m) (port_at e.line m)) (own_port_sound m e s within) s.ports in
    record {
      card = card_sound m.card e.line (port.meant c.n201 e.what (port_at e.line m)) s.card within;
      count = ports_after m e ∙ s.count ∙ ap (λ (x : Config). x.lines) (sym same);
      ports = subst (λ (x : Config). All (IsSoundPort x.n201) (after e m).ports) (sym same) all;
    }

-- the lines are as many after an event
pub at_lines_after : (m : OctetCard) (e : Event) (events : List Event) → AreAtLines m events → AreAtLines (after e m) events
at_lines_after m e events all = subst (λ (c : Config). All (λ (x : Event). x.line < c.lines) events) (sym (config_after m e)) all

pub always_sound : (m : OctetCard) (events : List Event) → IsSoundOctetCard m → AreAtLines m events → IsSoundOctetCard (after_all m events)
unfolding after_all
always_sound m [] s within = s
always_sound m (e ∷ events) s within =
    always_sound (after e m) events (octets_keep_sound m e s (All-head (IsAtLine m) e events within))
    (at_lines_after m e events (All-tail (IsAtLine m) e events within))

fresh_port_sound : (n201 : ℕ) → IsSoundPort n201 fresh_port
fresh_port_sound n201 = record { text = record { text = refl }; sizes = All-nil (IsShort n201) }

pub begun_octets_sound : (card : Card) → cards.IsSound card → IsSoundOctetCard (with_fresh_ports card)
begun_octets_sound card s = record {
  card = s;
  count = length-replicate card.config.lines fresh_port;
  ports = All-replicate (IsSoundPort card.config.n201) card.config.lines fresh_port (fresh_port_sound card.config.n201);
}

pub fresh_octets_sound : (c : Config) → IsInRange c → IsSoundOctetCard (fresh c)
fresh_octets_sound c ranged = begun_octets_sound (fresh_frames c) (fresh_is_sound c ranged)

pub cards_stay_sound : CardsStaySound
cards_stay_sound = record { begins = fresh_octets_sound; always = always_sound }
