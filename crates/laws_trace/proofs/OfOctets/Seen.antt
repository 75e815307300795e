-- What an observer sees of the events of frames that events of octets mean, in the words of ports.
use Rattle.laws_trace.proofs.Vocabulary.{arith, ◌≡◌, ℕ, ◌==◌, cond, List, [], ◌∷◌, ◌++◌, map, option_map, refl, sym, ap, ◌∙◌, append-nil, All, flat_map, option_to_list, flat_map-append, All-nil, All-cons, All-head, All-tail, All-append, AreOctets, Card, OctetCard, port_at, answer_to, frame_moment, meant_in, frames_given, HearsOctets, Port, given_in, answer_of, meant_all, asked_at, gives_at_next}
use Rattle.laws_trace.proofs.Vocabulary.{refines, answer as line_answer, Request, moments as frame_moments, contents_given, GivesOctets, Seen, seen, seen_told, seen_granted, seen_in, trace, frames_begun, ports_after as after, meant, PortsEvent as Event, if_granted, request_granted, requests_of, HasOctets, trace_begun as begun, granted, heard, lost, trace_noted as noted, octets_of, at, CardEvent}
use Rattle.model_line.specs.Event as line
use Rattle.model_card.specs.Machine as machine
use Rattle.model_card.specs.Run as runs
use Rattle.laws_trace.proofs.Units.{none-told, none-requested}
unfoldable use Rattle.model_card.specs.ports.Card.{answer}
use Rattle.model_card.specs.ports.Port as port
use Rattle.model_card.specs.ports.Run.{Moment}
unfoldable use Rattle.model_card.specs.ports.Run.{moments}

-- ---- the frames that begin are those that the card of frames gives

by_event : (card : Card) (n : ℕ) (what : line.Event) → let a = asked_at card n what in frames_begun (seen what a) ≡ option_to_list (option_map octets_of (given_in a))
by_event card n (line.hears e) =
    let a = asked_at card n (line.hears e) in ((none-told a) ∙ ap (λ o. option_to_list (option_map octets_of o)) (sym ((gives_at_next card n).hears e)))
by_event card n (line.expiry timer) =
    let a = asked_at card n (line.expiry timer) in ((none-told a) ∙ ap (λ o. option_to_list (option_map octets_of o)) (sym ((gives_at_next card n).expiry timer)))
by_event card n (line.request r) =
    let a = asked_at card n (line.request r) in ((none-requested r a) ∙ ap (λ o. option_to_list (option_map octets_of o)) (sym ((gives_at_next card n).request r)))
by_event card n line.next = grind arith

abbrev there : Card → CardEvent → runs.Moment
there card f = record { card = card; event = f; answer = machine.answer f card }

pub begun_given : (number : ℕ) (card : Card) (fs : List CardEvent) → frames_begun (trace number (runs.moments card fs)) ≡ frames_given number (runs.moments card fs)
unfolding frame_moments
begun_given number card [] = refl
begun_given number card (f ∷ fs) = grind (arith, begun_given number (machine.after f card) fs, flat_map-append, option_map, by_event)

-- ---- the requests that are seen to be granted are those whose answers grant them

abbrev pub request_seen : Seen → List Request
request_seen (granted r) = r ∷ []
request_seen other = []

abbrev pub requests_seen : List Seen → List Request
requests_seen t = flat_map request_seen t

abbrev seen_at : ℕ → runs.Moment → List Request
seen_at number m = requests_seen (seen_in number m)

in_trace : (number : ℕ) (ms : List runs.Moment) → requests_seen (trace number ms) ≡ flat_map (seen_at number) ms
in_trace number [] = refl
in_trace number (m ∷ ms) = flat_map-append request_seen (seen_in number m) (trace number ms) ∙ ap (λ rs. seen_at number m ++ rs) (in_trace number ms)

-- a request is answered by what it is told, or refused
by_request : (card : Card) (n : ℕ) (r : Request) → let a = asked_at card n (line.request r) in requests_seen (seen_granted r a ++ seen_told a) ≡ if_granted r (answer_of a)
unfolding line_answer
by_request card n r = grind arith

-- what one event of octets means
by_meaning : (number n n201 : ℕ) (m : OctetCard) (what : port.Event) (p : Port) → let o = option_map (at n) (port.meant n201 what p) in
    flat_map (seen_at number) (option_to_list (option_map (frame_moment m) o))
    ≡ cond (n == number) (request_granted what (port.answer what (option_map (answer_to m.card) o) p)) []
by_meaning number n n201 m what p = grind (arith, option_map, asked_at, append-nil, by_request)

abbrev here : OctetCard → Event → Moment
here m e = record { card = m; event = e; answer = answer e m }

by_octet : (number : ℕ) (m : OctetCard) (e : Event) → flat_map (seen_at number) (meant_in (here m e)) ≡ requests_of number (here m e)
unfolding meant answer
by_octet number m e = by_meaning number e.line m.card.config.n201 m e.what (port_at e.line m)

by_octets : (number : ℕ) (m : OctetCard) (events : List Event) → flat_map (seen_at number) (flat_map meant_in (moments m events)) ≡ flat_map (requests_of number) (moments m events)
unfolding moments
by_octets number m [] = refl
by_octets number m (e ∷ events) = grind (arith, by_octets number (after e m) events, flat_map-append, by_octet)

pub requests_are : (number : ℕ) (m : OctetCard) (events : List Event)
    → requests_seen (trace number (runs.moments m.card (meant_all m events))) ≡ flat_map (requests_of number) (moments m events)
requests_are number m events =
    in_trace number (runs.moments m.card (meant_all m events)) ∙ ap (flat_map (seen_at number)) (sym (refines m events).moments)
    ∙ by_octets number m events

-- ---- what is heard, and the contents that are granted, are octets

abbrev pub HearsIn : Seen → Type 0
HearsIn (heard e) = HasOctets e
HearsIn other = Unit {0}

abbrev pub HearsAt : CardEvent → Type 0
HearsAt f = HearsOctets f.what

pub trace_hears : (number : ℕ) (card : Card) (fs : List CardEvent) → All HearsAt fs → All HearsIn (trace number (runs.moments card fs))
unfolding frame_moments
trace_hears number card [] h = All-nil HearsIn
trace_hears number card (f ∷ fs) h =
    All-append HearsIn (seen_in number (there card f)) (trace number (runs.moments (machine.after f card) fs)) (grind (arith, All-head))
    (trace_hears number (machine.after f card) fs (All-tail HearsAt f fs h))

pub gives : (t : List Seen) → All HearsIn t → All AreOctets (map contents_given (requests_seen t)) → All GivesOctets t
gives [] h k = All-nil GivesOctets
gives (heard e ∷ t) h k = All-cons GivesOctets (heard e) t (All-head HearsIn (heard e) t h) (gives t (All-tail HearsIn (heard e) t h) k)
gives (begun octets ∷ t) h k = All-cons GivesOctets (begun octets) t tt (gives t (All-tail HearsIn (begun octets) t h) k)
gives (noted notes contents ∷ t) h k =
    All-cons GivesOctets (noted notes contents) t tt (gives t (All-tail HearsIn (noted notes contents) t h) k)
gives (granted r ∷ t) h k =
    let rest = map contents_given (requests_seen t) in
    All-cons GivesOctets (granted r) t (All-head AreOctets (contents_given r) rest k)
    (gives t (All-tail HearsIn (granted r) t h) (All-tail AreOctets (contents_given r) rest k))
gives (lost n ∷ t) h k = All-cons GivesOctets (lost n) t tt (gives t (All-tail HearsIn (lost n) t h) k)
