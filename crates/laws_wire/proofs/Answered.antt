-- What an event leaves as it was at a station.
use Rattle.laws_wire.proofs.Vocabulary.{arith, ◌≡◌, ℕ, List, [], option_map, refl, ap, ◌∙◌, append-nil, Timer, came, hears, expiry, request, next, Answer, gave, Request, taken, next_of, line_at, Event, drop, Wire, acting, receives, with_first_of, without_first, sym, line_answer, line_takes_slot}
use Rattle.laws_wire.specs.Wire.{Endpoint, answered, happens, frame_comes, unless_refused, contents_in}

-- A call for the next frame gives what is taken at the line, and tells nothing.
pub gives-taken : (s : Endpoint) → answered next s ≡ gave (option_map next_of (taken s.card.config (line_at s.line s.card)))
unfolding line_takes_slot line_answer
gives-taken s = refl

pub gives-told : (s : Endpoint) → (happens next s).told ≡ s.told
unfolding line_takes_slot line_answer
gives-told s = append-nil s.told

-- Nothing but a call for it gives a frame.
pub takes-way : (octets : List ℕ) (s : Endpoint) → (frame_comes octets s).way ≡ s.way
unfolding line_takes_slot line_answer
takes-way octets s = append-nil s.way

pub expires-way : (timer : Timer) (s : Endpoint) → (happens (expiry timer) s).way ≡ s.way
unfolding line_takes_slot line_answer
expires-way timer s = append-nil s.way

pub asks-way : (r : Request) (s : Endpoint) → (happens (request r) s).way ≡ s.way
unfolding line_answer
asks-way r s = grind (arith, append-nil)

-- What asks for nothing is granted nothing.
none-granted : (a : Answer) → unless_refused a [] ≡ []
none-granted a = grind arith

pub same-granted : (e : Event) (s : Endpoint) → contents_in e ≡ [] → (happens e s).granted ≡ s.granted
same-granted e s none = grind (arith, none-granted, append-nil)

pub gives-granted : (s : Endpoint) → (happens next s).granted ≡ s.granted
gives-granted s = same-granted next s refl

pub takes-granted : (octets : List ℕ) (s : Endpoint) → (frame_comes octets s).granted ≡ s.granted
takes-granted octets s = same-granted (hears (came s.card.config.n201 octets)) s refl

-- where none is on its way none is taken, and none is lost
pub lost-none : (s : Endpoint) → s.way ≡ [] → without_first s ≡ s
lost-none s e = λ i. record s { way = (ap (drop 1) e ∙ sym e) i }

pub takes-none : (w : Wire) → w.far.way ≡ [] → acting receives w ≡ w
takes-none w e = λ i. record { near = ap (λ way. with_first_of way w.near) e i; far = lost-none w.far e i }
