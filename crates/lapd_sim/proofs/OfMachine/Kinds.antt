-- The events that each line of a script brings are of the kind of its card.
use Rattle.lapd_sim.proofs.OfMachine.Vocabulary.{◌≡◌, ℕ, List, [], ◌∷◌, replicate, refl, sym, ap, ◌∙◌, subst, All, All-nil, All-cons, All-head, All-tail, All-replicate, CardKind, Octets, Frames, Event, at, octet, pull, expiry, request, hears, next, Scene, octets_at, downs, expiry_events, Call, Packet, Request, Deactivate, Down, octet_event, frame_event, AreEventsOf}
use Rattle.lapd_frame.specs.declared.timers.Timer.{Timer}
use Rattle.model_bits.specs.Stream as stream
use Rattle.model_line.specs.Event as line
use Rattle.model_card.specs.Event as frames
use Rattle.model_card.specs.ports.Event as octets
use Rattle.model_card.specs.ports.Port as port
use Rattle.lapd_sim.proofs.OfMachine.Kept.{by_expiry}

-- It is an event of the card of its kind.
abbrev pub IsEventOf : CardKind → Event → Type 0
IsEventOf Octets e = (own : octets.Event) × (octet_event own ≡ e)
IsEventOf Frames e = (own : frames.Event) × (frame_event own ≡ e)

abbrev pub EachIsOf : CardKind → List Event → Type 0
EachIsOf kind events = All (IsEventOf kind) events

own_octets : (events : List Event) → EachIsOf Octets events → AreEventsOf Octets events
own_octets [] all = ([], refl)
own_octets (e ∷ events) all =
    let first = All-head (IsEventOf Octets) e events all in
    let rest = own_octets events (All-tail (IsEventOf Octets) e events all) in
    (first.0 ∷ rest.0, ap (λ x. x ∷ events) (sym first.1) ∙ ap (λ es. octet_event first.0 ∷ es) rest.1)

own_frames : (events : List Event) → EachIsOf Frames events → AreEventsOf Frames events
own_frames [] all = ([], refl)
own_frames (e ∷ events) all =
    let first = All-head (IsEventOf Frames) e events all in
    let rest = own_frames events (All-tail (IsEventOf Frames) e events all) in
    (first.0 ∷ rest.0, ap (λ x. x ∷ events) (sym first.1) ∙ ap (λ es. frame_event first.0 ∷ es) rest.1)

-- Where each is of a kind, all are.
pub all_of_kind : (kind : CardKind) (events : List Event) → EachIsOf kind events → AreEventsOf kind events
all_of_kind Octets events all = own_octets events all
all_of_kind Frames events all = own_frames events all

pub none_of_kind : (kind : CardKind) → EachIsOf kind []
none_of_kind kind = All-nil (IsEventOf kind)

pub one_of_kind : (kind : CardKind) (e : Event) → IsEventOf kind e → EachIsOf kind (e ∷ [])
one_of_kind kind e is = All-cons (IsEventOf kind) e [] is (none_of_kind kind)

-- ---- of either kind

pub expiry_is : (kind : CardKind) (number : ℕ) (timer : Timer) → IsEventOf kind (at number (expiry timer))
expiry_is Octets number timer = (octets.at number (port.expiry timer), refl)
expiry_is Frames number timer = (frames.at number (line.expiry timer), refl)

pub request_is : (kind : CardKind) (number : ℕ) (r : Request) → IsEventOf kind (at number (request r))
request_is Octets number r = (octets.at number (port.request r), refl)
request_is Frames number r = (frames.at number (line.request r), refl)

pub downs_are : (kind : CardKind) (number : ℕ) (teis : List ℕ) → EachIsOf kind (downs number teis)
downs_are kind number [] = one_of_kind kind (at number (request Down)) (request_is kind number Down)
downs_are kind number (tei ∷ teis) =
    let call : Event = at number (request (Deactivate Call tei)) in
    let packet : Event = at number (request (Deactivate Packet tei)) in
    All-cons (IsEventOf kind) call (packet ∷ downs number teis) (request_is kind number (Deactivate Call tei))
    (All-cons (IsEventOf kind) packet (downs number teis) (request_is kind number (Deactivate Packet tei)) (downs_are kind number teis))

pub expiries_are : (most end : ℕ) (s : Scene) → EachIsOf s.setup.board.kind (expiry_events most end s)
expiries_are most end s =
    by_expiry end (λ s t es. EachIsOf s.setup.board.kind es) (λ s. none_of_kind s.setup.board.kind)
    (λ s due t es is more.
    All-cons (IsEventOf s.setup.board.kind) (at due.0 (expiry due.1)) es (expiry_is s.setup.board.kind due.0 due.1) more)
    most s

-- ---- of one kind

of_octets : (number : ℕ) (values : List ℕ) → EachIsOf Octets (octets_at number values)
of_octets number [] = none_of_kind Octets
of_octets number (value ∷ values) =
    All-cons (IsEventOf Octets) (at number (octet value)) (octets_at number values) (octets.at number (port.octet value), refl) (of_octets number values)

pub octets_are : (kind : CardKind) (number : ℕ) (values : List ℕ) → kind ≡ Octets → EachIsOf kind (octets_at number values)
octets_are kind number values is = subst (λ k. EachIsOf k (octets_at number values)) (sym is) (of_octets number values)

pub pulls_are : (kind : CardKind) (number count : ℕ) → kind ≡ Octets → EachIsOf kind (replicate count (at number pull))
pulls_are kind number count is =
    subst (λ k. EachIsOf k (replicate count (at number pull))) (sym is) (All-replicate (IsEventOf Octets) count (at number pull) (octets.at number port.pull, refl))

pub heard_is : (kind : CardKind) (number : ℕ) (e : stream.Event) → kind ≡ Frames → IsEventOf kind (at number (hears e))
heard_is kind number e is = subst (λ k. IsEventOf k (at number (hears e))) (sym is) (frames.at number (line.hears e), refl)

pub next_is : (kind : CardKind) (number : ℕ) → kind ≡ Frames → IsEventOf kind (at number next)
next_is kind number is = subst (λ k. IsEventOf k (at number next)) (sym is) (frames.at number line.next, refl)
