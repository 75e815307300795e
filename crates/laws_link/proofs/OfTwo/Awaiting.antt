-- In state 7 T200 runs only where something is awaited: each row, and each event.
use Rattle.laws_link.proofs.Vocabulary.{◌≡◌, ◌≢◌, ◌⊎◌, ℕ, ◌+◌, ◌≤◌, ◌&&◌, nat_lt, Bool, true, false, List, Option, None, Some, refl, sym, ap, ◌∙◌, arith, true≢false, eq-eqb, ltb-false, Seq, Control, Information, ReceiveReady, ReceiveNotReady, Reject, ErrorCode, Refusal, State, TeiAssigned, AwaitingEstablishment, AwaitingRelease, Established, TimerRecovery, LinkTimer, T200, T203, ControlFrame}
use Rattle.laws_link.proofs.Vocabulary.{Terms, Link, Request, Event, Course, Step, begun, ◌then◌, nothing, runs, frame_in_4, frame_in_5, frame_in_6, Leads, then_leads, bit_leads, read_leads, named-within, both_ways, answer, by_number, peer_busy_is, answered, contents_in_7_8, failed, is_final, acknowledged_by_information_in_7, acknowledged_in_7, frame_in_7, unsolicited}
use Rattle.laws_link.proofs.Vocabulary.{acknowledged_in_8}
use Rattle.laws_link.proofs.Vocabulary.{Establish, Release, received, frame, frame_in_8, establish_in, granted, release_in, is_established, offer_among, course, expired_in, frame_in, malformed_in}
use Rattle.laws_link.proofs.OfTwo.Heeding.{words}

-- the terminal is taken for busy, or an I-frame is outstanding
abbrev pub Awaits : State → Option LinkTimer → Bool → ℕ → ℕ → Type 0
Awaits state running busy a s = state ≡ Established → running ≡ Some T200 → (busy ≡ true) ⊎ (a ≢ s)

pub record Awaiting (c : Course) : Type 0 where
  pub holds : Awaits c.link.state c.link.running c.link.peer_busy c.link.a c.link.s

-- what is known before a row: nothing, or the state
abbrev Any : Course → Type 0
Any c = Unit {0}

abbrev At : State → Course → Type 0
At here c = c.link.state ≡ here

-- another timer runs, or the state is another
other-timer : Some T203 ≡ Some T200 → ⊥
other-timer e = true≢false (sym (ap (runs T200) e))

t203-runs : (state : State) (busy : Bool) (a s : ℕ) → Awaits state (Some T203) busy a s
t203-runs state busy a s is e = absurd (other-timer e)

elsewhere : (here : State) → is_established here ≡ false → (running : Option LinkTimer) (busy : Bool) (a s : ℕ) → Awaits here running busy a s
elsewhere here down running busy a s is e = absurd (true≢false (sym (ap is_established is) ∙ down))

stays-elsewhere : (here : State) → is_established here ≡ false → (state : State) → state ≡ here → (running : Option LinkTimer) (busy : Bool) (a s : ℕ) → Awaits state running busy a s
stays-elsewhere here down state at running busy a s is e = absurd (true≢false (sym (ap is_established (sym at ∙ is)) ∙ down))

-- what was before says nothing
any-then : {P : Course → Type 0} (f : Step) {g : Step} → Leads Any g Awaiting → Leads P (f then g) Awaiting
any-then f x = record { leads = λ c h. x.leads (f c) tt }

-- by the N(R)
number : {P : Course → Type 0} (t : Terms) (nr : Seq) (f : ℕ → Step) → ((n : ℕ) (c : Course) → P c → c.link.a ≤ n → Awaiting (f n c))
    → Leads P (by_number t nr f) Awaiting
number {P} t nr f x = grind (arith, elsewhere, named-within)

-- state 7
acknowledged-7 : (n : ℕ) (c : Course) → c.link.a ≤ n → Awaiting (acknowledged_in_7 n c)
acknowledged-7 n c from = grind (arith, nat_lt, t203-runs, eq-eqb, ltb-false)

information-7 : (n : ℕ) (c : Course) → c.link.a ≤ n → Awaiting (acknowledged_by_information_in_7 n c)
information-7 n c from = grind (arith, acknowledged-7)

abbrev Busy : Course → Type 0
Busy c = c.link.peer_busy ≡ true

-- a row leaves the terminal busy, or the state
module _ (t : Terms) where
  failed-ends : {P : Course → Type 0} (e : ErrorCode) → Leads P (failed t e) Awaiting
  failed-ends e = record { leads = λ c h. record { holds = elsewhere AwaitingEstablishment refl _ _ _ _ } }

  in-4 : (octets : List ℕ) (control : Control) → Leads Awaiting (frame_in_4 t octets control) Awaiting
  in-4 octets control = grind (arith, t203-runs, bit_leads, read_leads, elsewhere)

  in-5 : (octets : List ℕ) (control : Control) → Leads Awaiting (frame_in_5 t octets control) Awaiting
  in-5 octets control = grind (arith, t203-runs, bit_leads, read_leads, elsewhere)

  in-6 : (octets : List ℕ) (control : Control) → Leads Awaiting (frame_in_6 t octets control) Awaiting
  in-6 octets control = grind (arith, elsewhere, bit_leads, read_leads)

  in-7 : (b : Bool) (octets : List ℕ) (control : Control) → Leads Awaiting (frame_in_7 t b octets control) Awaiting
  in-7 b octets (Information ns nr p) =
      bit_leads _ (failed-ends ErrorCode.O)
      (any-then (contents_in_7_8 t ns p octets) (number {P = Any} t nr acknowledged_by_information_in_7 (λ n c h from. information-7 n c from)))
  in-7 b octets (ReceiveReady nr pf) =
      any-then (peer_busy_is false) (any-then (answered t b pf) (any-then (unsolicited t (is_final b pf))
      (number {P = Any} t nr acknowledged_in_7 (λ n c h from. acknowledged-7 n c from))))
  in-7 b octets (ReceiveNotReady nr pf) = grind (arith, then_leads, bit_leads, number)
  in-7 b octets (Reject nr pf) = grind (arith, any-then, number, t203-runs)
  in-7 b octets control = grind (arith, t203-runs, elsewhere, failed-ends, bit_leads, read_leads)

  -- state 8: it stays, or T203 is started, or the terminal is busy
  at-8 : {f : Step} → Leads (At TimerRecovery) f (At TimerRecovery) → Leads (At TimerRecovery) f Awaiting
  at-8 {f} x = record { leads = λ c h. record { holds = stays-elsewhere TimerRecovery refl (f c).link.state (x.leads c h) _ _ _ _ } }

  recovers : (final : Bool) (n : ℕ) → Leads (At TimerRecovery) (acknowledged_in_8 T203 final n) Awaiting
  recovers final n = bit_leads final (record { leads = λ c h. record { holds = t203-runs _ _ _ _ } }) (at-8 (record { leads = λ c h. h }))

  abbrev BusyAt : State → Course → Type 0
  BusyAt here c = (c.link.state ≡ here) × (c.link.peer_busy ≡ true)

  answered-busy-at : (here : State) (b pf : Bool) → Leads (BusyAt here) (answered t b pf) (BusyAt here)
  answered-busy-at here b pf = bit_leads {f = answer t} {g = nothing} (b && pf) (record { leads = λ c h. h }) (record { leads = λ c h. h })

  in-8 : (b : Bool) (octets : List ℕ) (control : Control) → Leads (At TimerRecovery) (frame_in_8 t b octets control) Awaiting
  in-8 b octets control =
      grind (arith, bit_leads, read_leads, failed-ends, then_leads, words, number, stays-elsewhere, recovers, answered-busy-at, t203-runs)

-- Each event.
module _ (t : Terms) (l : Link) (h : Awaits l.state l.running l.peer_busy l.a l.s) (ordered : l.a ≤ l.s) where
  before : Awaiting (begun l)
  before = record { holds = h }

  frames : (here : State) → l.state ≡ here → (b : Bool) (octets : List ℕ) (control : Control) → Awaiting (frame_in here t b octets control (begun l))
  frames TeiAssigned e b octets control = (in-4 t octets control).leads (begun l) before
  frames AwaitingEstablishment e b octets control = (in-5 t octets control).leads (begun l) before
  frames AwaitingRelease e b octets control = (in-6 t octets control).leads (begun l) before
  frames Established e b octets control = (in-7 t b octets control).leads (begun l) before
  frames TimerRecovery e b octets control = (in-8 t b octets control).leads (begun l) e

  malformed : (here : State) (e : ErrorCode) → Awaiting (malformed_in here t e (begun l))
  malformed here e = grind (arith, failed-ends)

  expiries : (here : State) → l.state ≡ here → (timer : LinkTimer) → Awaiting (expired_in here timer t (begun l))
  expiries here e timer = grind (arith, before, elsewhere, both_ways, nat_lt, stays-elsewhere, failed-ends)

  opens : (here : State) → l.state ≡ here → Awaiting (establish_in here t (begun l))
  opens here e = grind (arith, elsewhere, before, stays-elsewhere)

  releases : (here : State) → l.state ≡ here → Awaiting (release_in here t (begun l))
  releases here e = grind (arith, elsewhere, before, stays-elsewhere)

  grants : (request : Request) → Awaiting (granted t request (begun l))
  grants Establish = opens l.state refl
  grants Release = releases l.state refl
  grants request = grind (arith, elsewhere, both_ways)

  asked : (request : Request) (o : Option Refusal) → Awaiting (elim o [ None ↦ granted t request (begun l) | Some _ ↦ begun l ])
  asked request o = grind (arith, grants, before)

  -- an I-frame that goes is outstanding
  one-more : l.a ≢ l.s + 1
  one-more e = omega (arith, ordered, e)

  offers : (ws : List ControlFrame) → Awaiting (offer_among t ws (begun l))
  offers ws = grind (arith, both_ways, one-more)

  pub event-awaits : (e : Event) → Awaiting (course t e l)
  event-awaits (received (frame f)) = frames l.state refl f.address.command f.info f.control
  event-awaits e = grind (arith, frames, malformed, both_ways, expiries, before, asked, offers, elsewhere)
