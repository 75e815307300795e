-- T200 runs while the terminal is taken for busy: every event.
use Rattle.laws_link.proofs.Vocabulary.{arith, ◌≡◌, ℕ, Bool, true, cond, ◌&&◌, not, List, [], ◌∷◌, Option, None, Some, refl, sym, subst, Control, ErrorCode, Refusal, State, TeiAssigned, AwaitingEstablishment, AwaitingRelease, Established, TimerRecovery, LinkTimer, ControlFrame, Terms, Link, fresh, frame, Request, Event, received, Course, begun, HeedsIn, Heeds, both_ways, granted, release_in}
use Rattle.laws_link.proofs.Vocabulary.{is_established, offer_among, after, after_all, expired_in, frame_in, frame_step, malformed_in}
use Rattle.laws_link.proofs.OfTwo.Heeding

abbrev Ends : Course → Type 0
Ends c = Heeding.On Heeding.heeding c

module _ (t : Terms) (l : Link) where
  at-8 : l.state ≡ TimerRecovery → HeedsIn TimerRecovery l.peer_busy l.running → Heeding.On (Heeding.awake_at TimerRecovery) (begun l)
  at-8 e h = record { holds = (e, h) }

  -- nothing happens
  idle : (here : State) → l.state ≡ here → HeedsIn here l.peer_busy l.running → Ends (begun l)
  idle here e h = record { holds = subst (λ s. HeedsIn s l.peer_busy l.running) (sym e) h }

  frames-in : (here : State) → l.state ≡ here → HeedsIn here l.peer_busy l.running → (b : Bool) (octets : List ℕ) (control : Control)
      → Ends (frame_in here t b octets control (begun l))
  frames-in TeiAssigned e h b octets control = grind arith
  frames-in AwaitingEstablishment e h b octets control = (Heeding.in_5 t octets control).leads (begun l) (record { holds = (e, h) })
  frames-in AwaitingRelease e h b octets control = grind arith
  frames-in Established e h b octets control = (Heeding.in_7 t b octets control).leads (begun l) (record { holds = (e, h) })
  frames-in TimerRecovery e h b octets control = (Heeding.in_8 t b octets control).leads (begun l) (at-8 e h)

  frames : Heeds l → (b : Bool) (octets : List ℕ) (control : Control) → Ends (frame_step t b octets control (begun l))
  frames h b octets control = frames-in l.state refl h.heeds b octets control

  malformed : (e : ErrorCode) (here : State) → l.state ≡ here → HeedsIn here l.peer_busy l.running → Ends (malformed_in here t e (begun l))
  malformed e here s h = grind arith

  expiries : (here : State) → l.state ≡ here → HeedsIn here l.peer_busy l.running → (timer : LinkTimer) → Ends (expired_in here timer t (begun l))
  expiries here e h timer = grind (arith, idle, at-8)

  releases : (here : State) → l.state ≡ here → HeedsIn here l.peer_busy l.running → Ends (release_in here t (begun l))
  releases here e h = grind (arith, at-8, idle)

  grants : Heeds l → (request : Request) → Ends (granted t request (begun l))
  grants h request = grind (arith, releases, both_ways)

  asked : Heeds l → (request : Request) (o : Option Refusal) → Ends (elim o [ None ↦ granted t request (begun l) | Some _ ↦ begun l ])
  asked h request o = grind (arith, grants)

  -- an I-frame goes in state 7 alone, and only while the terminal is not busy
  free : (state : State) (busy x y : Bool) → (is_established state && not busy && x && y) ≡ true → (running : Option LinkTimer) → HeedsIn state busy running
  free state busy x y e running = grind arith

  told : (b : Bool) (u v : Course) → (b ≡ true → Ends u) → Ends v → Ends (cond b u v)
  told b u v x y = grind arith

  offers : Heeds l → (ws : List ControlFrame) → Ends (offer_among t ws (begun l))
  offers h ws = grind (arith, told, both_ways, free)

pub heeds-after : (t : Terms) (e : Event) (l : Link) → Heeds l → Heeds (after t e l)
heeds-after t (received (frame f)) l h = record { heeds = (frames t l h f.address.command f.info f.control).holds }
heeds-after t e l h = grind (arith, both_ways, expiries, asked, offers, malformed)

pub heeds-fresh : Heeds fresh
heeds-fresh = record { heeds = tt }

pub heeds-all : (t : Terms) (es : List Event) (l : Link) → Heeds l → Heeds (after_all t es l)
unfolding after_all
heeds-all t [] l h = h
heeds-all t (e ∷ es) l h = heeds-all t es (after t e l) (heeds-after t e l h)
