-- How many I-frames go again, after each event.
use Rattle.laws_link.proofs.Vocabulary.{◌≡◌, ℕ, ◌+◌, ◌-◌, ◌≤◌, Bool, true, false, cond, IsTrue, List, [], ◌∷◌, Option, None, Some, refl, sym, true≢false, arith, both_ways, nat_lt, Seq, named, named-within, Control, Refusal, ErrorCode, State, TeiAssigned, AwaitingEstablishment}
use Rattle.laws_link.proofs.Vocabulary.{AwaitingRelease, Established, TimerRecovery, ControlFrame, Terms, Link, LinkTimer, LinkCounts, is_multiple_frame, Request, offer, Course, Step, begun, with_expiry, with_counted, after, expired_in, frame_in, frame_in_7, frame_in_8}
use Rattle.laws_link.proofs.Vocabulary.{◌then◌, with_reject_received, answered, peer_busy_is, unsolicited, solicited, length, is_final, error, re_establish, malformed_in, establish_in, granted, release_in, offer_among, by_number, acknowledge, contents_in_7_8, information_in_7_8, acknowledged_in_7, acknowledged_by_information_in_7, acknowledged_by_rej_in_7, acknowledged_by_rnr_in_7}
use Rattle.laws_link.proofs.Vocabulary.{acknowledged_in_8}
use Rattle.laws_link.proofs.Vocabulary.{subst, frame_in_4, frame_in_5, frame_in_6, All, All-head, option_map_or, give_waiting, may_send_information, is_awaiting_acknowledgement, with_one_sent, start, send_acknowledgement, given_of}
use Rattle.model_link.specs.Sound.{is_information}
use Rattle.laws_link.specs.Counting.{establishes_in, sends_information}

-- The numbers begin anew, or the link leaves states 7 and 8, or V(S) goes back by what goes again.
pub record Turns (l : Link) (before anew : Bool) (l' : Link) : Type 0 where
  pub begins : anew ≡ true → (l'.s ≡ 0) × (l'.again ≡ 0)
  pub goes_on : anew ≡ false → IsTrue (is_multiple_frame l'.state) → (before ≡ true) × (l.a ≤ l'.a) × (l'.s + l'.again ≡ l.s + l.again)

module _ (t : Terms) (l : Link) (low : l.a ≤ l.s) (near : l.s + l.again ≤ l.a + 127) where
  record Before (c : Course) : Type 0 where
    a : c.link.a ≡ l.a
    s : c.link.s ≡ l.s
    again : c.link.again ≡ l.again

  record On (c : Course) : Type 0 where
    a : l.a ≤ c.link.a
    s : c.link.s + c.link.again ≡ l.s + l.again

  first : Before (begun l)
  first = record { a = refl; s = refl; again = refl }

  Effect : (ℕ → Step) → Type 0
  Effect f = (n : ℕ) (c : Course) → l.a ≤ n → n ≤ l.s → Before c → On (f n c)

  numbered : (nr : Seq) (f : ℕ → Step) → Effect f → (c : Course) → Before c → IsTrue (is_multiple_frame (by_number t nr f c).link.state) → On (by_number t nr f c)
  unfolding Effect
  numbered nr f x c h up = go (named c.link.a c.link.s nr) refl up
    where
      go : (o : Option ℕ) → named c.link.a c.link.s nr ≡ o
          → IsTrue (is_multiple_frame (elim o as (λ o. Course) [ None ↦ (error t ErrorCode.J then re_establish t) c | Some n ↦ f n c ]).link.state)
          → On (by_number t nr f c)
      go o e u = grind (arith, named-within)

  acked : Effect acknowledge
  unfolding Effect
  acked n c from to h = grind arith

  in-7 : Effect acknowledged_in_7
  unfolding Effect
  in-7 n c from to h = grind arith

  information-7 : Effect acknowledged_by_information_in_7
  unfolding Effect
  information-7 n c from to h = grind arith

  rnr-7 : Effect acknowledged_by_rnr_in_7
  unfolding Effect
  rnr-7 n c from to h = grind arith

  rej-7 : Effect acknowledged_by_rej_in_7
  unfolding Effect
  rej-7 n c from to h = grind arith

  in-8 : (timer : LinkTimer) (final : Bool) → Effect (acknowledged_in_8 timer final)
  unfolding Effect
  in-8 timer final n c from to h = grind arith

  -- in states 7 and 8, a frame that does not establish the link
  abbrev Goes : Course → Type 0
  Goes c = IsTrue (is_multiple_frame c.link.state) → On c

  within : (b : Bool) (u v : Course) → Goes u → Goes v → Goes (cond b u v)
  within true u v x y = x
  within false u v x y = y

  contents : (ns : Seq) (p : Bool) (octets : List ℕ) → Before (contents_in_7_8 t ns p octets (begun l))
  contents ns p octets = grind (arith, both_ways)

  information : (ns nr : Seq) (p : Bool) (octets : List ℕ) (f : ℕ → Step) → Effect f → Goes (information_in_7_8 t ns nr p octets f (begun l))
  information ns nr p octets f x =
      within (nat_lt t.n201 (length octets)) _ _ (λ up. absurd (true≢false (sym up))) (λ up. numbered nr f x (contents_in_7_8 t ns p octets (begun l)) (contents ns p octets) up)

  -- a supervisory frame, up to its N(R)
  abbrev heard : (Bool → Step) → Bool → Bool → Bool → Course → Course
  heard told busy b pf c = (peer_busy_is busy then answered t b pf then told (is_final b pf)) c

  heard-7 : (busy b pf : Bool) (c : Course) → Before c → Before (heard (unsolicited t) busy b pf c)
  heard-7 busy b pf c h = grind (arith, both_ways)

  heard-8 : (busy b pf : Bool) (c : Course) → Before c → Before (heard solicited busy b pf c)
  heard-8 busy b pf c h = grind (arith, both_ways)

  counted : Before (begun (with_counted with_reject_received l))
  counted = record { a = refl; s = refl; again = refl }

  frames-7 : (owed b : Bool) (octets : List ℕ) (control : Control) → establishes_in Established owed control ≡ false → Goes (frame_in_7 t b octets control (begun l))
  frames-7 owed b octets control e = grind (arith, information, acknowledged_by_information_in_7, information-7, numbered, acknowledged_in_7, in-7, unsolicited, heard-7, first, rnr-7, rej-7, counted)

  frames-8 : (owed b : Bool) (octets : List ℕ) (control : Control) → establishes_in TimerRecovery owed control ≡ false → Goes (frame_in_8 t b octets control (begun l))
  frames-8 owed b octets control e = grind (arith, information, acknowledge, acked, numbered, acknowledged_in_8, is_final, in-8, solicited, begun, heard-8, first, counted)

-- Each event but an offer.
module _ (t : Terms) (l : Link) where
  abbrev Leaves : Course → Type 0
  Leaves c = Turns l (is_multiple_frame l.state) false c.link

  in-4 : l.state ≡ TeiAssigned → (octets : List ℕ) (control : Control) → Turns l false (establishes_in TeiAssigned l.owed control) (frame_in_4 t octets control (begun l)).link
  in-4 e octets control = grind arith

  in-5 : l.state ≡ AwaitingEstablishment → (octets : List ℕ) (control : Control) → Turns l false (establishes_in AwaitingEstablishment l.owed control) (frame_in_5 t octets control (begun l)).link
  in-5 e octets control = grind arith

  in-6 : l.state ≡ AwaitingRelease → (octets : List ℕ) (control : Control) → Turns l false (establishes_in AwaitingRelease l.owed control) (frame_in_6 t octets control (begun l)).link
  in-6 e octets control = grind arith

  anew-7 : (owed b : Bool) (octets : List ℕ) (control : Control) → establishes_in Established owed control ≡ true
      → ((frame_in_7 t b octets control (begun l)).link.s ≡ 0) × ((frame_in_7 t b octets control (begun l)).link.again ≡ 0)
  anew-7 owed b octets control e = grind arith

  anew-8 : (owed b : Bool) (octets : List ℕ) (control : Control) → establishes_in TimerRecovery owed control ≡ true
      → ((frame_in_8 t b octets control (begun l)).link.s ≡ 0) × ((frame_in_8 t b octets control (begun l)).link.again ≡ 0)
  anew-8 owed b octets control e = grind arith

  module _ (low : l.a ≤ l.s) (near : IsTrue (is_multiple_frame l.state) → l.s + l.again ≤ l.a + 127) where
    near-in : (here : State) → l.state ≡ here → IsTrue (is_multiple_frame here) → l.s + l.again ≤ l.a + 127
    near-in here e up = near (subst (λ s. IsTrue (is_multiple_frame s)) (sym e) up)

    pub frame-turns : (here : State) → l.state ≡ here → (b : Bool) (octets : List ℕ) (control : Control)
        → Turns l (is_multiple_frame here) (establishes_in here l.owed control) (frame_in here t b octets control (begun l)).link
    frame-turns TeiAssigned e b octets control = in-4 e octets control
    frame-turns AwaitingEstablishment e b octets control = in-5 e octets control
    frame-turns AwaitingRelease e b octets control = in-6 e octets control
    frame-turns Established e b octets control = record {
      begins = λ is. anew-7 l.owed b octets control is;
      goes_on = λ is up. let x = frames-7 t l low (near-in Established e refl) l.owed b octets control is up in (refl, x.a, x.s);
    }
    frame-turns TimerRecovery e b octets control = record {
      begins = λ is. anew-8 l.owed b octets control is;
      goes_on = λ is up. let x = frames-8 t l low (near-in TimerRecovery e refl) l.owed b octets control is up in (refl, x.a, x.s);
    }

  pub malformed : (here : State) → l.state ≡ here → (e : ErrorCode) → Leaves (malformed_in here t e (begun l))
  malformed here is e = grind arith

  stays : Leaves (begun l)
  stays = grind arith

  expired-turns : (change : LinkCounts → LinkCounts) (here : State) → l.state ≡ here → (timer : LinkTimer) → Leaves (expired_in here timer t (begun (with_counted change l)))
  expired-turns change here is timer = grind (arith, both_ways)

  pub expiries : (timer : LinkTimer) (b : Bool) → Leaves (cond b (expired_in l.state timer t (begun (with_counted (with_expiry timer) l))) (begun l))
  expiries timer true = expired-turns (with_expiry timer) l.state refl timer
  expiries timer false = stays

  opens : (here : State) → l.state ≡ here → Leaves (establish_in here t (begun l))
  opens here is = grind (arith, both_ways)

  releases : (here : State) → l.state ≡ here → Leaves (release_in here t (begun l))
  releases here is = grind (arith, both_ways)

  grants : (request : Request) → Leaves (granted t request (begun l))
  grants request = grind (arith, both_ways, opens, releases)

  pub asked : (request : Request) (o : Option Refusal) → Leaves (elim o [ None ↦ granted t request (begun l) | Some _ ↦ begun l ])
  asked request None = grants request
  asked request (Some w) = stays

-- An offer: an I-frame, or not.
pub record Gives (l : Link) (information : Bool) (l' : Link) : Type 0 where
  pub state : l'.state ≡ l.state
  pub a : l'.a ≡ l.a
  pub sent : information ≡ true → IsTrue (is_multiple_frame l.state) × (l'.s ≡ l.s + 1) × (l'.again ≡ l.again - 1)
  pub other : information ≡ false → (l'.s ≡ l.s) × (l'.again ≡ l.again)

module _ (t : Terms) (l : Link) where
  abbrev Given_ : Course → Type 0
  Given_ c = Gives l (option_map_or (λ g. is_information g.frame.control) (given_of t l c c.sent) false) c.link

  either : (b : Bool) (u v : Course) → (b ≡ true → Given_ u) → Given_ v → Given_ (cond b u v)
  either true u v x y = x refl
  either false u v x y = y

  waits : (f : ControlFrame) (fs : List ControlFrame) → is_information f.control ≡ false → Given_ (give_waiting f fs (begun l))
  waits f fs none = grind arith

  offers : (ws : List ControlFrame) → All (λ f. is_information f.control ≡ false) ws → Given_ (offer_among t ws (begun l))
  offers [] none = grind (arith, may_send_information, either, cond, is_awaiting_acknowledgement, with_one_sent, start, send_acknowledgement, begun)
  offers (f ∷ fs) none = waits f fs (All-head (λ f. is_information f.control ≡ false) f fs none)

  pub offer-gives : All (λ f. is_information f.control ≡ false) l.waiting → Gives l (sends_information t offer l) (after t offer l)
  offer-gives none = offers l.waiting none
