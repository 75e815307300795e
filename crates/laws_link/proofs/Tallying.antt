-- What each event makes of the counts of a link.
use Rattle.laws_link.proofs.Vocabulary.{◌≡◌, ℕ, Bool, true, false, cond, ◌&&◌, List, [], ◌∷◌, Option, None, Some, refl, arith, both_ways, nat_lt, Refusal, State, ControlFrame, Terms, Link, LinkTimer, LinkCounts}
use Rattle.laws_link.proofs.Vocabulary.{Request, Event, received, expired, requested, offer, frame, Course, begun, with_expiry, with_counted, after, expired_in, establish_in, granted, release_in, refusal, offer_among, is_running, given_of}
use Rattle.laws_link.proofs.Vocabulary.{start, send_acknowledgement, All, All-head, option_map_or, give_waiting, may_send_information, is_awaiting_acknowledgement, with_one_sent, with_information_sent}
use Rattle.model_link.specs.Counts.{one_more}
use Rattle.model_link.specs.Sound.{is_information}
use Rattle.laws_link.specs.Counting.{is_rej, is_t200, receives_rej, establishes, sends_rej, sends_information}

abbrev pub one : Bool → ℕ → ℕ
one b n = cond {A = ℕ} b (one_more n) n

-- What an event counts.
abbrev pub counted_by : Terms → Event → Link → LinkCounts
counted_by t e l = record {
  sent_again = one (sends_information t e l && nat_lt 0 l.again) l.counts.sent_again;
  t200_expired = one (is_t200 e l) l.counts.t200_expired;
  rejects_sent = one (sends_rej t e l) l.counts.rejects_sent;
  rejects_received = one (receives_rej e l) l.counts.rejects_received;
  established = one (establishes e l) l.counts.established;
}

module _ (t : Terms) (l : Link) where
  -- nothing is counted
  abbrev Still : Course → Type 0
  Still c = c.link.counts ≡ l.counts

  expired-counts : (here : State) (timer : LinkTimer) → Still (expired_in here timer t (begun l))
  expired-counts here timer = grind (arith, both_ways)

  opens : (here : State) → Still (establish_in here t (begun l))
  opens here = grind (arith, both_ways)

  releases : (here : State) → Still (release_in here t (begun l))
  releases here = grind (arith, both_ways)

  grants : (request : Request) → Still (granted t request (begun l))
  grants request = grind (arith, both_ways, opens, releases)

  asked : (request : Request) (o : Option Refusal) → Still (elim o [ None ↦ granted t request (begun l) | Some _ ↦ begun l ])
  asked request None = grants request
  asked request (Some w) = refl

  -- an offer, by what it gives
  abbrev Offered : Course → Type 0
  Offered c =
      let o = given_of t l c c.sent in
      c.link.counts ≡ record l.counts {
        sent_again = one (option_map_or (λ g. is_information g.frame.control) o false && nat_lt 0 l.again) l.counts.sent_again;
        rejects_sent = one (option_map_or (λ g. is_rej g.frame.control) o false) l.counts.rejects_sent;
      }

  either : (b : Bool) (u v : Course) → Offered u → Offered v → Offered (cond b u v)
  either true u v x y = x
  either false u v x y = y

  waits : (f : ControlFrame) (fs : List ControlFrame) → is_information f.control ≡ false → Offered (give_waiting f fs (begun l))
  waits f fs none = grind arith

  information : (g : ℕ) → l.again ≡ g → with_information_sent g l.counts ≡ record l.counts { sent_again = one (nat_lt 0 g) l.counts.sent_again }
  information g e = grind arith

  offers : (ws : List ControlFrame) → All (λ f. is_information f.control ≡ false) ws → Offered (offer_among t ws (begun l))
  offers [] none = grind (arith, information, either, may_send_information, cond, is_awaiting_acknowledgement, with_one_sent, start, send_acknowledgement, begun)
  offers (f ∷ fs) none = waits f fs (All-head (λ f. is_information f.control ≡ false) f fs none)

module _ (t : Terms) (l : Link) where
  expiries : (timer : LinkTimer) (b : Bool) → is_running timer l ≡ b → (after t (expired timer) l).counts ≡ counted_by t (expired timer) l
  expiries timer b e = grind (arith, expired-counts t (with_counted (with_expiry timer) l) l.state timer)

  pub of-received : (r : Rattle.model_link.specs.Events.Received) → (after t (received r) l).counts ≡ counted_by t (received r) l
  of-received h = grind arith

  pub of-expired : (timer : LinkTimer) → (after t (expired timer) l).counts ≡ counted_by t (expired timer) l
  of-expired timer = expiries timer (is_running timer l) refl

  pub of-requested : (request : Request) (full : Bool) → (after t (requested request full) l).counts ≡ counted_by t (requested request full) l
  of-requested request full = asked t l request (refusal t l full request)

  pub of-offer : All (λ f. is_information f.control ≡ false) l.waiting → (after t offer l).counts ≡ counted_by t offer l
  of-offer none = offers t l l.waiting none
