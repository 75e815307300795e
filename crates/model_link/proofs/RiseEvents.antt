-- No event raises what is sent and still owed by more than its price.
use Rattle.model_link.proofs.Vocabulary.{with_expiry, ◌≡◌, ℕ, ◌+◌, ◌*◌, ◌≤◌, Bool, true, cond, List, [], ◌∷◌, Option, Some, None, is_some, refl, ap, ◌∙◌, arith, and_from, Seq, named, Control, ErrorCode, Refusal, State, LinkTimer, ControlFrame, Terms, Link, is_multiple_frame, may_send, sent, reject_number, is_valid_reject, price, sent_in_all, price_of_all, IsInRange, IsSound, Course, begun, Event}
use Rattle.model_link.proofs.Vocabulary.{Request}
use Rattle.model_link.proofs.Vocabulary.{cleared, expired, frame, offer, overlong, received, requested, undefined, wrong_size, begin_anew, granted, refusal, offer_among, after, after_all, course, expire_running, frame_in, malformed_in, told_of_clearing}
use Rattle.model_link.proofs.Kept.{Purse, no_more, another, two}
unfoldable use Rattle.model_link.proofs.Kept.{how_many}
use Rattle.model_link.proofs.Careful.{anything, any_contents, Careful}
use Rattle.model_link.proofs.FrameRows.{◌▹◌, count, frame_by}
use Rattle.model_link.proofs.Rows.{malformed_by, expired_by, granted_by}
use Rattle.model_link.proofs.SoundRows.{is_in}
use Rattle.model_link.proofs.SoundEvents.{sound-stands, sound-after}
use Rattle.model_link.proofs.Owes.{owed, Owes, Within, costs}

module _ (t : Terms) (r : IsInRange t) (l : Link) (h : IsSound t l) where
  -- the beginning of an event
  begins : (total extra : ℕ) (p : Purse) → may_send t l + how_many p + extra ≤ total → Owes t total extra p (begun l)
  begins total extra p room = record { stands = sound-stands t t.queue l h.queue h; within = omega (arith, room) }

  -- a frame costs two, and a window more if it is an REJ that is valid
  frame-costs : (here : State) → l.state ≡ here → (b : Bool) (octets : List ℕ) (control : Control)
      → owed t (frame_in here t b octets control (begun l)) ≤ may_send t l + (2 + cond {A = ℕ} (is_valid_reject (reject_number control) l) t.k 0)
  unfolding how_many
  frame-costs here e b octets control =
      let valid = is_valid_reject (reject_number control) l in
      let total = may_send t l + (2 + cond {A = ℕ} valid t.k 0) in
      ((frame_by (costs t r total (cond {A = ℕ} valid t.k 0) (valid ≡ true) (λ w. ap (λ v. cond {A = ℕ} v t.k 0) w)) here b octets control (grind arith)).leads (begun l)
      (record {
        known = (e, λ nr i up reject named. ap (λ o. is_valid_reject o l) reject ∙ and_from (is_multiple_frame l.state) (is_some (named_in nr)) (ap is_multiple_frame e ∙ up) (ap is_some named));
        holds = begins total (cond {A = ℕ} valid t.k 0) two (omega arith);
      })).within
    where
      named_in : Seq → Option ℕ
      named_in nr = named l.a l.s nr

  -- what costs neither
  plain : (total : ℕ) → Careful t (Unit {0}) (Unit {0}) (Unit {0}) ⊥ (Unit {0}) ⊥ is_in (Owes t total 0 two) (λ p q c. Owes t total 0 p c) (Within t total)
  plain total = costs t r total 0 ⊥ (λ w. absurd w)

  malformed-costs : (e : ErrorCode) → owed t (malformed_in l.state t e (begun l)) ≤ may_send t l + 2
  unfolding how_many
  malformed-costs e = ((malformed_by (plain (may_send t l + 2)) {X = anything} l.state e).leads (begun l) (record { known = tt; holds = begins (may_send t l + 2) 0 two (omega arith) })).within

  expired-costs : (timer : LinkTimer) → owed t (expire_running timer t (begun l)) ≤ may_send t l + (t.k + 1)
  unfolding how_many
  expired-costs timer =
      let k = costs t r (may_send t l + (t.k + 1)) t.k (Unit {0}) (λ w. refl) in
      ((count k {q = two} (with_expiry timer) ▹ expired_by k l.state timer).leads (begun l)
      (record { known = (refl, tt); holds = begins (may_send t l + (t.k + 1)) t.k (another no_more) (omega arith) })).within

  request-costs : (request : Request) (full : Bool) (o : Option Refusal) → refusal t l full request ≡ o
      → owed t (elim o [ None ↦ granted t request (begun l) | Some _ ↦ begun l ]) ≤ may_send t l + cond {A = ℕ} (is_some o) 0 1
  unfolding how_many
  request-costs request full None e =
      (granted_by (plain (may_send t l + 1)) request full (any_contents request) (begun l) (begins (may_send t l + 1) 0 (another no_more) (omega arith)) e).within
  request-costs request full (Some w) e = omega arith

  -- the TEI leaves the line
  cleared-costs : (here : State) → owed t (begin_anew (told_of_clearing here t (begun l))) ≤ may_send t l
  cleared-costs here = grind arith

  -- Offers: the frame that goes was owed, and at most one more owed with it.
  Pays : Course → Type 0
  Pays c = (owed t c ≤ may_send t l) × (may_send t l ≤ may_send t c.link + 2 * cond {A = ℕ} (is_some c.sent) 1 0)

  offers-pay : (ws : List ControlFrame) → l.waiting ≡ ws → Pays (offer_among t ws (begun l))
  unfolding Pays
  offers-pay [] e =
      (grind arith)
  offers-pay (f ∷ fs) e = grind arith

  -- Any event.
  pub event-rises : (e : Event) → owed t (course t e l) ≤ may_send t l + price t e l
  unfolding Pays
  event-rises (received (frame f)) = frame-costs l.state refl f.address.command f.info f.control
  event-rises (received undefined) = malformed-costs ErrorCode.L
  event-rises (received wrong_size) = malformed-costs ErrorCode.N
  event-rises (received overlong) = malformed-costs ErrorCode.O
  event-rises (expired timer) = grind (arith, expired-costs)
  event-rises (requested request full) = request-costs request full (refusal t l full request) refl
  event-rises offer = let pays = offers-pay l.waiting refl in omega (arith, pays.0)
  event-rises cleared = let cost = cleared-costs l.state in omega (arith, cost)

  pub offer-falls : may_send t l ≤ may_send t (after t offer l) + 2 * sent t offer l
  unfolding Pays
  offer-falls = (offers-pay l.waiting refl).1

-- Lists of events.
pub all-rises : (t : Terms) → IsInRange t → (es : List Event) (l : Link) → IsSound t l
    → sent_in_all t es l + may_send t (after_all t es l) ≤ may_send t l + price_of_all t es l
unfolding sent_in_all price_of_all after_all
all-rises t r [] l h = omega arith
all-rises t r (e ∷ es) l h =
    let first : owed t (course t e l) ≤ may_send t l + price t e l = event-rises t r l h e in
    omega (arith, first, (all-rises t r es (after t e l) (sound-after t r e l h)))
