-- What requests, expiries and offers do to a link that stays in states 7 and 8, and to what is on its line.
use Rattle.laws_link.proofs.Vocabulary.{arith, ◌≡◌, ◌+◌, Bool, true, cond, IsTrue, List, [], ◌∷◌, ◌++◌, Option, None, Some, refl, ap, append_assoc, append-nil, ◌⊎◌, inl, nat_lt, slice_get, unwrap_or, and_parts, seq, Refusal, WrongState, Parts, Established, TimerRecovery, LinkTimer, ControlFrame, Terms, Link, is_multiple_frame, frame_of, Request, Establish, expired, requested, offer}
use Rattle.laws_link.proofs.Vocabulary.{with_counted, with_expiry}
use Rattle.laws_link.proofs.Vocabulary.{Course, begun, frame_given, frames_of, IsNotRelease, both_ways, command, has_room, granted, give_waiting, is_awaiting_acknowledgement, may_send_information, next_information, offer_among, send_acknowledgement, with_one_sent, course, expire_running, given_of, is_running}
use Rattle.laws_link.proofs.OfTwo.Staying.{refused}
use Rattle.laws_link.proofs.OfTwo.Trains.{Kind, numbered, enquiry, report, kind_of, kinds_of, kinds-append}
use Rattle.laws_link.proofs.OfTwo.Effects.{Grown, grows, Kept, Went}
use Rattle.laws_link.proofs.OfTwo.Meeting.{line}

abbrev IsUpIn : Course → Type 0
IsUpIn c = IsTrue (is_multiple_frame c.link.state)

abbrev pub WentIn : Kind → Link → Course → Type 0
WentIn k l c = Went k l c.link

-- An enquiry waits, if there was room, and the state is 8.
pub record Asked (l l' : Link) : Type 0 where
  pub state : l'.state ≡ TimerRecovery
  pub s : l'.s ≡ l.s
  pub r : l'.r ≡ l.r
  pub rejecting : l'.rejecting ≡ l.rejecting
  pub waiting : Grown l.waiting l'.waiting enquiry

-- What an offer gives, as the line sees it: no frame more, a report, or the next I-frame.
abbrev pub Gives : Terms → Link → Course → Type 0
Gives t l c =
    ((c.link.s ≡ l.s) × ((way : List Parts) → kinds_of ((way ++ frame_given t (given_of t l c c.sent)) ++ frames_of t c.link.waiting) ≡ line t way l.waiting))
    ⊎ ((c.link.s ≡ l.s) × ((way : List Parts) → kinds_of ((way ++ frame_given t (given_of t l c c.sent)) ++ frames_of t c.link.waiting) ≡ line t way l.waiting ++ report ∷ []))
    ⊎ ((l.state ≡ Established) × (c.link.s ≡ l.s + 1) × ((way : List Parts) → kinds_of ((way ++ frame_given t (given_of t l c c.sent)) ++ frames_of t c.link.waiting) ≡ line t way l.waiting ++ numbered (seq l.s) ∷ []))

pub record Offered (t : Terms) (l : Link) (c : Course) : Type 0 where
  pub state : c.link.state ≡ l.state
  pub r : c.link.r ≡ l.r
  pub rejecting : c.link.rejecting ≡ l.rejecting
  pub gives : Gives t l c

module _ (t : Terms) (l : Link) where
  by-refusal : (request : Request) (o : Option Refusal) → WentIn report l (granted t request (begun l))
      → WentIn report l (elim o [ None ↦ granted t request (begun l) | Some _ ↦ begun l ])
  by-refusal request o x = grind arith

  refuses : (o : Option Refusal) → o ≡ Some WrongState → WentIn report l (elim o [ None ↦ granted t Establish (begun l) | Some _ ↦ begun l ])
  refuses o e = grind arith

  reports : (l' : Link) (f : ControlFrame) → l'.state ≡ l.state → l'.s ≡ l.s → l'.r ≡ l.r → l'.rejecting ≡ l.rejecting
      → l'.waiting ≡ cond (has_room t l) (l.waiting ++ f ∷ []) l.waiting → kind_of f.command f.control ≡ report → Went report l l'
  reports l' f state s r rejecting waiting is = grind (arith, Grown, report, grows)

  pub asks-went : IsTrue (is_multiple_frame l.state) → (request : Request) (full : Bool) → IsNotRelease request → WentIn report l (course t (requested request full) l)
  asks-went up request full mild = grind (arith, by-refusal, both_ways, reports, refuses, refused)

  abbrev pub RanOut : LinkTimer → Course → Type 0
  RanOut timer c = Kept l c.link ⊎ ((is_running timer l ≡ true) × Asked l c.link)

module _ (t : Terms) (l : Link) where
  pub expires-goes : IsTrue (is_multiple_frame l.state) → (timer : LinkTimer) → IsUpIn (course t (expired timer) l) → RanOut t l timer (course t (expired timer) l)
  expires-goes before timer up = grind (arith, is_running, expire_running, begun, with_expiry, with_counted)

  -- An offer.
  at-end : (way : List Parts) (f : Parts) (ws : List ControlFrame) → ws ≡ [] → kinds_of ((way ++ f ∷ []) ++ frames_of t ws) ≡ line t way ws ++ kind_of f.address.command f.control ∷ []
  at-end way f ws e = grind (arith, kinds_of, append-nil, kinds-append, kind_of)

  waited : (f : ControlFrame) (fs : List ControlFrame) → l.waiting ≡ f ∷ fs → Offered t l (give_waiting f fs (begun l))
  waited f fs e = grind (arith, kinds_of, append_assoc, frames_of, line)

  idle : Offered t l (begun l)
  idle = record { state = refl; r = refl; rejecting = refl; gives = inl (refl, λ way. ap (λ xs. kinds_of (xs ++ frames_of t l.waiting)) (append-nil way)) }

  acknowledges : l.waiting ≡ [] → Offered t l (send_acknowledgement (begun l))
  acknowledges e = grind (arith, at-end)

  informs : (c : Course) → may_send_information t l ≡ true → l.waiting ≡ [] → c.link.state ≡ l.state → c.link.s ≡ l.s + 1 → c.link.r ≡ l.r → c.link.rejecting ≡ l.rejecting
      → c.link.waiting ≡ l.waiting → frame_given t (given_of t l c c.sent) ≡ record (frame_of t (next_information l)) { info = unwrap_or (slice_get l.contents l.s) [] } ∷ []
      → Offered t l c
  informs c may e state s r rejecting waits gives = grind (arith, and_parts, nat_lt, slice_get, kinds_of, frames_of, at-end)

  branch : (b : Bool) (u v : Course) → (b ≡ true → Offered t l u) → Offered t l v → Offered t l (cond b u v)
  branch b u v x y = grind arith

  offers : (ws : List ControlFrame) → l.waiting ≡ ws → Offered t l (offer_among t ws (begun l))
  offers (f ∷ fs) e = waited f fs e
  offers [] e =
      branch (may_send_information t l) _ _
      (λ may. branch (is_awaiting_acknowledgement (with_one_sent l)) _ _ (λ run. informs _ may e refl refl refl refl refl refl) (informs _ may e refl refl refl refl refl refl))
      (branch l.pending _ _ (λ owed. acknowledges e) idle)

  pub offer-goes : Offered t l (course t offer l)
  offer-goes = offers l.waiting refl
