-- What an end that was never busy answers, puts and gives: which N(R) it has, and what is owed.
use Rattle.laws_wire.proofs.Vocabulary.{arith, ◌≡◌, ℕ, ◌+◌, Bool, true, false, ◌&&◌, IsTrue, List, [], ◌∷◌, ◌++◌, refl, sym, ap, ◌∙◌, append_assoc, append-nil, ◌⊎◌, inl, nat_lt, Seq, Information, ReceiveReady, Reject, Parts, TimerRecovery, LinkTimer, ControlFrame, Terms, Link, is_multiple_frame, frame_of, expired, offer, Step, begun, frame_given, frames_of, frames-append, Means, c-7, c-8, enquiry}
use Rattle.laws_wire.proofs.Vocabulary.{kind_of, T200, Course}
use Rattle.model_link.specs.Words
use Rattle.model_link.specs.MultipleFrame
use Rattle.model_link.specs.Offers
use Rattle.model_link.specs.Machine
use Rattle.laws_wire.proofs.Dense.{Replies}

abbrev IsUpIn : Course → Type 0
IsUpIn c = IsTrue (is_multiple_frame c.link.state)

-- one frame more waits
pub line-push : (t : Terms) (way : List Parts) (ws ws' : List ControlFrame) (f : ControlFrame) → ws' ≡ ws ++ f ∷ []
    → way ++ frames_of t ws' ≡ (way ++ frames_of t ws) ++ frame_of t f ∷ []
line-push t way ws ws' f e = grind (arith, frames_of, frames-append, append_assoc)

-- An enquiry waits, the last, and the state is 8.
pub record Enquired (t : Terms) (l l' : Link) : Type 0 where
  pub state : l'.state ≡ TimerRecovery
  pub s : l'.s ≡ l.s
  pub a : l'.a ≡ l.a
  pub r : l'.r ≡ l.r
  pub frame : ControlFrame
  pub waits : l'.waiting ≡ l.waiting ++ frame ∷ []
  pub kind : kind_of frame.command frame.control ≡ enquiry
  pub means : Means l.r frame.control

module _ (t : Terms) (l : Link) where
  abbrev pub Expired : Link → Type 0
  Expired l' = (l' ≡ l) ⊎ Enquired t l l'

  pub expires-so : IsTrue (is_multiple_frame l.state) → (timer : LinkTimer) → (Machine.is_running timer l ≡ true → Words.has_room t l ≡ true)
      → IsUpIn (Machine.course t (expired timer) l) → Expired (Machine.after t (expired timer) l)
  expires-so before timer room up = grind arith

  -- where it runs in state 7, or T200 in 8, it is so
  pub asks-so : IsTrue (is_multiple_frame l.state) → Machine.is_running T200 l ≡ true → Words.has_room t l ≡ true
      → IsUpIn (Machine.course t (expired T200) l) → Enquired t l (Machine.after t (expired T200) l)
  asks-so before running room up = grind arith

  -- an offer
  abbrev Says : Course → Type 0
  Says c = (way : List Parts) → Replies l.r l.pending c.link.pending (way ++ frames_of t l.waiting)
      ((way ++ frame_given t (Machine.given_of t l c c.sent)) ++ frames_of t c.link.waiting)

  pub at-end : (way : List Parts) (f : Parts) (ws : List ControlFrame) → ws ≡ [] → (way ++ f ∷ []) ++ frames_of t ws ≡ (way ++ frames_of t ws) ++ f ∷ []
  at-end way f ws e = grind (arith, append-nil)

  offers-say : (ws : List ControlFrame) → l.waiting ≡ ws → Says (Offers.offer_among t ws (begun l))
  offers-say (f ∷ fs) e = λ way. inl (refl, append_assoc way (frame_of t f ∷ []) (frames_of t fs) ∙ ap (λ ws. way ++ frames_of t ws) (sym e))
  offers-say [] e = grind (arith, at-end, append-nil)

  pub offer-says : Says (Machine.course t offer l)
  offer-says = offers-say l.waiting refl

  -- ---- what it hears

  by-number : (P : Link → Type 0) (nr : Seq) (f : ℕ → Step) (c : Course) → ((n : ℕ) → P (f n c).link) → IsUpIn (Words.by_number t nr f c) → P (Words.by_number t nr f c).link
  by-number P nr f c x up = grind arith

  -- what is owed, V(R) and what waits stay
  pub record Same (l' : Link) : Type 0 where
    pub pending : l'.pending ≡ l.pending
    pub r : l'.r ≡ l.r
    pub waiting : l'.waiting ≡ l.waiting

  -- RR and REJ that ask nothing
  pub ready-same : IsTrue (is_multiple_frame l.state) → (b pf : Bool) (nr : Seq) (octets : List ℕ) → (b && pf) ≡ false
      → IsUpIn (Machine.frame_step t b octets (ReceiveReady nr pf) (begun l)) → Same (Machine.frame_step t b octets (ReceiveReady nr pf) (begun l)).link
  ready-same before b pf nr octets e up = grind (arith, by-number, c-7, c-8)

  pub reject-same : IsTrue (is_multiple_frame l.state) → (nr : Seq) (octets : List ℕ)
      → IsUpIn (Machine.frame_step t false octets (Reject nr false) (begun l)) → Same (Machine.frame_step t false octets (Reject nr false) (begun l)).link
  reject-same before nr octets up = grind (arith, by-number, c-7, c-8)

  -- an enquiry is answered
  abbrev its_answer : ControlFrame
  its_answer = Words.response (Words.rr_or_rnr true l)

  pub record Answers (l' : Link) : Type 0 where
    pub r : l'.r ≡ l.r
    pub waits : l'.waiting ≡ l.waiting ++ its_answer ∷ []

  pub enquiry-answered : IsTrue (is_multiple_frame l.state) → Words.has_room t l ≡ true → (nr : Seq) (octets : List ℕ)
      → IsUpIn (Machine.frame_step t true octets (ReceiveReady nr true) (begun l)) → Answers (Machine.frame_step t true octets (ReceiveReady nr true) (begun l)).link
  enquiry-answered before room nr octets up = grind (arith, c-7, by-number, its_answer, c-8)

  -- the next I-frame is taken
  pub record Next (l' : Link) : Type 0 where
    pub r : l'.r ≡ l.r + 1
    pub pending : l'.pending ≡ true

  module _ (own : l.own_busy ≡ false) (ns : Seq) (next : MultipleFrame.is_next ns l ≡ true) (nr : Seq) (octets : List ℕ) where
    pub next-taken : IsTrue (is_multiple_frame l.state) → (b : Bool) → IsUpIn (Machine.frame_step t b octets (Information ns nr false) (begun l))
        → Next (Machine.frame_step t b octets (Information ns nr false) (begun l)).link
    next-taken before b up = grind (arith, nat_lt, by-number)
