-- What keeps a link in states 7 and 8: each word, each row of a frame whose N(R) is valid, and each mild event.
use Rattle.laws_link.proofs.Vocabulary.{arith, ◌≡◌, ℕ, ◌≤◌, Bool, true, cond, IsTrue, List, length, Option, None, Some, refl, sym, subst, true≢false, le-ltb, Seq, seq, named, Control, Information, Refusal, WrongState, State, Established, TimerRecovery, LinkTimer, ControlFrame, Terms, Link, is_multiple_frame, may_repeat, Request, Establish, expired}
use Rattle.laws_link.proofs.Vocabulary.{with_counted, with_expiry}
use Rattle.laws_link.proofs.Vocabulary.{requested, offer, Course, begun, Step, ◌then◌, Leads, keeping_then, nothing_leads, depending_leads, bit_leads, Means, IsNotRelease, leaves, both_ways, by_number, enter, contents_in_7_8, information_in_7_8, acknowledged_by_information_in_7, frame_in_7, frame_in_8, granted, refusal, offer_among}
use Rattle.laws_link.proofs.Vocabulary.{course, expired_in, frame_in, frame_step, is_running}

abbrev IsUpIn : Course → Type 0
IsUpIn c = IsTrue (is_multiple_frame c.link.state)

-- A link in state 7 or 8, with its V(A) and V(S); and whatever these are.
pub record HoldsAt (a s : ℕ) (state : State) (x y : ℕ) : Type 0 where
  pub up : IsTrue (is_multiple_frame state)
  pub low : x ≡ a
  pub high : y ≡ s

abbrev pub Holds : ℕ → ℕ → Course → Type 0
Holds a s c = HoldsAt a s c.link.state c.link.a c.link.s

pub record StaysIn (state : State) : Type 0 where
  pub up : IsTrue (is_multiple_frame state)

abbrev pub Stays : Course → Type 0
Stays c = StaysIn c.link.state

pub enter_7_stays : Leads Stays (enter Established) Stays
enter_7_stays = record { leads = λ c h. record { up = refl } }

pub ruleset words = (leaves, keeping_then, nothing_leads, depending_leads, bit_leads)

pub ruleset effects = (leaves, keeping_then, nothing_leads, depending_leads, bit_leads, enter_7_stays)

-- what fits, where it is an I-frame
abbrev pub Fits : Terms → Control → List ℕ → Type 0
Fits t (Information ns nr b) octets = length octets ≤ t.n201
Fits t other octets = Unit {0}

module _ (t : Terms) (l : Link) (up : IsTrue (is_multiple_frame l.state)) (p : ℕ) (valid : named l.a l.s (seq p) ≡ Some p) where
  first : Holds l.a l.s (begun l)
  first = record { up = up; low = refl; high = refl }

  numbered : (f : ℕ → Step) → ((n : ℕ) → Leads Stays (f n) Stays) → (c : Course) → Holds l.a l.s c → IsUpIn (by_number t (seq p) f c)
  numbered f x c h = grind arith

  contents : (ns : Seq) (b : Bool) (octets : List ℕ) → Leads (Holds l.a l.s) (contents_in_7_8 t ns b octets) (Holds l.a l.s)
  contents ns b octets = search words depth 14 fits 6000

  information : (ns : Seq) (b : Bool) (octets : List ℕ) (f : ℕ → Step) → ((n : ℕ) → Leads Stays (f n) Stays) → length octets ≤ t.n201
      → IsUpIn (information_in_7_8 t ns (seq p) b octets f (begun l))
  information ns b octets f x size = grind (arith, le-ltb, numbered, contents, first)

  in-7 : (b : Bool) (octets : List ℕ) (control : Control) → Means p control → Fits t control octets → IsUpIn (frame_in_7 t b octets control (begun l))
  in-7 b octets (Information ns nr x) e size =
      subst (λ n. IsUpIn (information_in_7_8 t ns n x octets acknowledged_by_information_in_7 (begun l))) (sym e)
      (information ns x octets acknowledged_by_information_in_7 (λ n. search effects depth 12 fits 4000) size)
  in-7 b octets control e size = grind (arith, numbered, first)

  in-8 : (b : Bool) (octets : List ℕ) (control : Control) → Means p control → Fits t control octets → IsUpIn (frame_in_8 t b octets control (begun l))
  in-8 b octets control e size = grind (arith, information, numbered, first)

  frames-in : (here : State) → IsTrue (is_multiple_frame here) → (b : Bool) (octets : List ℕ) (control : Control) → Means p control → Fits t control octets
      → IsUpIn (frame_in here t b octets control (begun l))
  frames-in here h b octets control e size = grind (arith, in-7, in-8, true≢false)

  pub frame-stays : (b : Bool) (octets : List ℕ) (control : Control) → Means p control → Fits t control octets → IsUpIn (frame_step t b octets control (begun l))
  frame-stays b octets control e size = frames-in l.state up b octets control e size

-- The other events.
module _ (t : Terms) (l : Link) (up : IsTrue (is_multiple_frame l.state)) where
  branch : (b : Bool) (u v : Course) → (b ≡ true → IsUpIn u) → IsUpIn v → IsUpIn (cond b u v)
  branch b u v x y = grind arith

  -- an establishment is refused in states 7 and 8
  pub refused : (here : State) → l.state ≡ here → IsTrue (is_multiple_frame here) → (full : Bool) → refusal t l full Establish ≡ Some WrongState
  refused here e h full = grind arith

  whatever : (request : Request) (o : Option Refusal) → IsUpIn (granted t request (begun l)) → IsUpIn (elim o [ None ↦ granted t request (begun l) | Some _ ↦ begun l ])
  whatever request o x = grind arith

  refuses : (o : Option Refusal) → o ≡ Some WrongState → IsUpIn (elim o [ None ↦ granted t Establish (begun l) | Some _ ↦ begun l ])
  refuses o e = grind arith

  pub request-stays : (request : Request) (full : Bool) → IsNotRelease request → IsUpIn (course t (requested request full) l)
  request-stays request full mild = grind (arith, refuses, refused, whatever, both_ways)

  expires-in : (here : State) → l.state ≡ here → IsTrue (is_multiple_frame here) → (timer : LinkTimer) → (here ≡ TimerRecovery → may_repeat t l ≡ true)
      → IsUpIn (expired_in here timer t (begun l))
  expires-in here e h timer again = grind arith

module _ (t : Terms) (l : Link) (up : IsTrue (is_multiple_frame l.state)) where
  pub timer-stays : (timer : LinkTimer) → (l.state ≡ TimerRecovery → is_running timer l ≡ true → may_repeat t l ≡ true) → IsUpIn (course t (expired timer) l)
  timer-stays timer again = branch t l up (is_running timer l) _ _ (λ run. expires-in t (with_counted (with_expiry timer) l) up l.state refl up timer (λ e. again e run)) up

  offers : (ws : List ControlFrame) → IsUpIn (offer_among t ws (begun l))
  offers ws = grind (arith, both_ways)

  pub offer-stays : IsUpIn (course t offer l)
  offer-stays = offers l.waiting
