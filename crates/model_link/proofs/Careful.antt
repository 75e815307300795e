-- What each word of the tables does with a claim that asks more of some: which frame is sent, which number is
-- acknowledged, which state is entered.
use Rattle.model_link.proofs.Vocabulary.{arith, ◌≡◌, ℕ, ◌<◌, ◌≤◌, ◌⊎◌, Bool, true, false, IsTrue, List, ◌∷◌, length, Some, None, named, reject_number, Seq, Control, ErrorCode, State, TeiAssigned, AwaitingEstablishment, AwaitingRelease, Established, TimerRecovery, LinkCounts, LinkTimer, T203, ControlFrame, Terms, Course, ◌then◌, changed, is_multiple_frame, Data, Event, Request, requested}
use Rattle.model_link.proofs.Vocabulary.{data_in_7_8}
use Rattle.model_link.proofs.Vocabulary.{refusal}
use Rattle.model_link.specs.Link.{most_rc}
use Rattle.model_link.specs.Words
use Rattle.model_link.specs.Offers
use Rattle.model_link.proofs.Waits.{Waits}
use Rattle.model_link.proofs.Kept.{Purse, another, two, Kept}

-- What is known of V(A), V(S), the number of contents and the state.
abbrev pub Claim : Type 1
Claim = ℕ → ℕ → ℕ → State → Type 0

-- What holds, and what is known beside it.
pub record At (X : Claim) (Q : Course → Type 0) (c : Course) : Type 0 where
  pub known : X c.link.a c.link.s (length c.link.contents) c.link.state
  pub holds : Q c

abbrev pub anything : Claim
anything a s n state = Unit {0}

-- Nothing is queued: it is known, or the state is one in which nothing is. A claim says what it is to be in a state.
abbrev pub is_at_rest : State → Bool
is_at_rest TeiAssigned = true
is_at_rest AwaitingRelease = true
is_at_rest other = false

abbrev pub idle : (State → State → Type 0) → Claim
idle In a s n state = (n ≤ a) ⊎ ((here : State) × In state here × (is_at_rest here ≡ true))

-- An N(R) names i, in this state.
pub record Names (In : State → State → Type 0) (i : ℕ) (here : State) (a s : ℕ) (state : State) : Type 0 where
  pub from : a ≤ i
  pub to : i ≤ s
  pub state_is : In state here

abbrev pub names : (State → State → Type 0) → ℕ → State → Claim
names In i here a s n state = Names In i here a s state

-- The state is this one, and a window is paid; for a frame only if it is an REJ whose N(R) names a number.
abbrev pub paid : (State → State → Type 0) → Type 0 → State → Claim
paid In Window here a s n state = In state here × Window

abbrev pub starts : (State → State → Type 0) → Type 0 → State → Control → Claim
starts In Window here control a s n state =
    In state here × ((nr : Seq) (i : ℕ) → IsTrue (is_multiple_frame here) → reject_number control ≡ Some nr → named a s nr ≡ Some i → Window)

-- Requests that queue contents.
abbrev pub QueuesFor : Type 0 → Request → Type 0
QueuesFor queued (Data octets) = queued
QueuesFor queued other = Unit {0}

abbrev pub Queues : Type 0 → Event → Type 0
Queues queued (requested request full) = QueuesFor queued request
Queues queued other = Unit {0}

pub any_contents : (request : Request) → QueuesFor (Unit {0}) request
any_contents request = grind arith

pub record Careful (t : Terms) (Units Anew Taken Window Queued Offered : Type 0) (In : State → State → Type 0) (S : Course → Type 0) (P : Purse → Purse → Course → Type 0) (E : Course → Type 0) : Type 0 where
  pub is_in : (state : State) → In state state
  pub begins : (c : Course) → S c → P two two c
  pub ends : (p q : Purse) (c : Course) → P p q c → E c
  pub unsent : (p q : Purse) (c : Course) → P (another p) q c → P p q c
  pub untold : (p q : Purse) (c : Course) → P p (another q) c → P p q c
  -- what is told
  pub error : (p q : Purse) (e : ErrorCode) (c : Course) → P p (another q) c → P p q (Words.error t e c)
  pub establish_indication : (p q : Purse) (c : Course) → P p (another q) c → P p q (Words.establish_indication t c)
  pub establish_confirm : (p q : Purse) (c : Course) → P p (another q) c → P p q (Words.establish_confirm t c)
  pub release_indication : (p q : Purse) (c : Course) → P p (another q) c → P p q (Words.release_indication t c)
  pub release_confirm : (p q : Purse) (c : Course) → P p (another q) c → P p q (Words.release_confirm t c)
  pub xid : (p q : Purse) (c : Course) → P p (another q) c → P p q (Words.xid t c)
  pub taken : Taken → (p q : Purse) (octets : List ℕ) (c : Course) → P p (another q) c
      → P p q (Words.deliver t octets (Words.rejecting_is false (Words.count_received c)))
  pub unit : Units → (octets : List ℕ) (c : Course) → S c → E (Words.deliver_unit t octets c)
  pub unserved : (c : Course) → S c → E (Words.leave_unserved c)
  -- what waits
  pub send : (p q : Purse) (f : ControlFrame) (c : Course) → Waits t f → P (another p) q c → P p q (Words.send t f c)
  -- flags: an acknowledgement that is owed costs the frame with which it goes
  pub peer_busy : (p q : Purse) (b : Bool) (c : Course) → P p q c → P p q (Words.peer_busy_is b c)
  pub busy : (p q : Purse) (b : Bool) (c : Course) → P (another p) q c → P p q (Words.report_receiver_status t (Words.own_busy_is b c))
  pub rejecting : (p q : Purse) (c : Course) → P p q c → P p q (Words.rejecting_is true c)
  pub settled : (p q : Purse) (c : Course) → P p q c → P p q (Words.pending_is false c)
  pub owing : (p q : Purse) (c : Course) → c.link.own_busy ≡ false → P (another p) q c → P p q (Words.pending_is true c)
  pub flags : (p q : Purse) (c : Course) → P p q c → P p q (Words.clear_flags c)
  pub repeats : (p q : Purse) (n : ℕ) (c : Course) → n ≤ most_rc t → P p q c → P p q (Words.repeats_are n c)
  pub repeated : (p q : Purse) (c : Course) → c.link.repeats < most_rc t → P p q c → P p q (Words.repeated c)
  -- the timers, and the state that is entered last
  pub start : (p q : Purse) (timer : LinkTimer) (c : Course) → P p q c → P p q (Words.start timer c)
  pub no_timer : (p q : Purse) (c : Course) → P p q c → P p q (Words.no_timer c)
  pub enter_4 : (p q : Purse) (c : Course) → idle In c.link.a c.link.s (length c.link.contents) c.link.state → P p q c → E (Words.enter TeiAssigned c)
  pub enter_5 : (p q : Purse) (b : Bool) (c : Course) → (IsTrue b → idle In c.link.a c.link.s (length c.link.contents) c.link.state) → P p q c
      → E ((Words.asked_is b then Words.enter AwaitingEstablishment) c)
  pub enter_6 : (p q : Purse) (c : Course) → idle In c.link.a c.link.s (length c.link.contents) c.link.state → P p q c → E (Words.enter AwaitingRelease c)
  pub enter_7 : (p q : Purse) (c : Course) → P p q c → E (Words.enter Established c)
  pub enter_8 : Window → (p q : Purse) (c : Course) → In c.link.state Established → P p q c → E (Words.enter TimerRecovery c)
  -- what layer 3 asks for in state 5: nothing is queued then
  pub ask_anew : (p q : Purse) (c : Course) → idle In c.link.a c.link.s (length c.link.contents) c.link.state → P p q c
      → E ((Words.asked_is true then Words.owed_is false) c)
  pub owe : (p q : Purse) (c : Course) → In c.link.state AwaitingEstablishment → P p q c → E ((Words.asked_is false then Words.owed_is true) c)
  pub owed_off : (p q : Purse) (c : Course) → P p q c → P p q (Words.owed_is false c)
  -- the numbers and the contents
  pub zero : Anew → (p q : Purse) (c : Course) → P p q c → P p q (Words.zero_numbers c)
  pub reset : Anew → (p q : Purse) (c : Course) → P p q c → P p q (Words.reset_numbers c)
  pub begin_anew : Anew → (p q : Purse) (c : Course) → P p q c → E (Words.begin_anew c)
  pub discard : (p q : Purse) (c : Course) → P p q c → P p q (Words.discard c)
  pub acknowledge : (p q : Purse) (n : ℕ) (here : State) (c : Course) → c.link.a ≤ n → n ≤ c.link.s → In c.link.state here → IsTrue (is_multiple_frame here)
      → P p q c → P p q (Words.acknowledge n c)
  pub again : Window → (p q : Purse) (n : ℕ) (c : Course) → c.link.a ≤ n → n ≤ c.link.s → P p q c
      → E ((Words.send_again_from n then Words.start T203) c)
  pub recovered : (p q : Purse) (n : ℕ) (timer : LinkTimer) (c : Course) → c.link.a ≤ n → n ≤ c.link.s → In c.link.state TimerRecovery → P p q c
      → E ((Words.send_again_from n then Words.start timer then Words.enter Established) c)
  pub transfer : Queued → (p q : Purse) (octets : List ℕ) (full : Bool) (c : Course) → refusal t c.link full (Data octets) ≡ None
      → P (another p) q c → E (data_in_7_8 octets c)
  -- what is counted
  pub count : (p q : Purse) (change : LinkCounts → LinkCounts) (c : Course) → P p q c → P p q (Words.count change c)
  -- an offer
  pub give_waiting : Offered → (p q : Purse) (f : ControlFrame) (fs : List ControlFrame) (c : Course) → c.link.waiting ≡ f ∷ fs → P p q c
      → E (Offers.give_waiting f fs c)
  pub give_information : Offered → (p q : Purse) (c : Course) → Offers.may_send_information t c.link ≡ true → P p q c
      → P p q ((Offers.give_information then changed Offers.with_one_sent) c)
  pub give_acknowledgement : Offered → (p q : Purse) (c : Course) → P p q c → P p q (Offers.give_acknowledgement c)

-- A claim that asks for no more.
module _ {t : Terms} {Units Anew Taken : Type 0} {S : Course → Type 0} {P : Purse → Purse → Course → Type 0} {E : Course → Type 0} (k : Kept t Units Anew Taken S P E) where
  enters : (p q : Purse) (state : State) (c : Course) → P p q c → E (Words.enter state c)
  enters p q state c h = k.ends p q _ (k.enter p q state c h)

  asks : (p q : Purse) (b : Bool) (c : Course) → P p q c → E ((Words.asked_is b then Words.enter AwaitingEstablishment) c)
  asks p q b c h = enters p q AwaitingEstablishment _ (k.asked p q b c h)

  asks-anew : (p q : Purse) (asked owed : Bool) (c : Course) → P p q c → E ((Words.asked_is asked then Words.owed_is owed) c)
  asks-anew p q asked owed c h = k.ends p q _ (k.owed p q owed _ (k.asked p q asked c h))

  no-more-owed : (p q : Purse) (c : Course) → P p q c → P p q (Words.owed_is false c)
  no-more-owed p q c h = k.owed p q false c h

  begins-anew : Anew → (p q : Purse) (c : Course) → P p q c → E (Words.begin_anew c)
  begins-anew may p q c h = k.ends p q _ (k.begin_anew may p q c h)

  goes-back : (p q : Purse) (n : ℕ) (timer : LinkTimer) (c : Course) → P p q c → E ((Words.send_again_from n then Words.start timer) c)
  goes-back p q n timer c h = k.ends p q _ (k.start p q timer _ (k.send_again p q n c h))

  recovers : (p q : Purse) (n : ℕ) (timer : LinkTimer) (c : Course) → P p q c
      → E ((Words.send_again_from n then Words.start timer then Words.enter Established) c)
  recovers p q n timer c h = enters p q Established _ (k.start p q timer _ (k.send_again p q n c h))

  owes : (p q : Purse) (c : Course) → c.link.own_busy ≡ false → P (another p) q c → P p q (Words.pending_is true c)
  owes p q c off h = k.owing p q c off (k.unsent p q c h)

  transfers : (p q : Purse) (octets : List ℕ) (c : Course) → P (another p) q c → E (data_in_7_8 octets c)
  transfers p q octets c h = k.ends p q _ (k.transfer p q octets c (k.unsent p q c h))

  gives : (p q : Purse) (f : ControlFrame) (fs : List ControlFrame) (c : Course) → P p q c → E (Offers.give_waiting f fs c)
  gives p q f fs c h = k.ends p q _ (k.waiting_rest p q f fs _ (k.give p q f None c h))

  gives-information : (p q : Purse) (c : Course) → P p q c → P p q ((Offers.give_information then changed Offers.with_one_sent) c)
  gives-information p q c h = k.sent_one p q _ (k.give p q _ _ c h)

  pub plainly : Careful t Units Anew Taken (Unit {0}) (Unit {0}) (Unit {0}) (λ state here. Unit {0}) S P E
  plainly = search (k.begins, k.ends, k.unsent, k.untold, k.error, k.establish_indication, k.establish_confirm, k.release_indication, k.release_confirm, k.xid, k.taken, k.unit, k.unserved, k.send, k.peer_busy, k.busy, k.rejecting, k.settled, owes, k.flags, k.repeats, k.repeated, k.start, k.no_timer, enters, asks, asks-anew, no-more-owed, k.zero, k.reset, begins-anew, k.discard, k.acknowledge, goes-back, recovers, transfers, gives, gives-information, k.give, k.count) depth 12 fits 4000
