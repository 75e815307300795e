-- What each word of the tables does with a claim, as a record with a field for each word.
use Rattle.model_link.proofs.Vocabulary.{arith, ◌≡◌, ℕ, ◌+◌, ◌<◌, ◌≤◌, Bool, true, false, List, Option, Control, Information, Sabme, Ui, Ua, ErrorCode, State, LinkCounts, LinkTimer, ControlFrame, Terms, Course, changed, Event, cleared, frame, received, data_in_7_8}
use Rattle.model_link.specs.Link.{most_rc}
use Rattle.model_link.specs.Words
use Rattle.model_link.specs.Offers

-- How often a row may still do something: send a control frame, or tell a note.
pub data Purse : Type 0 where
  no_more : Purse
  another : Purse → Purse

abbrev pub two : Purse
two = another (another no_more)

unfoldable pub how_many : Purse → ℕ
how_many no_more = 0
how_many (another p) = 1 + how_many p

-- The frames of a claim: whether UI are among them, those that begin the numbers anew, and I-frames.
abbrev pub Fits : Type 0 → Type 0 → Type 0 → Control → Type 0
Fits units anew taken (Ui p) = units
Fits units anew taken (Sabme p) = anew
Fits units anew taken (Ua true) = anew
Fits units anew taken (Information ns nr p) = taken
Fits units anew taken other = Unit {0}

abbrev pub FitsEvent : Type 0 → Type 0 → Type 0 → Event → Type 0
FitsEvent units anew taken (received (frame f)) = Fits units anew taken f.control
FitsEvent units anew taken cleared = anew
FitsEvent units anew taken other = Unit {0}

-- What each word does with a claim: it holds at first as S says, in a row as P says while so many frames may still be
-- sent and so many notes told, and in the end as E says.
pub record Kept (t : Terms) (Units Anew Taken : Type 0) (S : Course → Type 0) (P : Purse → Purse → Course → Type 0) (E : Course → Type 0) : Type 0 where
  pub begins : (c : Course) → S c → P two two c
  pub ends : (p q : Purse) (c : Course) → P p q c → E c
  -- a frame that is not sent, a note that is not told
  pub unsent : (p q : Purse) (c : Course) → P (another p) q c → P p q c
  pub untold : (p q : Purse) (c : Course) → P p (another q) c → P p q c
  -- what is told
  pub error : (p q : Purse) (e : ErrorCode) (c : Course) → P p (another q) c → P p q (Words.error t e c)
  pub establish_indication : (p q : Purse) (c : Course) → P p (another q) c → P p q (Words.establish_indication t c)
  pub establish_confirm : (p q : Purse) (c : Course) → P p (another q) c → P p q (Words.establish_confirm t c)
  pub release_indication : (p q : Purse) (c : Course) → P p (another q) c → P p q (Words.release_indication t c)
  pub release_confirm : (p q : Purse) (c : Course) → P p (another q) c → P p q (Words.release_confirm t c)
  pub xid : (p q : Purse) (c : Course) → P p (another q) c → P p q (Words.xid t c)
  pub taken : Taken → (p q : Purse) (octets : List ℕ) (c : Course) → P p (another q) c
      → P p q (Words.deliver t octets (Words.rejecting_is false (Words.count_received c)))
  pub unit : Units → (octets : List ℕ) (c : Course) → S c → E (Words.deliver_unit t octets c)
  pub unserved : (c : Course) → S c → E (Words.leave_unserved c)
  -- what waits
  pub send : (p q : Purse) (f : ControlFrame) (c : Course) → P (another p) q c → P p q (Words.send t f c)
  -- flags: none owes an acknowledgement while this side is busy
  pub peer_busy : (p q : Purse) (b : Bool) (c : Course) → P p q c → P p q (Words.peer_busy_is b c)
  pub busy : (p q : Purse) (b : Bool) (c : Course) → P (another p) q c → P p q (Words.report_receiver_status t (Words.own_busy_is b c))
  pub rejecting : (p q : Purse) (c : Course) → P p q c → P p q (Words.rejecting_is true c)
  pub settled : (p q : Purse) (c : Course) → P p q c → P p q (Words.pending_is false c)
  pub owing : (p q : Purse) (c : Course) → c.link.own_busy ≡ false → P p q c → P p q (Words.pending_is true c)
  pub flags : (p q : Purse) (c : Course) → P p q c → P p q (Words.clear_flags c)
  pub asked : (p q : Purse) (b : Bool) (c : Course) → P p q c → P p q (Words.asked_is b c)
  pub owed : (p q : Purse) (b : Bool) (c : Course) → P p q c → P p q (Words.owed_is b c)
  pub repeats : (p q : Purse) (n : ℕ) (c : Course) → n ≤ most_rc t → P p q c → P p q (Words.repeats_are n c)
  pub repeated : (p q : Purse) (c : Course) → c.link.repeats < most_rc t → P p q c → P p q (Words.repeated c)
  -- the state and the timers
  pub enter : (p q : Purse) (state : State) (c : Course) → P p q c → P p q (Words.enter state c)
  pub start : (p q : Purse) (timer : LinkTimer) (c : Course) → P p q c → P p q (Words.start timer c)
  pub no_timer : (p q : Purse) (c : Course) → P p q c → P p q (Words.no_timer c)
  -- the numbers and the contents
  pub zero : Anew → (p q : Purse) (c : Course) → P p q c → P p q (Words.zero_numbers c)
  pub reset : Anew → (p q : Purse) (c : Course) → P p q c → P p q (Words.reset_numbers c)
  pub begin_anew : Anew → (p q : Purse) (c : Course) → P p q c → P p q (Words.begin_anew c)
  pub discard : (p q : Purse) (c : Course) → P p q c → P p q (Words.discard c)
  pub acknowledge : (p q : Purse) (n : ℕ) (c : Course) → P p q c → P p q (Words.acknowledge n c)
  pub send_again : (p q : Purse) (n : ℕ) (c : Course) → P p q c → P p q (Words.send_again_from n c)
  pub transfer : (p q : Purse) (octets : List ℕ) (c : Course) → P p q c → P p q (data_in_7_8 octets c)
  -- what is counted
  pub count : (p q : Purse) (change : LinkCounts → LinkCounts) (c : Course) → P p q c → P p q (Words.count change c)
  -- an offer
  pub give : (p q : Purse) (f : ControlFrame) (o : Option (List ℕ)) (c : Course) → P p q c → P p q (Offers.give f o c)
  pub sent_one : (p q : Purse) (c : Course) → P p q c → P p q (changed Offers.with_one_sent c)
  pub waiting_rest : (p q : Purse) (f : ControlFrame) (fs : List ControlFrame) (c : Course) → P p q c → P p q (changed (Offers.with_waiting_rest f fs) c)

pub any_event : (e : Event) → FitsEvent (Unit {0}) (Unit {0}) (Unit {0}) e
any_event e = grind arith
