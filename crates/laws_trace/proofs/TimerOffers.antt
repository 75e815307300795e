-- What is known of a link, and its timers, over an offer; and what its orders start.
use Rattle.laws_trace.proofs.Vocabulary.{◌≡◌, ◌||◌, true, false, cond, List, [], ◌∷◌, Option, None, refl, arith, All, option_map_or, All-head, seq, ControlFrame, State, Terms, LinkTimer, Link, IsWaitingFrame, Given, runs, unwrap_or, LinkIsSound as IsSound, Course, begun, offer, course, given, link_given_of as given_of, give_waiting, offer_among}
use Rattle.laws_trace.proofs.TimersWatched.{Sent, sent_by, Known, nothing_yet, sends}
use Rattle.laws_trace.proofs.States.{is_state}
use Rattle.laws_trace.proofs.DataGoesOut.{none-sent}
use Rattle.laws_trace.proofs.TimerActs.{Timing, timing}
use Rattle.laws_trace.proofs.TimerClaims.{Agrees, Kept, told_state}

-- What is known behind an I-frame that begins, or behind none.
abbrev pub sent_known : State → Known → Option Sent → Known
sent_known here k o = cond (is_state 7 (told_state here) || is_state 8 (told_state here)) (option_map_or (sends k) o k) nothing_yet

pub record Offered (k : Known) (l : Link) (y : Timing) (o : Option Sent) : Type 0 where
  pub state : y.state ≡ l.state
  pub agrees : Agrees y.state (sent_known y.state k o) y.a y.s y.busy
  pub quiet : (timer : LinkTimer) → runs timer l.running ≡ true → runs timer y.running ≡ true → runs timer y.started ≡ false
  pub kept : Kept y.state (timing (begun l)) y

abbrev pub given_sent : Given → Option Sent
given_sent g = sent_by g.frame.control (unwrap_or g.contents [])

module _ (t : Terms) (k : Known) (l : Link) (s : IsSound t l) (agrees : Agrees l.state k l.a l.s l.peer_busy) where
  abbrev Claim : Course → Type 0
  Claim c = Offered k l (timing c) (option_map_or given_sent (given_of t l c c.sent) None)

  -- nothing but what goes changes
  stays : (c : Course) → timing c ≡ timing (begun l) → option_map_or given_sent (given_of t l c c.sent) None ≡ None → Claim c
  stays c same none = grind (arith, timing)

  by-waiting : (ws : List ControlFrame) → All (IsWaitingFrame t) ws → Claim (offer_among t ws (begun l))
  unfolding seq
  by-waiting (f ∷ fs) all =
      stays (give_waiting f fs (begun l)) refl (none-sent f.control [] (All-head (IsWaitingFrame t) f fs all).without_contents)
  by-waiting [] all = grind (arith, timing, stays)

  pub offer-good : Offered k l (timing (course t offer l)) (option_map_or given_sent (given t l) None)
  offer-good = by-waiting l.waiting s.frames
