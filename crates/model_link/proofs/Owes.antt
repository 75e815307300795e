-- What a link owes the line, and how each word raises it: a purse holds the frames that may still be sent.
use Rattle.model_link.proofs.Vocabulary.{◌≡◌, ℕ, ◌+◌, ◌-◌, ◌≤◌, Bool, true, false, cond, IsTrue, List, [], ◌∷◌, ◌++◌, length, take, drop, Option, is_some, refl, arith, length-append, length-take-le, length-drop, State, TeiAssigned, AwaitingEstablishment, AwaitingRelease, Established, TimerRecovery, LinkTimer, T203, ControlFrame, Terms, may_send, window_back, data_in_7_8, is_multiple_frame}
use Rattle.model_link.proofs.Vocabulary.{IsInRange, Sent, Course, ◌then◌, changed, acknowledge, asked_is, begin_anew, clear_flags, discard, enter, has_room, own_busy_is, pending_is, rr_or_rnr, report_receiver_status, response, send, send_again_from, start, with_own_busy, zero_numbers, reset_numbers, owed_is, give_acknowledgement, give_information, give_waiting, with_one_sent}
use Rattle.model_link.proofs.Waits.{Waits}
use Rattle.model_link.proofs.Kept.{Purse, another, two}
unfoldable use Rattle.model_link.proofs.Kept.{how_many}
use Rattle.model_link.proofs.Careful.{Careful}
use Rattle.model_link.proofs.SoundRows.{is_in, Standing, CourseStands, stand}

-- What an event under way has sent, and what the link may still send.
abbrev pub owed : Terms → Course → ℕ
owed t c = cond {A = ℕ} (is_some c.sent) 1 0 + may_send t c.link

pub record Owing (t : Terms) (total extra : ℕ) (p : Purse) (sent : Option Sent) (contents : List (List ℕ)) (a s g : ℕ) (state : State) (asked : Bool) (ws : List ControlFrame) (own pending : Bool) : Type 0 where
  pub stands : Standing t t.queue contents a s g state asked ws own pending
  pub within : cond {A = ℕ} (is_some sent) 1 0 + (length ws + (length contents - s) + cond {A = ℕ} pending 1 0 + window_back state t.k) + how_many p + extra ≤ total

abbrev pub Owes : Terms → ℕ → ℕ → Purse → Course → Type 0
Owes t total extra p c = Owing t total extra p c.sent c.link.contents c.link.a c.link.s c.link.again c.link.state c.link.asked c.link.waiting c.link.own_busy c.link.pending

-- What is wanted in the end.
pub record Within (t : Terms) (total : ℕ) (c : Course) : Type 0 where
  pub within : owed t c ≤ total

-- a frame that waits is one more at most
one-more : (b : Bool) (ws : List ControlFrame) (f : ControlFrame) → length (cond b (ws ++ f ∷ []) ws) ≤ 1 + length ws
one-more b ws f = grind (arith, length-append)

-- acknowledged, and to be sent again from the same number on: a window more may be unsent
resent : (len a s m k : ℕ) → a ≤ m → s ≤ a + k → s ≤ len → m ≤ s → len - m ≤ k + (len - s)
resent len a s m k from within all to = omega arith

module _ (t : Terms) (r : IsInRange t) (total extra : ℕ) (Window : Type 0) (pays : Window → extra ≡ t.k) where
  abbrev sound : Careful t (Unit {0}) (Unit {0}) (Unit {0}) (Unit {0}) (Unit {0}) (Unit {0}) is_in (CourseStands t t.queue) (λ p q c. CourseStands t t.queue c) (CourseStands t t.queue)
  sound = stand t r.tei t.queue (Unit {0}) (λ x. refl)

  -- the last word, and any that raises what is owed by no more than it spends
  done : (p : Purse) (c : Course) → Owes t total extra p c → Within t total c
  done p c h = record { within = omega (arith, h.within) }

  spends : (p p' : Purse) (c c' : Course) → CourseStands t t.queue c' → owed t c' + how_many p' ≤ owed t c + how_many p → Owes t total extra p c → Owes t total extra p' c'
  spends p p' c c' x less h = record { stands = x; within = omega (arith, less, h.within) }

  saves : (p : Purse) (c : Course) → Owes t total extra (another p) c → Owes t total extra p c
  unfolding how_many
  saves p c h = spends (another p) p c c h.stands (omega arith) h

  -- the words that change what is owed
  sends : (p : Purse) (f : ControlFrame) (c : Course) → Waits t f → Owes t total extra (another p) c → Owes t total extra p (send t f c)
  unfolding how_many
  sends p f c w h = spends (another p) p c (send t f c) (sound.send p p f c w h.stands) (let more = one-more (has_room t c.link) c.link.waiting f in omega (arith, more)) h

  settles : (p : Purse) (c : Course) → Owes t total extra p c → Owes t total extra p (pending_is false c)
  settles p c h = spends p p c (pending_is false c) (sound.settled p p c h.stands) (omega arith) h

  flags : (p : Purse) (c : Course) → Owes t total extra p c → Owes t total extra p (clear_flags c)
  flags p c h = spends p p c (clear_flags c) (sound.flags p p c h.stands) (omega arith) h

  reports : (p : Purse) (b : Bool) (c : Course) → Owes t total extra (another p) c → Owes t total extra p (report_receiver_status t (own_busy_is b c))
  unfolding how_many
  reports p b c h =
      spends (another p) p c (report_receiver_status t (own_busy_is b c)) (sound.busy p p b c h.stands)
      (let more = one-more (has_room t c.link) c.link.waiting (response (rr_or_rnr false (with_own_busy b c.link))) in omega (arith, more)) h

  owes : (p : Purse) (c : Course) → c.link.own_busy ≡ false → Owes t total extra (another p) c → Owes t total extra p (pending_is true c)
  unfolding how_many
  owes p c off h = spends (another p) p c (pending_is true c) (sound.owing p p c off h.stands) (omega arith) h

  zeroes : (p : Purse) (c : Course) → Owes t total extra p c → Owes t total extra p (zero_numbers c)
  zeroes p c h =
      let e : length (drop c.link.s c.link.contents) ≡ length c.link.contents - c.link.s = length-drop c.link.s c.link.contents in
      spends p p c (zero_numbers c) (sound.zero tt p p c h.stands) (omega (arith, e)) h

  resets : (p : Purse) (c : Course) → Owes t total extra p c → Owes t total extra p (reset_numbers c)
  resets p c h =
      let e : length (drop c.link.s c.link.contents) ≡ length c.link.contents - c.link.s = length-drop c.link.s c.link.contents in
      spends p p c (reset_numbers c) (sound.reset tt p p c h.stands) (omega (arith, e)) h

  discards : (p : Purse) (c : Course) → Owes t total extra p c → Owes t total extra p (discard c)
  discards p c h =
      let order : c.link.a ≤ c.link.s = h.stands.ordered in
      let e : length (take c.link.a c.link.contents) ≡ c.link.a = length-take-le c.link.a c.link.contents (omega arith) in
      spends p p c (discard c) (sound.discard p p c h.stands) (omega (arith, e)) h

  acknowledges : (p : Purse) (n : ℕ) (here : State) (c : Course) → c.link.a ≤ n → n ≤ c.link.s → c.link.state ≡ here → IsTrue (is_multiple_frame here)
      → Owes t total extra p c → Owes t total extra p (acknowledge n c)
  acknowledges p n here c from to e up h = spends p p c (acknowledge n c) (sound.acknowledge p p n here c from to e up h.stands) (omega arith) h

  -- the states that are entered last
  enters-4 : (p : Purse) (c : Course) → Owes t total extra p c → Within t total (enter TeiAssigned c)
  enters-4 p c h = record { within = omega (arith, h.within) }

  enters-5 : (p : Purse) (b : Bool) (c : Course) → Owes t total extra p c → Within t total ((asked_is b then enter AwaitingEstablishment) c)
  enters-5 p b c h = record { within = omega (arith, h.within) }

  asks-anew : (p : Purse) (asked owed : Bool) (c : Course) → Owes t total extra p c → Within t total ((asked_is asked then owed_is owed) c)
  asks-anew p asked owed c h = record { within = omega (arith, h.within) }

  enters-6 : (p : Purse) (c : Course) → Owes t total extra p c → Within t total (enter AwaitingRelease c)
  enters-6 p c h = record { within = omega (arith, h.within) }

  enters-7 : (p : Purse) (c : Course) → Owes t total extra p c → Within t total (enter Established c)
  enters-7 p c h = record { within = omega (arith, h.within) }

  -- the window is what state 8 may bring back
  enters-8 : (p : Purse) (c : Course) → Window → Owes t total extra p c → Within t total (enter TimerRecovery c)
  enters-8 p c w h = let paid = pays w in record { within = omega (arith, paid, h.within) }

  begins : (p : Purse) (c : Course) → Owes t total extra p c → Within t total (begin_anew c)
  begins p c h = record { within = omega (arith, h.within) }

  again : (p : Purse) (n : ℕ) (c : Course) → Window → c.link.a ≤ n → n ≤ c.link.s → Owes t total extra p c
      → Within t total ((send_again_from n then start T203) c)
  again p n c w from to h = grind (arith, resent)

  -- the way back from state 8 to state 7 costs a window, and pays it
  recovers : (p : Purse) (n : ℕ) (timer : LinkTimer) (c : Course) → c.link.a ≤ n → n ≤ c.link.s → c.link.state ≡ TimerRecovery → Owes t total extra p c
      → Within t total ((send_again_from n then start timer then enter Established) c)
  recovers p n timer c from to e h = grind (arith, resent)

  transfers : (p : Purse) (octets : List ℕ) (c : Course) → Owes t total extra (another p) c → Within t total (data_in_7_8 octets c)
  unfolding how_many
  transfers p octets c h = grind (arith, length-append)

  -- no offer is one of these events
  gives-waiting : (f : ControlFrame) (fs : List ControlFrame) (c : Course) → ⊥ → Within t total (give_waiting f fs c)
  gives-waiting f fs c o = absurd o

  gives-information : (p : Purse) (c : Course) → ⊥ → Owes t total extra p ((give_information then changed with_one_sent) c)
  gives-information p c o = absurd o

  gives-acknowledgement : (p : Purse) (c : Course) → ⊥ → Owes t total extra p (give_acknowledgement c)
  gives-acknowledgement p c o = absurd o

  pub costs : Careful t (Unit {0}) (Unit {0}) (Unit {0}) Window (Unit {0}) ⊥ is_in (Owes t total extra two) (λ p q c. Owes t total extra p c) (Within t total)
  costs = search (done, saves, sends, settles, flags, reports, owes, zeroes, resets, discards, acknowledges, enters-4, enters-5, asks-anew, enters-6, enters-7, enters-8, begins, again, recovers, transfers, gives-waiting, gives-information, gives-acknowledgement) depth 12 fits 4000
