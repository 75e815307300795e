-- What each event makes of the contents of a link, of V(A) and of V(S).
use Rattle.laws_link.proofs.Vocabulary.{◌≡◌, ℕ, ◌+◌, ◌≤◌, Bool, true, false, cond, IsTrue, List, [], ◌∷◌, length, take, drop, Option, Some, None, is_some, refl, ◌⊎◌, inl, inr, sym, subst, true≢false, arith, length-take-le, append-nil, drop-drop, add-zero, ⊎_elim, All, nat_lt, nat_le, option_map_or, drop_all, drop-append-le, All-head, Control, Ui, ErrorCode, Refusal, WrongState, State, TeiAssigned}
use Rattle.laws_link.proofs.Vocabulary.{LinkCounts, with_counted, expire_running}
use Rattle.laws_link.proofs.Vocabulary.{AwaitingEstablishment, AwaitingRelease, Established, TimerRecovery, LinkTimer, T200, ControlFrame, Terms, Link, is_multiple_frame, IsSettledIn, IsSound, IsWaitingFrame, Course, begun, Step, ◌then◌, nothing, changed, Leads, nothing_leads, number_of, acknowledged_by, contents_asked, gives_up, tells_loss, Share, share, left_by, with_share, unit_due}
use Rattle.laws_link.proofs.Vocabulary.{is_i_frame, i_frames, begin_anew, deliver_unit, long_unit_in_7_8, malformed_down, pending_is, start, unit_data, give_information, give_waiting, is_awaiting_acknowledgement, may_send_information, offer_among, send_acknowledgement, with_one_sent, course, expired_in, expired_step, frame_in, frame_step, given_of, is_running, malformed_in, told_of_clearing}
use Rattle.laws_link.proofs.Vocabulary.{both_ways, ◌||◌, zero-add}
use Rattle.model_link.specs.Events
use Rattle.model_link.specs.Requests
use Rattle.laws_link.proofs.Queueing.{On, words}
use Rattle.laws_link.proofs.Moves.{Goes, Empties, Restarts, Moves}
use Rattle.laws_link.proofs.Delivered.{not-over}
use Rattle.laws_link.proofs.QueueRows.{is_ui, count, Stay, Move, none-kept, all-taken, still, frames_in_4, released_in_4, frames_in_5, t200_in_5, frames_in_6, t200_in_6, frames_in_7, timer_in_7, frames_in_8, t200_in_8, set_busy, clear_busy}

-- What a share leads to: the history that it makes, and what of the contents that were kept it leaves.
pub record Comes (share : Share) (all : List (List ℕ)) (a : ℕ) (all' : List (List ℕ)) (a' : ℕ) : Type 0 where
  pub contents : all' ≡ (with_share (record { accepted = all; acknowledged = a }) share).accepted
  pub acknowledged : a' ≡ (with_share (record { accepted = all; acknowledged = a }) share).acknowledged
  pub kept : drop a' all' ≡ left_by share (drop a all)

-- and V(S), where n I-frames were given
abbrev pub Follows : ℕ → ℕ → ℕ → ℕ → Type 0
Follows n s a' s' = (s' ≡ s + n) ⊎ ((n ≡ 0) × (s' ≡ a'))

pub record Done (share : Share) (all : List (List ℕ)) (a s n : ℕ) (all' : List (List ℕ)) (a' s' : ℕ) : Type 0 where
  pub comes : Comes share all a all' a'
  pub follows : Follows n s a' s'

emptied : (all more : List (List ℕ)) (a n : ℕ) → a ≤ length all
    → Comes (record { restarts = false; empties = true; accepted = more; acknowledged = n }) all a (take a all) a
emptied all more a n few = grind (arith, drop_all, length-take-le)

pub restarted : (loss : Bool) (all : List (List ℕ)) (a : ℕ)
    → Comes (record { restarts = true; empties = loss; accepted = []; acknowledged = 0 }) all a (cond loss [] (drop a all)) 0
restarted loss all a = grind (arith, append-nil)

-- the share of a row
abbrev row : Bool → Bool → ℕ → Share
row zeroed loss n = record { restarts = zeroed; empties = loss; accepted = []; acknowledged = n }

pub done : (all : List (List ℕ)) (a s n : ℕ) (all' : List (List ℕ)) (a' s' : ℕ) (loss zeroed : Bool) (unit : Option (List ℕ)) (given_up : ℕ) → a ≤ length all
    → Moves all a s n all' a' s' loss zeroed unit given_up → Done (row zeroed loss n) all a s 0 all' a' s'
done all a s n all' a' s' loss zeroed unit given_up few h = grind (arith, by-going, by-emptying, by-restarting)
  where
    by-going : Goes all a s n all' a' s' loss zeroed unit given_up → Done (row zeroed loss n) all a s 0 all' a' s'
    by-going g = grind (arith, drop-append-le, drop-drop, append-nil)

    by-emptying : Empties all a all' a' s' loss zeroed unit given_up → Done (row zeroed loss n) all a s 0 all' a' s'
    by-emptying g =
        let x : Comes (row false true n) all a (take a all) a = emptied all [] a n few in
        grind arith

    by-restarting : Restarts all a n all' a' s' loss zeroed unit given_up → Done (row zeroed loss n) all a s 0 all' a' s'
    by-restarting g = grind (arith, restarted)

module _ (t : Terms) (l : Link) (h : IsSound t l) where
  abbrev Led : Share → ℕ → Course → Type 0
  Led share n c = Done share l.contents l.a l.s n c.link.contents c.link.a c.link.s

  few : l.a ≤ length l.contents
  few = let low : l.a ≤ l.s = h.ordered in let high : l.s ≤ length l.contents = h.accepted in omega arith

  Moved : ℕ → Course → Type 0
  Moved n c = On (Move t l h.ordered h.accepted n) c

  -- a row of an event that accepts nothing
  by-row : (n : ℕ) (c : Course) → Moved n c → Led (row c.zeroed (tells_loss c.notes) n) 0 c
  unfolding Moved
  by-row n c m = done l.contents l.a l.s n c.link.contents c.link.a c.link.s (tells_loss c.notes) c.zeroed c.unit c.given_up few m

  -- what leaves the contents and V(A)
  leaves : (all : List (List ℕ)) (a : ℕ) (loss zeroed : Bool) → all ≡ l.contents → a ≡ l.a → loss ≡ false → zeroed ≡ false
      → Comes (row zeroed loss 0) l.contents l.a all a
  leaves all a loss zeroed e e' q on = grind (arith, drop-append-le, drop-drop, few, append-nil, add-zero)

  unmoved-by : (f : Step) → Leads (On (Stay t l h.ordered h.accepted)) f (On (Stay t l h.ordered h.accepted)) → Moved 0 (f (begun l))
  unfolding Moved
  unmoved-by f x = still t l h.ordered h.accepted f x

  settled : (here : State) → l.state ≡ here → IsSettledIn here l
  settled here e = subst (λ s. IsSettledIn s l) e h.settled

  over : IsTrue l.owed → length l.contents ≡ l.a
  over is = (h.owed is).queue

  -- An N(R) counts in states 7 and 8 alone.
  count-is : (here : State) → l.state ≡ here → (o : Option Rattle.lapd_seq.specs.declared.numbers.Seq.Seq) → is_multiple_frame here ≡ true → acknowledged_by o l ≡ count l.a l.s o
  count-is here e o m = grind arith

  none-counts : (here : State) → l.state ≡ here → (o : Option Rattle.lapd_seq.specs.declared.numbers.Seq.Seq) → is_multiple_frame here ≡ false → acknowledged_by o l ≡ 0
  none-counts here e o m = grind arith

  by-state : (here : State) → l.state ≡ here → (b : Bool) (octets : List ℕ) (control : Control) → is_ui control ≡ false
      → Moved (acknowledged_by (number_of t control octets) l) (frame_in here t b octets control (begun l))
  unfolding Moved
  by-state TeiAssigned e b octets control is = grind (arith, Moved, none-counts, frames_in_4, settled)
  by-state AwaitingEstablishment e b octets control is = grind (arith, Moved, none-counts, frames_in_5, settled, over)
  by-state AwaitingRelease e b octets control is = grind (arith, none-counts, frames_in_6, settled)
  by-state Established e b octets control is = grind (arith, count-is, frames_in_7)
  by-state TimerRecovery e b octets control is =
      subst (λ n. Moved n (frame_in TimerRecovery t b octets control (begun l))) (sym (count-is TimerRecovery e (number_of t control octets) refl))
      (frames_in_8 t l h.ordered h.accepted b octets control is)

  frames : (b : Bool) (octets : List ℕ) (control : Control) → is_ui control ≡ false → Moved (acknowledged_by (number_of t control octets) l) (frame_step t b octets control (begun l))
  frames b octets control is = by-state l.state refl b octets control is

  malformed : (here : State) (e : ErrorCode) → Moved 0 (malformed_in here t e (begun l))
  unfolding Moved
  malformed here e = grind (arith, still, words, unmoved-by)

  -- Timers.
  unmoved : Moved 0 (begun l)
  unmoved = unmoved-by nothing nothing_leads

  expired-in : (change : LinkCounts → LinkCounts) (here : State) → l.state ≡ here → (timer : LinkTimer) → Moved 0 (expired_in here timer t (begun (with_counted change l)))
  unfolding Moved
  expired-in change AwaitingEstablishment e T200 = t200_in_5 t (with_counted change l) h.ordered h.accepted
  expired-in change AwaitingRelease e T200 = t200_in_6 t (with_counted change l) h.ordered h.accepted (settled AwaitingRelease e)
  expired-in change Established e timer = timer_in_7 t (with_counted change l) h.ordered h.accepted timer
  expired-in change TimerRecovery e T200 = t200_in_8 t (with_counted change l) h.ordered h.accepted
  expired-in change here e timer = still t (with_counted change l) h.ordered h.accepted nothing nothing_leads

  expires : (b : Bool) (timer : LinkTimer) → Moved 0 (cond b (expire_running timer t (begun l)) (begun l))
  expires b timer = grind (arith, expired-in, unmoved)

  -- Requests of layer 3.
  abbrev requested-share : Bool → List (List ℕ) → Bool → Course → Share
  requested-share refused more release c = record {
    restarts = c.zeroed;
    empties = Rattle.std.specs.Prelude.◌||◌ (cond refused false release) (tells_loss c.notes);
    accepted = cond refused [] more;
    acknowledged = 0;
  }

  served : (b : Bool) (o : Option Refusal) → cond b o (Some WrongState) ≡ None → b ≡ true
  served b o e = grind arith

  abbrev Emptied : Course → Type 0
  Emptied c = Led (requested-share false [] true c) 0 c

  establishes : (here : State) → l.state ≡ here → Requests.serves t.reading here l.owed Events.Establish ≡ true → Emptied (Requests.establish_in here t (begun l))
  establishes TeiAssigned e s =
      let none = settled TeiAssigned e in
      let kept : Comes (record { restarts = false; empties = true; accepted = []; acknowledged = 0 }) l.contents l.a l.contents l.a =
      record { contents = all-taken t l h.ordered h.accepted none; acknowledged = refl; kept = drop_all l.a l.contents (omega (arith, none)) } in
      record { comes = kept; follows = inl (sym (add-zero l.s)) }
  establishes AwaitingEstablishment e s = record { comes = emptied l.contents [] l.a 0 few; follows = inr (refl, refl) }
  establishes other e s = absurd (grind (arith, true≢false))

  releases : (here : State) → l.state ≡ here → Requests.serves t.reading here l.owed Events.Release ≡ true → Emptied (Requests.release_in here t (begun l))
  unfolding Moved
  releases TeiAssigned e s = by-row 0 (Requests.release_in TeiAssigned t (begun l)) (released_in_4 t l h.ordered h.accepted (settled TeiAssigned e))
  releases AwaitingEstablishment e s = record { comes = emptied l.contents [] l.a 0 few; follows = inr (refl, refl) }
  releases Established e s = record { comes = emptied l.contents [] l.a 0 few; follows = inr (refl, refl) }
  releases TimerRecovery e s = record { comes = emptied l.contents [] l.a 0 few; follows = inr (refl, refl) }
  releases other e s = absurd (grind (arith, true≢false))

  granted : (request : Events.Request) (o : Option Refusal) → cond (Requests.serves t.reading l.state l.owed request) o (Some WrongState) ≡ None
      → Led (requested-share false (contents_asked request) (gives_up request) (Requests.granted t request (begun l))) 0 (Requests.granted t request (begun l))
  unfolding Moved
  granted Events.Establish o e = establishes l.state refl (served (Requests.serves t.reading l.state l.owed Events.Establish) o e)
  granted Events.Release o e = releases l.state refl (served (Requests.serves t.reading l.state l.owed Events.Release) o e)
  granted (Events.Data octets) o e = grind (arith, add-zero, drop-append-le, drop-drop)
  granted Events.SetBusy o e = by-row 0 (Requests.granted t Events.SetBusy (begun l)) (set_busy t l h.ordered h.accepted)
  granted Events.ClearBusy o e = by-row 0 (Requests.granted t Events.ClearBusy (begun l)) (clear_busy t l h.ordered h.accepted)

  requested : (request : Events.Request) (full : Bool) (o : Option Refusal) → Requests.refusal t l full request ≡ o
      → let c = elim o as (λ o. Course) [ None ↦ Requests.granted t request (begun l) | Some _ ↦ begun l ] in
      Led (requested-share (is_some o) (contents_asked request) (gives_up request) c) 0 c
  requested request full None e = granted request (Requests.refusal_for_room t l full request) e
  requested request full (Some w) e = by-row 0 (begun l) unmoved

  -- Offers.
  abbrev given-in : Course → ℕ
  given-in c = cond (option_map_or is_i_frame (given_of t l c c.sent) false) 1 0

  gives : (c : Course) (n : ℕ) → c.link.contents ≡ l.contents → c.link.a ≡ l.a → c.link.s ≡ l.s + n → tells_loss c.notes ≡ false → c.zeroed ≡ false
      → Led (row c.zeroed (tells_loss c.notes) 0) n c
  gives c n e e' e'' q on = record { comes = leaves c.link.contents c.link.a (tells_loss c.notes) c.zeroed e e' q on; follows = inl e'' }

  abbrev Gives : Course → Type 0
  Gives c = Led (row c.zeroed (tells_loss c.notes) 0) (given-in c) c

  offers : (ws : List ControlFrame) → All (IsWaitingFrame t) ws → Gives (offer_among t ws (begun l))
  offers (f ∷ fs) frames =
      let bare = (All-head (IsWaitingFrame t) f fs frames).without_contents in
      subst (λ b. Led (row false false 0) (cond b 1 0) (give_waiting f fs (begun l))) (sym bare) (gives (give_waiting f fs (begun l)) 0 refl refl (sym (add-zero l.s)) refl refl)
  offers [] frames =
      let one_more = (give_information then changed with_one_sent then pending_is false) (begun l) in
      both_ways Gives (may_send_information t l) _ _
      (both_ways Gives (is_awaiting_acknowledgement one_more.link) one_more (start T200 one_more) (gives one_more 1 refl refl refl refl refl) (gives (start T200 one_more) 1 refl refl refl refl refl))
      (both_ways Gives l.pending _ _ (gives (send_acknowledgement (begun l)) 0 refl refl (sym (add-zero l.s)) refl refl) (gives (begun l) 0 refl refl (sym (add-zero l.s)) refl refl))

  -- The TEI leaves the line.
  clears : (here : State) → let c = begin_anew (told_of_clearing here t (begun l)) in
      Led (record { restarts = true; empties = true; accepted = []; acknowledged = 0 }) 0 c
  clears here = grind (arith, restarted)

  -- A UI, in every state.
  long-unit : Moved 0 (long_unit_in_7_8 t (begun l))
  unfolding Moved
  long-unit = unmoved-by (long_unit_in_7_8 t) (search words)

  unit-led : (long : Step) → Moved 0 (long (begun l)) → (octets : List ℕ) → let c = unit_data t long octets (begun l) in
      Led (row c.zeroed (tells_loss c.notes) 0) 0 c
  unit-led long m octets = both_ways (λ c. Led (row c.zeroed (tells_loss c.notes) 0) 0 c) (nat_lt t.n201 (length octets)) _ _
      (by-row 0 (long (begun l)) m)
      (gives (deliver_unit t octets (begun l)) 0 refl refl (sym (add-zero l.s)) refl refl)

  by-unit : (here : State) (b : Bool) (octets : List ℕ) (p : Bool) → let c = frame_in here t b octets (Ui p) (begun l) in
      Led (row c.zeroed (tells_loss c.notes) 0) 0 c
  by-unit TeiAssigned b octets p = unit-led (malformed_down t ErrorCode.O) (malformed TeiAssigned ErrorCode.O) octets
  by-unit AwaitingEstablishment b octets p = unit-led (malformed_down t ErrorCode.O) (malformed AwaitingEstablishment ErrorCode.O) octets
  by-unit AwaitingRelease b octets p = unit-led (malformed_down t ErrorCode.O) (malformed AwaitingRelease ErrorCode.O) octets
  by-unit Established b octets p = unit-led (long_unit_in_7_8 t) long-unit octets
  by-unit TimerRecovery b octets p = unit-led (long_unit_in_7_8 t) long-unit octets

  -- A frame.
  by-frame : (b : Bool) (octets : List ℕ) (control : Control) → (d : Bool) → is_ui control ≡ d
      → let c = frame_step t b octets control (begun l) in
      Led (row c.zeroed (tells_loss c.notes) (acknowledged_by (number_of t control octets) l)) 0 c
  by-frame b octets control false e = by-row _ (frame_step t b octets control (begun l)) (frames b octets control e)
  by-frame b octets (Ui p) true e = by-unit l.state b octets p
  by-frame b octets other true e = absurd (true≢false (sym e))

  -- Any event.
  pub event-done : (e : Events.Event) → Led (share t e l) (i_frames t e l) (course t e l)
  event-done (Events.received (Events.frame f)) = by-frame f.address.command f.info f.control (is_ui f.control) refl
  event-done (Events.received Events.undefined) = by-row 0 (malformed_in l.state t ErrorCode.L (begun l)) (malformed l.state ErrorCode.L)
  event-done (Events.received Events.wrong_size) = by-row 0 (malformed_in l.state t ErrorCode.N (begun l)) (malformed l.state ErrorCode.N)
  event-done (Events.received Events.overlong) = by-row 0 (malformed_in l.state t ErrorCode.O (begun l)) (malformed l.state ErrorCode.O)
  event-done (Events.expired timer) = by-row 0 (expired_step t timer (begun l)) (expires (is_running timer l) timer)
  event-done (Events.requested request full) = requested request full (Requests.refusal t l full request) refl
  event-done Events.offer = offers l.waiting h.frames
  event-done Events.cleared = clears l.state

  -- What is given up: all that is kept where it goes, and else nothing.
  abbrev Gone : Bool → Course → Type 0
  Gone all c = c.given_up ≡ cond all (length (drop l.a l.contents)) 0

  gone-by : (n : ℕ) (c : Course) → Moved n c → Gone (tells_loss c.notes) c
  unfolding Moved
  gone-by n c m = grind (arith, ⊎_elim, cond, length, drop)

  unit-gone : (long : Step) → Moved 0 (long (begun l)) → (octets : List ℕ) → let c = unit_data t long octets (begun l) in Gone (tells_loss c.notes) c
  unit-gone long m octets = both_ways (λ c. Gone (tells_loss c.notes) c) (nat_lt t.n201 (length octets)) _ _ (gone-by 0 (long (begun l)) m) refl

  ui-gone : (here : State) (b : Bool) (octets : List ℕ) (p : Bool) → let c = frame_in here t b octets (Ui p) (begun l) in Gone (tells_loss c.notes) c
  ui-gone h b octets p = grind (arith, unit-gone, malformed_down, malformed, long_unit_in_7_8, long-unit)

  frame-gone : (b : Bool) (octets : List ℕ) (control : Control) → (d : Bool) → is_ui control ≡ d
      → let c = frame_step t b octets control (begun l) in Gone (tells_loss c.notes) c
  frame-gone b octets control false e = gone-by _ (frame_step t b octets control (begun l)) (frames b octets control e)
  frame-gone b octets (Ui p) true e = ui-gone l.state b octets p
  frame-gone b octets other true e = absurd (true≢false (sym e))

  establish-gone : (here : State) → l.state ≡ here → Requests.serves t.reading here l.owed Events.Establish ≡ true → Gone true (Requests.establish_in here t (begun l))
  establish-gone other e s = grind (arith, none-kept, settled, zero-add, true≢false)

  release-gone : (here : State) → l.state ≡ here → Requests.serves t.reading here l.owed Events.Release ≡ true → Gone true (Requests.release_in here t (begun l))
  release-gone other e s = grind (arith, none-kept, settled, zero-add, true≢false)

  granted-gone : (request : Events.Request) (o : Option Refusal) → cond (Requests.serves t.reading l.state l.owed request) o (Some WrongState) ≡ None
      → Gone (gives_up request || tells_loss (Requests.granted t request (begun l)).notes) (Requests.granted t request (begun l))
  unfolding Moved
  granted-gone h o e = grind (arith, gone-by, begun, establish-gone, release-gone, served, set_busy, clear_busy)

  requested-gone : (request : Events.Request) (full : Bool) (o : Option Refusal) → Requests.refusal t l full request ≡ o
      → let c = elim o as (λ o. Course) [ None ↦ Requests.granted t request (begun l) | Some _ ↦ begun l ] in
      Gone (cond (is_some o) false (gives_up request) || tells_loss c.notes) c
  requested-gone request full h e = grind (arith, granted-gone)

  clears-gone : (here : State) → Gone true (begin_anew (told_of_clearing here t (begun l)))
  clears-gone here = grind (arith, zero-add)

  offer-gone : (ws : List ControlFrame) → let c = offer_among t ws (begun l) in Gone (tells_loss c.notes) c
  offer-gone ws = grind arith

  pub event-gone : (e : Events.Event) → Gone (share t e l).empties (course t e l)
  event-gone (Events.received (Events.frame f)) = frame-gone f.address.command f.info f.control (is_ui f.control) refl
  event-gone (Events.received Events.undefined) = gone-by 0 (malformed_in l.state t ErrorCode.L (begun l)) (malformed l.state ErrorCode.L)
  event-gone (Events.received Events.wrong_size) = gone-by 0 (malformed_in l.state t ErrorCode.N (begun l)) (malformed l.state ErrorCode.N)
  event-gone (Events.received Events.overlong) = gone-by 0 (malformed_in l.state t ErrorCode.O (begun l)) (malformed l.state ErrorCode.O)
  event-gone (Events.expired timer) = gone-by 0 (expired_step t timer (begun l)) (expires (is_running timer l) timer)
  event-gone (Events.requested request full) = requested-gone request full (Requests.refusal t l full request) refl
  event-gone Events.offer = offer-gone l.waiting
  event-gone Events.cleared = clears-gone l.state

  -- Unit data is told of UI frames alone.
  no-unit : (n : ℕ) (c : Course) → Moved n c → c.unit ≡ None
  unfolding Moved
  no-unit n c m = ⊎_elim (λ g. g.no_unit) (λ other. ⊎_elim (λ g. g.no_unit) (λ g. g.no_unit) other) m

  by-length : (long : Course) → long.unit ≡ None → (octets : List ℕ) (b : Bool) → nat_lt t.n201 (length octets) ≡ b
      → (cond b long (deliver_unit t octets (begun l))).unit ≡ cond (nat_le (length octets) t.n201) (Some octets) None
  by-length long none octets b e = grind (arith, not-over)

  unit-told : (here : State) (b : Bool) (octets : List ℕ) (p : Bool)
      → (frame_in here t b octets (Ui p) (begun l)).unit ≡ cond (nat_le (length octets) t.n201) (Some octets) None
  unit-told h b octets p = grind (arith, by-length, malformed_down, begun, no-unit, malformed, nat_lt, length, long_unit_in_7_8, long-unit)

  set-busy : Moved 0 (Requests.granted t Events.SetBusy (begun l))
  unfolding Moved
  set-busy = set_busy t l h.ordered h.accepted

  clear-busy : Moved 0 (Requests.granted t Events.ClearBusy (begun l))
  unfolding Moved
  clear-busy = clear_busy t l h.ordered h.accepted

  pub event-unit : (e : Events.Event) → (course t e l).unit ≡ unit_due t e
  event-unit (Events.received (Events.frame f)) = grind (arith, unit-told, no-unit, by-state)
  event-unit e = grind (arith, no-unit, malformed, expires, set-busy, clear-busy, both_ways)
