-- What an observer of a line knows of a link, by the procedures of Q.921: what the link hears, what layer 3 asks, what
-- runs out, and what it sends.
use Rattle.std.specs.Prelude.{ℕ, ◌+◌, ◌-◌, ◌%◌, min, ◌==◌, ◌&&◌, ◌||◌, not, nat_lt, Bool, true, false, List, fold, is_some, if◌then◌else◌}
use Rattle.std.specs.Option.{option_map_or}
use Rattle.std.specs.Result.{result_ok}
use Rattle.model_bits.specs.Stream as stream
use Rattle.lapd_frame.specs.declared.controls.Control.{Control}
use Rattle.lapd_frame.specs.declared.controls.Control.TheVariants.{Information, ReceiveReady, ReceiveNotReady, Reject, Sabme, Disc, Ua, Ui, Dm, Frmr}
use Rattle.lapd_frame.specs.declared.services.Service.{Service}
use Rattle.lapd_frame.specs.declared.timers.Timer.{Timer}
use Rattle.lapd_frame.specs.declared.timers.Timer.TheVariants.{T200, T203}
use Rattle.lapd_frame.specs.Grammar.{Parts}
use Rattle.lapd_frame.specs.Readings.{by_reading}
use Rattle.lapd_frame.specs.Senders.{reading}
use Rattle.lapd_seq.specs.declared.numbers.Seq.{Seq}
use Rattle.model_line.specs.declared.config.Config.{Config}
use Rattle.model_line.specs.Line.{repeats_in}
use Rattle.model_line.specs.Event as line_event
use Rattle.model_line.specs.Event.{hears, expiry, request, Answer}
use Rattle.model_line.specs.Request.{Request, Establish, Release, Deactivate, SetBusy, ClearBusy}
use Rattle.model_line.specs.Taken.{own_side}
use Rattle.laws_line.specs.Share.{is_granted}
use Rattle.model_card.specs.Card.{fresh}
use Rattle.model_card.specs.Event.{Event, at}
use Rattle.model_card.specs.Machine.{answer}
use Rattle.model_card.specs.Run.{Moment, moments, after_all}
use Rattle.laws_trace.specs.LinkFrames.{frame_of, its_frame, is_too_long, malformed}
use Rattle.laws_trace.specs.Managing.{Managed, none_on, is_on, led}
use Rattle.laws_trace.specs.Trace.{is_own, is_up, frame_in}

-- The state (Q.921 annex B: 1 where the TEI is not on the line). Of this side how many contents were told since the
-- numbers began, which is V(R); whether layer 3 is busy; and whether an I-frame was rejected, and none taken since. Of
-- the other side the N(R) that was heard last, to which V(A) is set; the N(S) of the I-frame that goes next, which is
-- V(S); and whether the terminal is busy. Of state 5 whether layer 3 asked for it, or is owed a release that it asked for
-- there (annex B), and whether I-frames were outstanding as the link came there; and of states 5, 6 and 8 how often T200
-- expired there.
pub record Observed : Type 0 where
  pub state : ℕ
  pub count : ℕ
  pub own_busy : Bool
  pub rejected : Bool
  pub acknowledged : ℕ
  pub next : ℕ
  pub busy : Bool
  pub asked : Bool
  pub owed : Bool
  pub outstanding : Bool
  pub expiries : ℕ

abbrev pub in_state : ℕ → Observed
in_state n = record { state = n; count = 0; own_busy = false; rejected = false; acknowledged = 0; next = 0; busy = false; asked = false; owed = false; outstanding = false; expiries = 0 }

-- I-frames are outstanding that went, are not acknowledged and are not to go again (clauses 5.6.1, 5.6.4 and 5.6.7).
abbrev pub is_outstanding : Observed → Bool
is_outstanding o = if o.state == 5 then o.outstanding else not (o.next == o.acknowledged)

-- An answer is awaited in states 5, 6 and 8, and in state 7 where I-frames are outstanding, or the terminal is busy
-- (clauses 5.5.1.3, 5.5.3.3, 5.6.1, 5.6.5 and 5.6.7).
abbrev pub awaits : Observed → Bool
awaits o = o.state == 5 || o.state == 6 || o.state == 8 || (o.state == 7 && (o.busy || not (o.next == o.acknowledged)))

-- A link is established anew (clause 5.7.2). What was told, whether layer 3 is busy, and whether an I-frame was rejected
-- hold until the numbers begin.
abbrev pub anew : Observed → Observed
anew o = record o { state = 5; acknowledged = 0; next = 0; busy = false; asked = false; owed = false; outstanding = not (o.next == o.acknowledged); expiries = 0 }

-- The information of an I-frame is taken, and told, where its N(S) is the next, V(R), and else the frame is rejected;
-- neither is it while layer 3 is busy (clauses 5.6.2, 5.6.6 and 5.8.1).
abbrev pub takes_next : Observed → Seq → Bool
takes_next o ns = not o.own_busy && ns.value == o.count % 128

abbrev pub takes : Seq → Observed → Observed
takes ns o =
    record o { count = if takes_next o ns then o.count + 1 else o.count; rejected = if takes_next o ns then false else if not o.own_busy then true else o.rejected }

-- N(R) is invalid where it is none of V(A) to V(S), counted upwards from V(A) (clauses 3.5.2.3 and 5.8.2). That of an
-- I-frame acknowledges;
abbrev pub steps : ℕ → ℕ → ℕ
steps from to = (128 + to - from) % 128

abbrev pub is_invalid : Observed → Seq → Bool
is_invalid o nr = nat_lt (steps o.acknowledged o.next) (steps o.acknowledged nr.value)

abbrev pub numbered : Seq → Observed → Observed
numbered nr o = if is_invalid o nr then anew o else record o { acknowledged = nr.value }

-- and RR, RNR and REJ say too whether the terminal is busy. A response with F=1 ends the recovery of state 8. Behind it,
-- and behind REJ in state 7, I-frames go again from N(R) on (clauses 5.6.3 to 5.6.5 and 5.6.7).
abbrev pub apply_supervisory : Bool → Bool → Bool → Seq → Observed → Observed
apply_supervisory final again busy nr o =
    if is_invalid o nr then anew o
    else if o.state == 8 && final then record o { state = 7; acknowledged = nr.value; next = nr.value; busy = busy }
    else record o { acknowledged = nr.value; next = if again && o.state == 7 then nr.value else o.next; busy = busy }

-- What a link hears in states 7 and 8. The first bit says that it is too long, the second that it is a command.
abbrev pub while_up : Bool → Bool → Control → Observed → Observed
-- clauses 5.5.1.2 and 5.7.1
while_up long command (Sabme p) o = in_state 7
-- clause 5.5.3.2
while_up long command (Disc p) o = in_state 4
-- clauses 5.7.1 and 5.8.7
while_up long command (Dm f) o = if o.state == 8 || not f then anew o else o
-- clause 5.8.6
while_up long command (Frmr f) o = anew o
-- clauses 5.6.2, 5.8.1, 5.8.2 and 5.8.5
while_up long command (Information ns nr p) o = if long then anew o else numbered nr (takes ns o)
while_up long command (ReceiveReady nr pf) o = apply_supervisory (not command && pf) false false nr o
while_up long command (ReceiveNotReady nr pf) o = apply_supervisory (not command && pf) false true nr o
while_up long command (Reject nr pf) o = apply_supervisory (not command && pf) true false nr o
-- clause 5.8.5
while_up long command (Ui p) o = if long then anew o else o
while_up long command other o = o

-- In states 4, 5 and 6 (clauses 5.5.1.2, 5.5.3.2, 5.5.5 and 5.8.7); in state 1 nothing. By annex B the other side asks for
-- an establishment by DM with F=0 in state 4, as if layer 3 did (clause 5.5.4). In state 5 UA with F=1 establishes the
-- link, or is answered by DISC, if a release is owed (annex B).
abbrev pub asked_for : Observed
asked_for = record (in_state 5) { asked = true }

abbrev pub while_down : Config → Control → Observed → Observed
while_down c (Sabme p) o = if o.state == 4 then in_state 7 else o
while_down c (Ua f) o =
    if f && o.state == 5 then in_state (if o.owed then 6 else 7) else if f && o.state == 6 then in_state 4 else o
while_down c (Dm f) o = if f && (o.state == 5 || o.state == 6) then in_state 4 else if not f && o.state == 4 then by_reading c.reading o asked_for else o
while_down c other o = o

abbrev pub by_frame : Config → Observed → Parts → Observed
by_frame c o f =
    if is_up o.state then while_up (is_too_long c f) f.address.command f.control o else while_down c f.control o

abbrev pub by_heard : Config → Service → ℕ → stream.Event → Observed → Observed
by_heard c service tei e o =
    if is_up o.state && is_some (malformed c service tei e) then anew o else option_map_or (by_frame c o) (its_frame service tei (frame_of c e)) o

-- By annex B layer 3 may ask in state 5, too: for the establishment that is awaited, or for the release, which is owed from
-- then on. Either gives up what the link keeps, so that no I-frame is outstanding any more.
abbrev pub decides : Config → Bool → Observed → Observed
decides c establish o = by_reading c.reading o (record o { asked = establish; owed = not establish; outstanding = false })

-- What layer 3 asks, and is granted: that the link is established, or released (clauses 5.5.1.1 and 5.5.3.1); or, as its line
-- is down, deactivated (annex B); and that it is busy, or no more (clause 5.6.6).
abbrev pub by_establish : Config → Observed → Observed
by_establish c o = if o.state == 4 then asked_for else if o.state == 5 then decides c true o else o

abbrev pub by_release : Config → Observed → Observed
by_release c o = if is_up o.state then in_state 6 else if o.state == 5 then decides c false o else o

abbrev pub by_request : Config → Service → ℕ → Request → Observed → Observed
by_request c service tei (Establish of by) o = if is_own service tei of by then by_establish c o else o
by_request c service tei (Release of by) o = if is_own service tei of by then by_release c o else o
by_request c service tei (Deactivate of by) o = if is_own service tei of by then in_state 4 else o
by_request c service tei (SetBusy of by) o = if is_own service tei of by then record o { own_busy = true } else o
by_request c service tei (ClearBusy of by) o = if is_own service tei of by then record o { own_busy = false } else o
by_request c service tei other o = o

-- What runs out. The timer that runs in state 7 leads to an enquiry, in state 8 (clauses 5.6.7 and 5.10.3). In states 5,
-- 6 and 8 T200 repeats SABME, DISC or the enquiry, N200 times, and then the link is given up, or established anew
-- (clauses 5.5.1.3, 5.5.3.3, 5.6.7 and 5.9.2). By annex B the T200 that leads to the enquiry is one of these N200, if any is.
abbrev pub enquires : ℕ → Observed → Observed
enquires expiries o = record o { state = 8; expiries = expiries }

abbrev pub counted : Config → ℕ
counted c = by_reading c.reading 0 (min 1 (repeats_in c 8))

abbrev pub may_repeat : Config → Observed → Bool
may_repeat c o = nat_lt o.expiries (repeats_in c o.state)

abbrev pub by_t200 : Config → Observed → Observed
by_t200 c o =
    if o.state == 7 then (if awaits o then enquires (counted c) o else o)
    else if not (awaits o) then o
    else if may_repeat c o then record o { expiries = o.expiries + 1 }
    else if o.state == 8 then anew o else in_state 4

abbrev pub by_expiry : Config → Service → ℕ → Timer → Observed → Observed
by_expiry c service tei (T200 of by) o = if is_own service tei of by then by_t200 c o else o
by_expiry c service tei (T203 of by) o = if is_own service tei of by && (o.state == 7 && not (awaits o)) then enquires 0 o else o
by_expiry c service tei other o = o

-- What it sends: an I-frame, behind which the next number goes (clause 5.6.1).
abbrev pub sends : Observed → Control → Observed
sends o (Information ns nr p) = if is_up o.state then record o { next = (ns.value + 1) % 128 } else o
sends o other = o

abbrev pub by_frame_begun : Config → Service → ℕ → Observed → List ℕ → Observed
by_frame_begun c service tei o octets = option_map_or (λ (f : Parts). sends o f.control) (its_frame service tei (result_ok (reading (own_side c) octets))) o

abbrev pub by_event : Config → Service → ℕ → line_event.Event → Answer → Observed → Observed
by_event c service tei (hears e) a o = by_heard c service tei e o
by_event c service tei (expiry timer) a o = by_expiry c service tei timer o
by_event c service tei (request r) a o = if is_granted a then by_request c service tei r o else o
by_event c service tei line_event.next a o = fold (by_frame_begun c service tei) o (frame_in a)

-- The link comes to another state, or T200 expires and leaves it in the one that it is in.
abbrev pub enters : Observed → Observed → Bool
enters was now = not (was.state == now.state) || nat_lt was.expiries now.expiries

-- What is known of the TEIs of the line, and of a link. The link of a TEI that comes to the line is in state 4, and that
-- of one that is not on it in state 1 (clauses 5.3 and 5.3.4).
pub record View : Type 0 where
  pub teis : Managed
  pub link : Observed

abbrev pub at_first : View
at_first = record { teis = none_on; link = in_state 1 }

abbrev pub views : Config → Service → ℕ → ℕ → View → Moment → View
views c service tei number v m =
    let teis = led c number v.teis m.event in
    let link = if m.event.line == number then by_event c service tei m.event.what m.answer v.link else v.link in
    record { teis = teis; link = if not (is_on tei teis) then in_state 1 else if is_on tei v.teis then link else in_state 4 }

-- After a list of events.
abbrev pub view_of : Config → Service → ℕ → ℕ → List Event → View
view_of c service tei number events = fold (views c service tei number) at_first (moments (fresh c) events)

-- An event of the line behind it, as a moment; and what is known then.
abbrev pub moment_of : Config → List Event → ℕ → line_event.Event → Moment
moment_of c before number what =
    let card = after_all (fresh c) before in record { card = card; event = at number what; answer = answer (at number what) card }

abbrev pub view_behind : Config → Service → ℕ → ℕ → List Event → line_event.Event → View
view_behind c service tei number before what = views c service tei number (view_of c service tei number before) (moment_of c before number what)
