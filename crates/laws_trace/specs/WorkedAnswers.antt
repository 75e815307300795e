-- Worked values: a poll and SABME that are answered as the law has it, and answers that are missing.
use Rattle.std.specs.Prelude.{◌≡◌, ℕ, ◌+◌, ◌<◌, List, [], ◌∷◌, ◌++◌, true, refl}
use Rattle.std.proofs.Common.{arith}
use Rattle.model_bits.specs.Stream as stream
use Rattle.lapd_frame.specs.declared.controls.Control.TheVariants.{ReceiveReady}
use Rattle.lapd_frame.specs.declared.services.Service.TheVariants.{Call}
use Rattle.lapd_frame.specs.Reading.{reading, header_of, control_of, unnumbered_of, supervisory_of}
use Rattle.lapd_frame.specs.Senders.{exchanged, reading as read_by}
use Rattle.lapd_seq.specs.Circle.{named, distance_of}
use Rattle.lapd_seq.specs.Numbers.{seq}
use Rattle.model_teis.specs.network.Events as teis
use Rattle.laws_link.specs.Waiting.{as_response}
use Rattle.model_line.specs.Event as line_event
use Rattle.model_line.specs.Event.{hears}
use Rattle.model_line.specs.Machine as lines
use Rattle.model_line.specs.Request.{Assign, Unit}
use Rattle.model_line.specs.declared.config.Config.{Config}
use Rattle.model_card.specs.Card.{fresh}
use Rattle.model_card.specs.Event.{Event, at}
use Rattle.model_card.specs.Run.{moments, after_all}
use Rattle.model_card.specs.Takes.{takes_of, frames_given}
use Rattle.laws_line.specs.Drains.{most_frames_before}
use Rattle.laws_line.specs.Frames.{lost_in}
use Rattle.laws_line.specs.WorkedPolled.{small}
use Rattle.laws_line.specs.card.Among.{AreAmong}
use Rattle.laws_line.specs.card.Worked.{on_0}
use Rattle.laws_trace.specs.AnswersAreGiven.{Stays, JoinsQueue, priority_added, queue, texts}
use Rattle.laws_trace.specs.NoLossInVain.{puts_by}
use Rattle.laws_trace.specs.Observer.{moment_of}
use Rattle.laws_trace.specs.WorkedUnits.{calls}

-- On the least card at most eight frames go before a control frame.
before_one : most_frames_before small ≡ 8
before_one = refl

-- SABME of TEI 64, and its UA is given; then a poll, RR with P=1.
abbrev pub sabme : line_event.Event
sabme = hears (stream.frame (0x00 ∷ 0x81 ∷ 0x7F ∷ []))

abbrev poll : line_event.Event
poll = hears (stream.frame (0x00 ∷ 0x81 ∷ 0x01 ∷ 0x01 ∷ []))

abbrev on : List Event
on = on_0 (Assign 64) ∷ []

abbrev up : List Event
up = on ++ at 0 sabme ∷ calls 1

abbrev polled : List Event
polled = up ++ at 0 poll ∷ []

-- The poll puts RR with F=1, which is not lost; the TEI stays, and nine calls are enough, and give it.
rr_due : puts_by small 0 up poll Call 64 ≡ as_response (ReceiveReady (seq 0) true)
unfolding moments after_all lines.after lines.answer lines.takes_slot teis.course teis.refusal seq distance_of named exchanged read_by reading header_of control_of unnumbered_of supervisory_of
rr_due = refl

none_lost : lost_in (moment_of small up 0 poll).answer ≡ 0
unfolding after_all lines.after lines.answer lines.takes_slot teis.course teis.refusal seq distance_of named exchanged read_by reading header_of control_of unnumbered_of supervisory_of
none_lost = refl

-- The frames that begin meanwhile.
abbrev sent_during : Config → ℕ → List Event → List Event → List (List ℕ)
sent_during c line past later = frames_given line (moments (after_all (fresh c) past) later)

tei_stays : Stays small 0 Call 64 polled (calls 9)
unfolding Stays teis.course teis.refusal exchanged read_by reading header_of control_of unnumbered_of supervisory_of
tei_stays = (refl, refl, (refl, refl, (refl, refl, (refl, refl, (refl, refl, (refl, refl, (refl, refl, (refl, refl, (refl, refl, refl)))))))))

nine_enough : most_frames_before small + priority_added small 0 polled (calls 9) < takes_of 0 (calls 9)
unfolding priority_added
nine_enough = omega arith

rr_given : sent_during small 0 polled (calls 9) ≡ (0x00 ∷ 0x81 ∷ 0x01 ∷ 0x01 ∷ []) ∷ []
unfolding moments after_all lines.after lines.answer lines.takes_slot teis.course teis.refusal seq distance_of named exchanged read_by reading header_of control_of unnumbered_of supervisory_of
rr_given = refl

rr_joins : JoinsQueue small 0 Call 64 up poll
unfolding moments after_all lines.after lines.answer lines.takes_slot teis.course teis.refusal seq distance_of named exchanged read_by reading header_of control_of unnumbered_of supervisory_of
rr_joins = record { earlier = []; queue_is = refl }

rr_sent : AreAmong (texts small Call 64 (queue small 0 Call 64 polled)) (sent_during small 0 polled (calls 9))
unfolding moments after_all lines.after lines.answer lines.takes_slot teis.course teis.refusal seq distance_of named exchanged read_by reading header_of control_of unnumbered_of supervisory_of
rr_sent = ([], [], refl, tt)

-- A second poll puts a second RR, which waits behind the first; so two are given.
abbrev polled_twice : List Event
polled_twice = polled ++ at 0 poll ∷ []

two_join : JoinsQueue small 0 Call 64 polled poll
unfolding moments after_all lines.after lines.answer lines.takes_slot teis.course teis.refusal seq distance_of named exchanged read_by reading header_of control_of unnumbered_of supervisory_of
two_join = record { earlier = as_response (ReceiveReady (seq 0) true); queue_is = refl }

two_sent : AreAmong (texts small Call 64 (queue small 0 Call 64 polled_twice)) (sent_during small 0 polled_twice (calls 9))
unfolding moments after_all lines.after lines.answer lines.takes_slot teis.course teis.refusal seq distance_of named exchanged read_by reading header_of control_of unnumbered_of supervisory_of
two_sent = ([], (0x00 ∷ 0x81 ∷ 0x01 ∷ 0x01 ∷ []) ∷ [], refl, ([], [], refl, tt))

-- SABME is answered by UA; unit data that is granted meanwhile goes first, and one call more is needed.
ua_joins : JoinsQueue small 0 Call 64 on sabme
unfolding moments after_all lines.after lines.answer lines.takes_slot teis.course teis.refusal seq distance_of named exchanged read_by reading header_of control_of unnumbered_of supervisory_of
ua_joins = record { earlier = []; queue_is = refl }

ua_sent : AreAmong (texts small Call 64 (queue small 0 Call 64 (on ++ at 0 sabme ∷ []))) (sent_during small 0 (on ++ at 0 sabme ∷ []) (calls 9))
unfolding moments after_all lines.after lines.answer lines.takes_slot teis.course teis.refusal seq distance_of named exchanged read_by reading header_of control_of unnumbered_of supervisory_of
ua_sent = ([], [], refl, tt)

one_comes : priority_added small 0 (on ++ at 0 sabme ∷ []) (on_0 (Unit Call 127 (7 ∷ [])) ∷ calls 10) ≡ 1
unfolding priority_added moments lines.after lines.answer lines.takes_slot teis.course teis.refusal exchanged read_by reading header_of control_of unnumbered_of
one_comes = refl

-- If no call gives a frame, the law is broken.
pub none_there : {X : Type 0} (x : X) (front back : List X) → [] ≡ front ++ x ∷ back → ⊥
none_there x [] back e = cc e
none_there x (y ∷ front) back e = cc e

unanswered : AreAmong (texts small Call 64 (queue small 0 Call 64 (on ++ at 0 sabme ∷ []))) [] → ⊥
unfolding moments after_all lines.after lines.answer lines.takes_slot teis.course teis.refusal seq distance_of named exchanged read_by reading header_of control_of unnumbered_of supervisory_of
unanswered (front, back, is, rest) = none_there (0x00 ∷ 0x81 ∷ 0x73 ∷ []) front back is
