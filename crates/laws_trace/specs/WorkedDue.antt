-- Worked values: what a link offers, and what is given of it; what is kept for that, and owed; and frames that break the law.
use Rattle.std.specs.Prelude.{◌≡◌, ℕ, ◌==◌, ◌&&◌, Bool, true, false, List, [], ◌∷◌, ◌++◌, filter, refl}
use Rattle.std.proofs.Common.{sym, ap, ◌∙◌}
use Rattle.lapd_seq.specs.Circle.{named, distance_of}
use Rattle.lapd_seq.specs.Numbers.{seq}
use Rattle.lapd_frame.specs.declared.services.Service.{Service}
use Rattle.lapd_frame.specs.declared.services.Service.TheVariants.{Call, Packet}
use Rattle.lapd_frame.specs.declared.timers.Timer.TheVariants.{T203}
use Rattle.lapd_frame.specs.Reading.{reading, header_of, control_of, unnumbered_of, supervisory_of}
use Rattle.lapd_frame.specs.Senders.{exchanged, reading as read_by}
use Rattle.model_teis.specs.network.Events as teis
use Rattle.model_line.specs.Event.{expiry, next}
use Rattle.model_line.specs.Machine as lines
use Rattle.model_line.specs.Request.{Data, Unit, Release, SetBusy}
use Rattle.model_card.specs.Event.{Event, at}
use Rattle.model_card.specs.Run.{moments, after_all}
use Rattle.laws_line.specs.card.Worked.{usual, on_0, up}
use Rattle.laws_trace.specs.FramesAreDue.{offers}
use Rattle.laws_trace.specs.LinkFrames.{is_frame_of}
use Rattle.laws_trace.specs.Observer.{moment_of}
use Rattle.laws_trace.specs.Outgoing.{outgoing_of}
use Rattle.laws_trace.specs.Trace.{frame_in, IsFront}
use Rattle.laws_trace.specs.WorkedDeliveries.{i_frame}
use Rattle.laws_trace.specs.WorkedUnits.{calls, frame_comes}

-- What call control's link of TEI 64 offers after a list of events, to the observer, and what the next call gives of it.
abbrev offered : List Event → List (List ℕ)
offered events = offers usual Call 64 (outgoing_of usual Call 64 0 events)

abbrev given_of : Service → List Event → List (List ℕ)
given_of service events = filter (is_frame_of usual service 64) (frame_in (moment_of usual events 0 next).answer)

abbrev given : List Event → List (List ℕ)
given events = given_of Call events

-- SABME is heard, and UA is offered, and given, and then nothing; the packet link of the same TEI has none.
abbrev ua : List ℕ
ua = 0x00 ∷ 0x81 ∷ 0x73 ∷ []

ua_offered : offered up ≡ ua ∷ []
unfolding lines.after lines.answer lines.takes_slot teis.course teis.refusal moments seq distance_of named exchanged read_by reading header_of control_of unnumbered_of supervisory_of
ua_offered = refl

ua_given : given up ≡ ua ∷ []
unfolding lines.after lines.answer lines.takes_slot teis.course teis.refusal after_all seq distance_of named exchanged read_by reading header_of control_of unnumbered_of supervisory_of
ua_given = refl

none_of_another : given_of Packet up ≡ []
unfolding lines.after lines.answer lines.takes_slot teis.course teis.refusal after_all seq distance_of named exchanged read_by reading header_of control_of unnumbered_of supervisory_of
none_of_another = refl

then_nothing : offered (up ++ calls 1) ≡ []
unfolding lines.after lines.answer lines.takes_slot teis.course teis.refusal moments seq distance_of named exchanged read_by reading header_of control_of unnumbered_of supervisory_of
then_nothing = refl

-- Two contents that are granted go behind UA, with N(S) = 0 and 1; to the observer both are kept, and behind RR 1 the second.
abbrev two : List Event
two = up ++ on_0 (Data Call 64 (7 ∷ [])) ∷ on_0 (Data Call 64 (8 ∷ [])) ∷ []

abbrev first : List ℕ
first = 0x02 ∷ 0x81 ∷ 0x00 ∷ 0x00 ∷ 7 ∷ []

abbrev second : List ℕ
second = 0x02 ∷ 0x81 ∷ 0x02 ∷ 0x00 ∷ 8 ∷ []

first_offered : offered (two ++ calls 1) ≡ first ∷ []
unfolding lines.after lines.answer lines.takes_slot teis.course teis.refusal moments seq distance_of named exchanged read_by reading header_of control_of unnumbered_of supervisory_of
first_offered = refl

first_given : given (two ++ calls 1) ≡ first ∷ []
unfolding lines.after lines.answer lines.takes_slot teis.course teis.refusal after_all seq distance_of named exchanged read_by reading header_of control_of unnumbered_of supervisory_of
first_given = refl

second_offered : offered (two ++ calls 2) ≡ second ∷ []
unfolding lines.after lines.answer lines.takes_slot teis.course teis.refusal moments seq distance_of named exchanged read_by reading header_of control_of unnumbered_of supervisory_of
second_offered = refl

all_gone : offered (two ++ calls 3) ≡ []
unfolding lines.after lines.answer lines.takes_slot teis.course teis.refusal moments seq distance_of named exchanged read_by reading header_of control_of unnumbered_of supervisory_of
all_gone = refl

abbrev kept_after : List Event → List (List ℕ)
kept_after events = (outgoing_of usual Call 64 0 events).kept

both_kept : kept_after (two ++ calls 3) ≡ (7 ∷ []) ∷ (8 ∷ []) ∷ []
unfolding lines.after lines.answer lines.takes_slot teis.course teis.refusal moments seq distance_of named exchanged read_by reading header_of control_of unnumbered_of supervisory_of
both_kept = refl

abbrev one_heard : List Event
one_heard = two ++ calls 3 ++ frame_comes (0x02 ∷ 0x81 ∷ 0x01 ∷ 0x02 ∷ []) ∷ []

one_kept : kept_after one_heard ≡ (8 ∷ []) ∷ []
unfolding lines.after lines.answer lines.takes_slot teis.course teis.refusal moments seq distance_of named exchanged read_by reading header_of control_of unnumbered_of supervisory_of
one_kept = refl

-- None stays where the link is released; and what had not gone stays where SABME comes again.
none_kept : kept_after (one_heard ++ on_0 (Release Call 64) ∷ []) ≡ []
unfolding lines.after lines.answer lines.takes_slot teis.course teis.refusal moments seq distance_of named exchanged read_by reading header_of control_of unnumbered_of supervisory_of
none_kept = refl

still_kept : kept_after (up ++ on_0 (Data Call 64 (7 ∷ [])) ∷ up) ≡ (7 ∷ []) ∷ []
unfolding lines.after lines.answer lines.takes_slot teis.course teis.refusal moments seq distance_of named exchanged read_by reading header_of control_of unnumbered_of supervisory_of
still_kept = refl

-- Behind REJ 0 the first goes again; behind RNR none goes, until RR; nor in state 8, where the enquiry does.
again_offered : offered (two ++ calls 3 ++ frame_comes (0x02 ∷ 0x81 ∷ 0x09 ∷ 0x00 ∷ []) ∷ []) ≡ first ∷ []
unfolding lines.after lines.answer lines.takes_slot teis.course teis.refusal moments seq distance_of named exchanged read_by reading header_of control_of unnumbered_of supervisory_of
again_offered = refl

none_to_busy : offered (two ++ calls 1 ++ frame_comes (0x02 ∷ 0x81 ∷ 0x05 ∷ 0x00 ∷ []) ∷ []) ≡ []
unfolding lines.after lines.answer lines.takes_slot teis.course teis.refusal moments seq distance_of named exchanged read_by reading header_of control_of unnumbered_of supervisory_of
none_to_busy = refl

free_again : offered (two ++ calls 1 ++ frame_comes (0x02 ∷ 0x81 ∷ 0x05 ∷ 0x00 ∷ []) ∷ frame_comes (0x02 ∷ 0x81 ∷ 0x01 ∷ 0x00 ∷ []) ∷ []) ≡ first ∷ []
unfolding lines.after lines.answer lines.takes_slot teis.course teis.refusal moments seq distance_of named exchanged read_by reading header_of control_of unnumbered_of supervisory_of
free_again = refl

abbrev recovers : List Event
recovers = up ++ calls 1 ++ at 0 (expiry (T203 Call 64)) ∷ on_0 (Data Call 64 (7 ∷ [])) ∷ []

enquiry_offered : offered recovers ≡ (0x02 ∷ 0x81 ∷ 0x01 ∷ 0x01 ∷ []) ∷ []
unfolding lines.after lines.answer lines.takes_slot teis.course teis.refusal moments seq distance_of named exchanged read_by reading header_of control_of unnumbered_of supervisory_of
enquiry_offered = refl

none_recovering : offered (recovers ++ calls 1) ≡ []
unfolding lines.after lines.answer lines.takes_slot teis.course teis.refusal moments seq distance_of named exchanged read_by reading header_of control_of unnumbered_of supervisory_of
none_recovering = refl

-- An I-frame is told: behind the UA its acknowledgement goes by itself, RR with N(R)=1, once; or an I-frame that goes has it.
rr_offered : offered (up ++ i_frame ∷ calls 1) ≡ (0x00 ∷ 0x81 ∷ 0x01 ∷ 0x02 ∷ []) ∷ []
unfolding lines.after lines.answer lines.takes_slot teis.course teis.refusal moments seq distance_of named exchanged read_by reading header_of control_of unnumbered_of supervisory_of
rr_offered = refl

rr_given : given (up ++ i_frame ∷ calls 1) ≡ (0x00 ∷ 0x81 ∷ 0x01 ∷ 0x02 ∷ []) ∷ []
unfolding lines.after lines.answer lines.takes_slot teis.course teis.refusal after_all seq distance_of named exchanged read_by reading header_of control_of unnumbered_of supervisory_of
rr_given = refl

owes_no_more : offered (up ++ i_frame ∷ calls 2) ≡ []
unfolding lines.after lines.answer lines.takes_slot teis.course teis.refusal moments seq distance_of named exchanged read_by reading header_of control_of unnumbered_of supervisory_of
owes_no_more = refl

by_information : offered (two ++ i_frame ∷ calls 1) ≡ (0x02 ∷ 0x81 ∷ 0x00 ∷ 0x02 ∷ 7 ∷ []) ∷ []
unfolding lines.after lines.answer lines.takes_slot teis.course teis.refusal moments seq distance_of named exchanged read_by reading header_of control_of unnumbered_of supervisory_of
by_information = refl

-- RNR has it as well, so that nothing goes behind it.
by_rnr : offered (up ++ i_frame ∷ on_0 (SetBusy Call 64) ∷ calls 1) ≡ (0x00 ∷ 0x81 ∷ 0x05 ∷ 0x02 ∷ []) ∷ []
unfolding lines.after lines.answer lines.takes_slot teis.course teis.refusal moments seq distance_of named exchanged read_by reading header_of control_of unnumbered_of supervisory_of
by_rnr = refl

none_behind : offered (up ++ i_frame ∷ on_0 (SetBusy Call 64) ∷ calls 2) ≡ []
unfolding lines.after lines.answer lines.takes_slot teis.course teis.refusal moments seq distance_of named exchanged read_by reading header_of control_of unnumbered_of supervisory_of
none_behind = refl

-- Unit data of the TEI is no frame of the link.
no_unit : given (up ++ on_0 (Unit Call 64 (7 ∷ [])) ∷ []) ≡ []
unfolding lines.after lines.answer lines.takes_slot teis.course teis.refusal after_all seq distance_of named exchanged read_by reading header_of control_of unnumbered_of supervisory_of
no_unit = refl

-- Where DM is given in place of UA, the second contents before the first, or RR where none is owed, the law is broken; and where
-- none is given though one is offered.
abbrev same : List ℕ → List ℕ → Bool
same [] [] = true
same (x ∷ xs) (y ∷ ys) = x == y && same xs ys
same xs ys = false

differ : (x y : List ℕ) → same x y ≡ false → same x x ≡ true → IsFront (x ∷ []) (y ∷ []) → ⊥
differ x y apart itself front = cc (sym itself ∙ ap (same x) (head front.whole_is) ∙ apart)
  where
    head : {ys : List (List ℕ)} → y ∷ [] ≡ x ∷ ys → x ≡ y
    head e = cc e

dm_for_ua : IsFront ((0x00 ∷ 0x81 ∷ 0x1F ∷ []) ∷ []) (ua ∷ []) → ⊥
dm_for_ua = differ _ _ refl refl

second_first : IsFront (second ∷ []) (first ∷ []) → ⊥
second_first = differ _ _ refl refl

polls : IsFront ((0x02 ∷ 0x81 ∷ 0x00 ∷ 0x01 ∷ 7 ∷ []) ∷ []) (first ∷ []) → ⊥
polls = differ _ _ refl refl

unasked : IsFront (ua ∷ []) [] → ⊥
unasked front = cc front.whole_is

abbrev AreNone : List (List ℕ) → Type 0
AreNone frames = frames ≡ []

not_given : AreNone (ua ∷ []) → ⊥
not_given e = cc e
