-- Worked values: what is told of establishments and releases, and errors; and answers that break the laws.
use Rattle.std.specs.Prelude.{◌≡◌, List, [], ◌∷◌, ◌++◌, map, filter, true, false, refl}
use Rattle.model_bits.specs.Stream as stream
use Rattle.lapd_frame.specs.declared.notes.ErrorCode.TheVariants.{A, C, E, F, G, H, J, L}
use Rattle.lapd_frame.specs.declared.notes.Note.{Note}
use Rattle.lapd_frame.specs.declared.notes.Note.TheVariants.{EstablishIndication, EstablishConfirm, ReleaseIndication, ReleaseConfirm, Xid, Error}
use Rattle.lapd_frame.specs.declared.services.Service.TheVariants.{Call}
use Rattle.lapd_frame.specs.declared.timers.Timer.TheVariants as timers
use Rattle.lapd_frame.specs.Reading.{reading, header_of, control_of, unnumbered_of, supervisory_of}
use Rattle.lapd_frame.specs.Senders.{exchanged, reading as read_by}
use Rattle.lapd_seq.specs.Circle.{named, distance_of}
use Rattle.lapd_seq.specs.Numbers.{seq}
use Rattle.model_teis.specs.network.Events as teis
use Rattle.laws_line.specs.Heard.{notes_of}
use Rattle.model_line.specs.Event.{Event, hears, expiry, request}
use Rattle.model_line.specs.Machine as lines
use Rattle.model_line.specs.Request.{Assign, Remove, Establish, Release, Data, Deactivate}
use Rattle.model_card.specs.Event as card
use Rattle.model_card.specs.Event.{at}
use Rattle.model_card.specs.Run.{moments, after_all}
use Rattle.laws_line.specs.card.Worked.{usual, on_0, up}
use Rattle.laws_trace.specs.News.{is_news, notes_due, due, wrong}
use Rattle.laws_trace.specs.Observer.{in_state, view_of, moment_of, view_behind}
use Rattle.laws_trace.specs.WorkedUnits.{calls}

abbrev told : List card.Event → Event → List Note
told before what = filter (is_news Call 64) (notes_of (moment_of usual before 0 what).answer)

-- As the law says it.
abbrev said : List card.Event → Event → List Note
said before what =
    notes_due usual Call 64 (view_of usual Call 64 0 before).link (view_behind usual Call 64 0 before what).link what (moment_of usual before 0 what).answer

abbrev on : List card.Event
on = on_0 (Assign 64) ∷ []

abbrev sabme : Event
sabme = hears (stream.frame (0x00 ∷ 0x81 ∷ 0x7F ∷ []))

-- SABME leads from state 4 to state 7: an indication.
is_told : told on sabme ≡ EstablishIndication Call 64 ∷ []
unfolding moments after_all lines.after lines.answer lines.takes_slot teis.course teis.refusal seq exchanged read_by reading header_of control_of unnumbered_of supervisory_of
is_told = refl

is_due : said on sabme ≡ EstablishIndication Call 64 ∷ []
unfolding moments after_all lines.after lines.answer lines.takes_slot teis.course teis.refusal seq exchanged read_by reading header_of control_of unnumbered_of supervisory_of
is_due = refl

-- A request to release a link that is down is confirmed at once; and UA confirms the establishment that layer 3 asks for.
released : said on (request (Release Call 64)) ≡ ReleaseConfirm Call 64 ∷ []
unfolding moments after_all lines.after lines.answer lines.takes_slot teis.course teis.refusal
released = refl

confirmed : said (on ++ on_0 (Establish Call 64) ∷ []) (hears (stream.frame (0x02 ∷ 0x81 ∷ 0x73 ∷ []))) ≡ EstablishConfirm Call 64 ∷ []
unfolding moments after_all lines.after lines.answer lines.takes_slot teis.course teis.refusal seq exchanged read_by reading header_of control_of unnumbered_of supervisory_of
confirmed = refl

-- XID is told; and where the TEI of a link that is up leaves, its release is indicated.
xid_due : said up (hears (stream.frame (0x00 ∷ 0x81 ∷ 0xAF ∷ []))) ≡ Xid Call 64 ∷ []
unfolding moments after_all lines.after lines.answer lines.takes_slot teis.course teis.refusal seq exchanged read_by reading header_of control_of unnumbered_of supervisory_of
xid_due = refl

is_due_then : said up (request (Remove 64)) ≡ ReleaseIndication Call 64 ∷ []
unfolding moments after_all lines.after lines.answer lines.takes_slot teis.course teis.refusal seq exchanged read_by reading header_of control_of unnumbered_of supervisory_of
is_due_then = refl

-- So it is where its line is down.
is_due_where_down : said up (request (Deactivate Call 64)) ≡ ReleaseIndication Call 64 ∷ []
unfolding moments after_all lines.after lines.answer lines.takes_slot teis.course teis.refusal seq exchanged read_by reading header_of control_of unnumbered_of supervisory_of
is_due_where_down = refl

-- SABME comes again while an I-frame is outstanding: error F, and an indication.
abbrev one_gone : List card.Event
one_gone = up ++ on_0 (Data Call 64 (7 ∷ [])) ∷ calls 2

lost_is_told : told one_gone sabme ≡ Error Call 64 F ∷ EstablishIndication Call 64 ∷ []
unfolding moments after_all lines.after lines.answer lines.takes_slot teis.course teis.refusal seq distance_of named exchanged read_by reading header_of control_of unnumbered_of supervisory_of
lost_is_told = refl

lost_is_due : said one_gone sabme ≡ Error Call 64 F ∷ EstablishIndication Call 64 ∷ []
unfolding moments after_all lines.after lines.answer lines.takes_slot teis.course teis.refusal seq distance_of named exchanged read_by reading header_of control_of unnumbered_of supervisory_of
lost_is_due = refl

-- DM with F=0 leads to state 5, and is error E.
abbrev dm : Event
dm = hears (stream.frame (0x02 ∷ 0x81 ∷ 0x0F ∷ []))

error_e : said up dm ≡ Error Call 64 E ∷ []
unfolding moments after_all lines.after lines.answer lines.takes_slot teis.course teis.refusal seq exchanged read_by reading header_of control_of unnumbered_of supervisory_of
error_e = refl

is_noted : told up dm ≡ Error Call 64 E ∷ []
unfolding moments after_all lines.after lines.answer lines.takes_slot teis.course teis.refusal exchanged read_by reading header_of control_of unnumbered_of
is_noted = refl

-- RR 1 as a response with F=1, where nothing went, is errors A and J; RR with N(R) 0 is A alone, and, behind T203, none.
abbrev rr_1 : Event
rr_1 = hears (stream.frame (0x02 ∷ 0x81 ∷ 0x01 ∷ 0x03 ∷ []))

abbrev rr_0 : Event
rr_0 = hears (stream.frame (0x02 ∷ 0x81 ∷ 0x01 ∷ 0x01 ∷ []))

errors_a_j : said up rr_1 ≡ Error Call 64 A ∷ Error Call 64 J ∷ []
unfolding moments after_all lines.after lines.answer lines.takes_slot teis.course teis.refusal seq distance_of named exchanged read_by reading header_of control_of unnumbered_of supervisory_of
errors_a_j = refl

are_noted : told up rr_1 ≡ Error Call 64 A ∷ Error Call 64 J ∷ []
unfolding moments after_all lines.after lines.answer lines.takes_slot teis.course teis.refusal seq distance_of named exchanged read_by reading header_of control_of unnumbered_of supervisory_of
are_noted = refl

error_a : said up rr_0 ≡ Error Call 64 A ∷ []
unfolding moments after_all lines.after lines.answer lines.takes_slot teis.course teis.refusal seq distance_of named exchanged read_by reading header_of control_of unnumbered_of supervisory_of
error_a = refl

answered : said (up ++ at 0 (expiry (timers.T203 Call 64)) ∷ []) rr_0 ≡ []
unfolding moments after_all lines.after lines.answer lines.takes_slot teis.course teis.refusal seq distance_of named exchanged read_by reading header_of control_of unnumbered_of supervisory_of
answered = refl

-- A frame whose control field is none, and an I-frame without a second octet of control; of a link that is down neither is.
error_l : said up (hears (stream.frame (0x00 ∷ 0x81 ∷ 0x0B ∷ []))) ≡ Error Call 64 L ∷ []
unfolding moments after_all lines.after lines.answer lines.takes_slot teis.course teis.refusal seq exchanged read_by reading header_of control_of unnumbered_of supervisory_of
error_l = refl

no_error : said on (hears (stream.frame (0x00 ∷ 0x81 ∷ 0x0B ∷ []))) ≡ []
unfolding moments after_all lines.after lines.answer lines.takes_slot teis.course teis.refusal seq exchanged read_by reading header_of control_of unnumbered_of supervisory_of
no_error = refl

-- UA that nothing asked for is error C, and of a TEI that is not on the line nothing is told.
error_c : said up (hears (stream.frame (0x02 ∷ 0x81 ∷ 0x73 ∷ []))) ≡ Error Call 64 C ∷ []
unfolding moments after_all lines.after lines.answer lines.takes_slot teis.course teis.refusal seq exchanged read_by reading header_of control_of unnumbered_of supervisory_of
error_c = refl

off_line : said [] (hears (stream.frame (0x02 ∷ 0x81 ∷ 0x73 ∷ []))) ≡ []
unfolding moments after_all lines.after lines.answer lines.takes_slot teis.course teis.refusal seq exchanged read_by reading header_of control_of unnumbered_of supervisory_of
off_line = refl

-- T200 gives up state 5, which layer 3 asked for: error G, and the end is told.
abbrev expires : Event
expires = expiry (timers.T200 Call 64)

abbrev thrice : List card.Event
thrice = on ++ on_0 (Establish Call 64) ∷ at 0 expires ∷ at 0 expires ∷ at 0 expires ∷ []

error_g : said thrice expires ≡ Error Call 64 G ∷ ReleaseIndication Call 64 ∷ []
unfolding moments after_all lines.after lines.answer lines.takes_slot teis.course teis.refusal
error_g = refl

gives_up : told thrice expires ≡ Error Call 64 G ∷ ReleaseIndication Call 64 ∷ []
unfolding moments after_all lines.after lines.answer lines.takes_slot teis.course teis.refusal
gives_up = refl

-- Where an error is not told, or another, the law is broken.
unnoted : [] ≡ map (Error Call 64) (wrong usual Call 64 expires 8 5) → ⊥
unnoted e = cc e

another : Error Call 64 H ∷ [] ≡ map (Error Call 64) (wrong usual Call 64 expires 5 4) → ⊥
another e = cc e

-- Where a loss is not told, or told though nothing is outstanding, the law is broken.
untold_loss : [] ≡ due Call 64 false true false (record (in_state 7) { next = 1 }) 7 → ⊥
untold_loss e = cc e

told_in_vain : EstablishIndication Call 64 ∷ [] ≡ due Call 64 false false false (in_state 5) 7 → ⊥
told_in_vain e = cc e

-- So it is where a confirm is told for an indication, or the release by the terminal for one that was asked for.
for_an_indication : EstablishConfirm Call 64 ∷ [] ≡ due Call 64 false true false (in_state 4) 7 → ⊥
for_an_indication e = cc e

for_a_confirm : ReleaseIndication Call 64 ∷ [] ≡ due Call 64 false false false (in_state 6) 4 → ⊥
for_a_confirm e = cc e

-- And where a TEI leaves, and a confirm is told for a link that is up, or a release though it is down.
confirmed_end : ReleaseConfirm Call 64 ∷ [] ≡ due Call 64 false false false (in_state 7) 1 → ⊥
confirmed_end e = cc e

ended_twice : ReleaseIndication Call 64 ∷ [] ≡ due Call 64 false false false (in_state 4) 1 → ⊥
ended_twice e = cc e

-- And where XID is not told.
untold_xid : [] ≡ due Call 64 true false false (in_state 7) 7 → ⊥
untold_xid e = cc e
