-- The words of std, of the crates below and of the statements of this crate with which its proofs speak, from where they are defined.
pub use Rattle.std.proofs.Common.{Bool, IfSome, IsTrue, List, None, Ok, Option, Some, [], ap, append-nil, append_assoc, arith, cond, drop, eq-eqb, eqb-true, false, flat_map, get_or, if◌then◌else◌, inl, inr, is_some, length, length-append, map, nat_lt, not, option_map, refl, replicate, set, slice_get, subst, suc, sym, take, true, true≢false, zero, ℕ, ⊎_elim, ◌%◌, ◌&&◌, ◌*◌}
pub use Rattle.std.proofs.Common.{◌++◌, ◌+◌, ◌-◌, ◌<◌, ◌==◌, ◌||◌, ◌∙◌, ◌∷◌, ◌≡◌, ◌≢◌, ◌≤◌, ◌⊎◌}
pub use Rattle.std.proofs.lemmas.Bool.{and_parts, cases_eq, false≢true, le-ltb, leb-true, lt-ltb, ltb-false, ltb-true, ne_eqb, or_parts}
pub use Rattle.std.proofs.lemmas.List.{get_or-set_other, get_or-set_same, length-map, length-replicate, length-take-le, map-append, set-get_or, take-append-drop, take_all, append_cancel_left, length-drop}
pub use Rattle.std.proofs.lemmas.List.Elements.{All-append, All-cons, All-drop, All-head, All-nil, All-tail, All-take, All-weaker}
pub use Rattle.std.proofs.lemmas.List.Folds.{list_any-append, list_any_none}
pub use Rattle.std.proofs.lemmas.List.Prefix.{front_rest}
pub use Rattle.std.specs.List.{list_any}
pub use Rattle.std.specs.Option.{option_map_or, option_or}
pub use Rattle.std.specs.Prelude.{All, option_to_list, unwrap_or}
pub use Rattle.lapd_frame.proofs.Naming.{reading-again}
pub use Rattle.lapd_frame.specs.Grammar.{IsFrame, Parts, other_side}
unfoldable pub use Rattle.lapd_frame.specs.Reading.{control_of, header_of, reading as side_reading, supervisory_of, unnumbered_of}
unfoldable pub use Rattle.lapd_frame.specs.Senders.{exchanged, reading}
pub use Rattle.lapd_frame.specs.Senders.{spelling}
pub use Rattle.lapd_frame.specs.declared.senders.Sender.{Sender}
pub use Rattle.lapd_frame.specs.Services.{sapi_of}
pub use Rattle.lapd_frame.specs.declared.addresses.Side.{Side}
pub use Rattle.lapd_frame.specs.declared.controls.Control.{Control}
pub use Rattle.lapd_frame.specs.declared.controls.Control.TheVariants.{Disc, Dm, Information, ReceiveNotReady, ReceiveReady, Reject, Sabme, Ua}
pub use Rattle.lapd_frame.specs.declared.notes.ErrorCode.{ErrorCode}
pub use Rattle.lapd_frame.specs.declared.notes.ErrorCode.TheVariants.{F, G as code_G, H as code_H, J as code_J, O as code_O}
pub use Rattle.lapd_frame.specs.declared.notes.Note.{Note}
pub use Rattle.lapd_frame.specs.declared.notes.Note.TheVariants.{Data as NoteData, Error as NoteError}
pub use Rattle.lapd_frame.specs.declared.refusals.Refusal.{Refusal}
pub use Rattle.lapd_frame.specs.declared.refusals.Refusal.TheVariants.{BadTei, NoLink, PoolFull, TableFull, TeiTaken, TooLong, WrongState}
pub use Rattle.lapd_frame.specs.declared.services.Service.{Service}
pub use Rattle.lapd_frame.specs.declared.services.Service.TheVariants.{Call, Packet}
pub use Rattle.lapd_frame.specs.declared.timers.Timer.{Timer}
pub use Rattle.lapd_frame.specs.declared.timers.Timer.TheVariants.{T200 as timer_T200, T201 as timer_T201, T203 as timer_T203}
pub use Rattle.lapd_seq.proofs.Callers.{seq-value}
unfoldable pub use Rattle.lapd_seq.specs.Circle.{distance_of, named}
unfoldable pub use Rattle.lapd_seq.specs.Numbers.{seq}
pub use Rattle.lapd_seq.specs.declared.numbers.Seq.{Seq}
pub use Rattle.model_teis.proofs.Tables.{table-empty, is_on-at, place_of-is, table-put}
unfoldable pub use Rattle.model_teis.specs.network.Events.{course as tei_course, refusal as tei_refusal}
pub use Rattle.model_teis.specs.network.Events.{assign as tei_assign, unless_refused as tei_unless_refused}
pub use Rattle.model_teis.specs.network.Machine.{empty}
pub use Rattle.model_teis.specs.network.Rows.{join_at, put_on}
pub use Rattle.model_teis.specs.Table.{IsAt, Places, free_place, is_on}
pub use Rattle.model_teis.specs.network.Words.{join}
pub use Rattle.laws_line.proofs.Asked.{link-grants}
pub use Rattle.laws_line.proofs.Managing.{by-two}
pub use Rattle.laws_line.proofs.OfCard.Spelling.{IsNotShort, not-short}
pub use Rattle.laws_line.proofs.OfCard.Wherever.{all-right}
pub use Rattle.model_line.proofs.Places.{has-place}
pub use Rattle.laws_line.proofs.Serving.{none-waits}
pub use Rattle.laws_line.proofs.Silence.{sends-none}
pub use Rattle.laws_line.specs.Served.{IsSilent}
pub use Rattle.laws_line.specs.Share.{is_granted}
pub use Rattle.laws_link.proofs.Follows.{event-follows}
pub use Rattle.laws_link.proofs.OfTwo.AnyOrder.{Direction, Informs, Lane, Steady, is-steady, lane-low, lane-order, takes-first}
pub use Rattle.laws_link.proofs.OfTwo.AnyOrderRuns.{Pair, all-there, all-turns}
pub use Rattle.laws_link.proofs.OfTwo.Arriving.{AreFree, all-arrived}
pub use Rattle.laws_link.proofs.OfTwo.Effects.{Grown, Heard, c-7, c-8, is_recovering}
pub use Rattle.laws_link.proofs.OfTwo.Expiring.{expires-one}
pub use Rattle.laws_link.proofs.OfTwo.Flow.{Flow, most}
pub use Rattle.laws_link.proofs.OfTwo.Flowing.{answer-says, no-answer}
pub use Rattle.laws_link.proofs.OfTwo.Going.{asks-went, expires-goes, offer-goes}
pub use Rattle.laws_link.proofs.OfTwo.Halves.{fits-at, named-number}
pub use Rattle.laws_link.proofs.OfTwo.HeardRows.{heard}
pub use Rattle.laws_link.proofs.OfTwo.Meeting.{Longer, NoAlien, is-no-alien, line, line-longer}
pub use Rattle.laws_link.proofs.OfTwo.Needing.{timely-after, timely-fresh}
pub use Rattle.laws_link.proofs.OfTwo.Reached.{Sane, sane-doing}
pub use Rattle.laws_link.proofs.OfTwo.Recovery.{all-recovered, free-recovered}
pub use Rattle.laws_link.proofs.OfTwo.Shapes.{enquiry_with}
pub use Rattle.laws_link.proofs.OfTwo.Staying.{offer-stays, request-stays, timer-stays}
pub use Rattle.laws_link.proofs.OfTwo.StayingUp.{Flows, acted-flows, flows-low, not-enquiry}
pub use Rattle.laws_link.proofs.OfTwo.Together.{done-up, same-after}
pub use Rattle.laws_link.proofs.OfTwo.Trains.{Behind, Beyond, Calm, Every, Kind, alien, answer, calm-rise, enquiry, every-push, kind_of, kinds-append, kinds_of, numbered, one_answer, one_enquiry, one_rejection, rejection, report, tally, tally-push}
pub use Rattle.laws_link.proofs.OfTwo.Waiting.{nothing-given, nothing-to_send, silent-stays}
pub use Rattle.laws_link.specs.Flags.{awaits_answer, busy_asked, busy_by, busy_heard}
pub use Rattle.laws_link.specs.States.{as_heard, is_clearing, is_overlong, state_after}
pub use Rattle.laws_link.specs.Telling.{told_expired}
pub use Rattle.model_link.specs.Timed.{IsTimed, IsTimedIn}
pub use Rattle.laws_link.specs.Waiting.{answers_to, as_response, command_in, has_next_number, is_time, room, waiting_left}
pub use Rattle.laws_link.specs.two.Ahead.{CanRepeat, IsNotRelease}
pub use Rattle.laws_link.specs.two.AnyOrder.{weight_at}
unfoldable pub use Rattle.laws_link.specs.two.AnyOrder.{AreTurns}
pub use Rattle.laws_link.specs.two.CutOff.{IsCutOff}
pub use Rattle.laws_link.specs.two.Needed.{HasItsTimer}
pub use Rattle.laws_link.specs.two.Rounds.{IsReady, IsTaken, HasArrived as TwoLinksHasArrived, round as two_links_round}
unfoldable pub use Rattle.laws_link.specs.two.Rounds.{rounds as two_links_rounds}
pub use Rattle.laws_link.specs.two.Timely.{HasNo, IsTimelyStep, is_enquiry}
pub use Rattle.laws_link.specs.two.Waits.{HasNothingToSend}
pub use Rattle.model_card.proofs.CardSound.{after_is_sound, fresh_is_sound}
pub use Rattle.model_card.proofs.Steps.{has_lines, line_sound}
pub use Rattle.model_card.specs.Card.{Card, line_at}
pub use Rattle.model_card.specs.Machine.{wants_room}
pub use Rattle.model_line.proofs.RoomForAll.{passed}
pub use Rattle.model_line.proofs.LinksSound.{sound_in}
pub use Rattle.model_line.proofs.Numbers.{number_within, place_at-number, service_at-number}
pub use Rattle.model_line.proofs.Offered.{fresh_gives_nothing, given_short}
pub use Rattle.model_line.proofs.Ranges.{ranges_of, terms_in_range}
pub use Rattle.model_line.proofs.TakenSound.{round_below}
pub use Rattle.model_line.specs.Came.{came}
pub use Rattle.model_line.specs.Effect.{Aim, Effect, at_link, of_aim, of_change, told_of_link, told_of_management, unserved_cause}
pub use Rattle.model_line.specs.Event.{Answer, Event, LineTold, expiry, gave, hears, next, nothing, refused, request, told}
pub use Rattle.model_line.specs.Expiry.{aim_of_expiry, at_timer}
pub use Rattle.model_line.specs.Heard.{addressed, aim_of_heard, aim_of_reading, heard_side, message_of}
pub use Rattle.model_line.specs.Line.{Line, fresh_line, has_tei, link_at, link_count, link_in, link_number, link_of, place_in, service_at, state_in, state_of, tei_at, terms, terms_at}
pub use Rattle.model_line.specs.Machine.{of_heard, of_request, unless_refused, unless_refused_told}
unfoldable pub use Rattle.model_line.specs.Machine.{after as line_after, answer as line_answer, takes_slot as line_takes_slot}
pub use Rattle.model_line.specs.Request.{Assign, ClearBusy, Data, Establish, Release, Request, SetBusy}
pub use Rattle.model_line.specs.Requested.{aim_of_request, at_requested}
pub use Rattle.model_line.specs.Sides.{at_side}
pub use Rattle.model_line.specs.Sound.{IsSoundAt}
pub use Rattle.model_line.specs.Taken.{Taken, first_taken, link_taken, next_of, own_side, taken, with_given_frame}
pub use Rattle.model_line.specs.declared.config.Config.{Config}
pub use Rattle.model_link.proofs.Delivering.{event-delivers}
pub use Rattle.model_link.proofs.Direction.{frames-append, frames_of, line_of, named-means, receiver-goes, receiver-loses, sender-goes, sender-loses, carried-reports, line-grows, rising-reports}
pub use Rattle.model_link.proofs.Facing.{Reports, Up, any_number, no-reports, still, t200_8_up, timer_7_up}
pub use Rattle.model_link.proofs.FacingInformation.{at-first}
pub use Rattle.model_link.proofs.Giving.{given_is_frame}
pub use Rattle.model_link.proofs.Hearing.{receiver-hears, sender-hears}
pub use Rattle.model_link.proofs.Joined.{Joined, done-at, joined-first, joined-turned}
pub use Rattle.model_link.proofs.Leads.{Leads, bit_leads, depending_leads, keeping_then, nothing_leads}
pub use Rattle.model_link.proofs.Lines.{Means, Rising, carried-high, rising-low, rising-lower}
pub use Rattle.model_link.proofs.Sending.{Gave, offer-gave}
pub use Rattle.model_link.proofs.SoundEvents.{sound-after, sound-fresh}
pub use Rattle.model_link.proofs.SoundRows.{named-within}
pub use Rattle.model_link.proofs.Taking.{frame-taken, named-is_seq, none-delivered}
pub use Rattle.model_link.specs.Events.{cleared, expired, frame, offer, received, requested, undefined, wrong_size, ClearBusy as LinkClearBusy, Data as LinkData, Establish as LinkEstablish, Event as LinkEvent, Release as LinkRelease, Request as LinkRequest, SetBusy as LinkSetBusy}
pub use Rattle.model_link.specs.Link.{Link, frame_of, fresh, has_outstanding, is_multiple_frame, may_repeat, queue_of, state_number, unsent}
pub use Rattle.model_link.specs.Machine.{after, course, frame_step, given, given_of, is_running, told as link_told}
pub use Rattle.model_link.specs.Requests.{granted, is_down, refusal, serves}
pub use Rattle.model_link.specs.Sound.{IsInRange, IsSound, IsWaitingFrame, is_information}
pub use Rattle.model_link.specs.Steps.{Course, Step, begun, by_bit, ◌then◌}
pub use Rattle.model_link.specs.Told.{Given, orders_for, runs}
pub use Rattle.model_link.specs.TwoEnds.{Endpoint as LinkEndpoint, Ends, IsUp, requests as link_requests, expires as link_expires, frame_given, receives as link_receives, sends as link_sends, with_link, with_sent, Step as TwoEndsStep, acting as two_ends_acting, at_near as two_ends_at_near, doing as two_ends_doing, without_first as two_ends_without_first, with_first_of as two_ends_with_first_of}
unfoldable pub use Rattle.model_link.specs.TwoEnds.{doing_all as two_ends_doing_all}
pub use Rattle.model_link.specs.Words.{command, has_room, rr_or_rnr, response}
pub use Rattle.model_link.specs.declared.frames.ControlFrame.{ControlFrame}
pub use Rattle.model_link.specs.declared.states.State.{State}
pub use Rattle.model_link.specs.declared.states.State.TheVariants.{AwaitingEstablishment, AwaitingRelease, Established, TeiAssigned, TimerRecovery}
pub use Rattle.model_link.specs.declared.terms.Terms.{Terms}
pub use Rattle.model_link.specs.declared.timers.LinkTimer.{LinkTimer}
pub use Rattle.model_link.specs.declared.timers.LinkTimer.TheVariants.{T200, T203}
pub use Rattle.laws_wire.specs.Answering.{IsAsked, IsFullTalk, IsFullTalkOf, Rests, error_f, Called, IsAtRest, IsPatient, LossyCallsComeThrough, ToldSo, all_kept, gives_information, renewed, seeing, takes_sabme, told_of_sabme, uncalled, with_sabme}
unfoldable pub use Rattle.laws_wire.specs.Answering.{StayPatient, seen}
pub use Rattle.laws_wire.specs.Arriving.{ArrivesInRounds, ArrivesInTurns, ArrivesUnderTraffic, SendsOrReceives, GoesOn, HasCome, LosesNothing, far_asks, frames_left, is_any_order, is_t200, most_left, near_asks, notes_left, runs_t200}
unfoldable pub use Rattle.laws_wire.specs.Arriving.{ever}
pub use Rattle.laws_wire.specs.Call.{AreOpposite, CallsComeThrough, CanCall, ComesThrough, IsBeginningOf, IsCall, IsTalk, IsTalkOf, ToldInOrder, all_told, assigned, calling, calls_back, confirmed, data_told, indicated, endpoint, told_first}
unfoldable pub use Rattle.laws_wire.specs.Call.{both_call}
pub use Rattle.laws_wire.specs.Counted.{Counts, ExpiriesAreCounted, IsBelow, IsCountedOf, LossyExpiriesAreCounted, counted, counting, is_7, is_in_7, uncounted}
unfoldable pub use Rattle.laws_wire.specs.Counted.{StayCounted, StaySpared}
pub use Rattle.laws_wire.specs.Ending.{CallsEnd, EndsSo, IsLeaving, IsTimelyThere, release_confirmed, release_indicated}
unfoldable pub use Rattle.laws_wire.specs.Ending.{StayTimelyThere}
pub use Rattle.laws_wire.specs.Facing.{Face, Speaks, granted_of, own_link, is_busy, read_as}
pub use Rattle.laws_wire.specs.Losing.{CallsAreToldInOrder, HasNoError, IsOfLink, IsRoughTalk, IsRoughTalkOf, TellNoError, for_layer_3, heard_in, is_error}
pub use Rattle.laws_wire.specs.Recovering.{BothMayRepeat, HasArrived, HasMissing, HasNoErrors, WhatIsLostArrives, both_expire, round, with_t200_expired}
unfoldable pub use Rattle.laws_wire.specs.Recovering.{rounds}
pub use Rattle.laws_wire.specs.Resting.{MovesComeToAnEnd, RoundsComeToRest, TimelyRoundsComeToRest, expiries_in, expiries_of, is_move, is_move_of, most_frames}
unfoldable pub use Rattle.laws_wire.specs.Resting.{expiries, moves}
unfoldable pub use Rattle.laws_wire.specs.Settling.{busy, reports}
pub use Rattle.laws_wire.specs.Settling.{Busy, HasLeft, HasTold, LossyCallsAreAnswered, LossyCallsComeToRest, LossyCallsSettle, LossyMovesComeToAnEnd, LossyRoundsComeToRest, Settles, busy_behind, most_moves, near_expires, none_busy, reports_in, reports_of}
pub use Rattle.laws_wire.specs.StillTimely.{IsStillStepAt, IsStillOf, WhatIsLostArrivesFromRest}
unfoldable pub use Rattle.laws_wire.specs.StillTimely.{StayStill}
pub use Rattle.laws_wire.specs.Timely.{IsLongEnough, IsNoneOpen, IsSpared, IsTimely, IsTimelyOf, MayRepeat, NoneGoes, awaits_in, awaits_reply, gives_one, is_final, is_poll, is_ua}
unfoldable pub use Rattle.laws_wire.specs.Timely.{StayTimely, giving}
pub use Rattle.laws_wire.specs.Wire.{Step as EndStep, StepAt, IsStill, Endpoint, Wire, acting, answered, at_far, at_near, frame_comes, contents_requested, doing, frames_by, sends, happens, is_any, is_turn, is_turn_of, loses, requests, receives, tells_nothing, expires, told_by, turned, without_first, with_first_of}
unfoldable pub use Rattle.laws_wire.specs.Wire.{doing_all, turns}
pub use Rattle.laws_wire.specs.Worked.{begins, establishes, network, talks, user}
pub use Rattle.laws_wire.specs.WorkedRecovering.{loses_three, lost, recovered}
pub use Rattle.std.proofs.lemmas.List.Concat.{flat_map-append}
pub use Rattle.lapd_frame.specs.Faults.{is_short}
pub use Rattle.laws_line.specs.Drains.{to_go_at_link}
pub use Rattle.laws_link.proofs.EachRow.{each-row}
pub use Rattle.laws_link.proofs.OfTwo.HeedingEvents.{heeds-after}
pub use Rattle.laws_wire.specs.BothWorked.{both_send}
pub use Rattle.laws_wire.specs.WorkedAnswering.{loses_ua}
pub use Rattle.laws_wire.specs.WorkedCounted.{ua_is_lost}
pub use Rattle.laws_wire.specs.WorkedResting.{rejects_one, two_accepted}
pub use Rattle.laws_wire.specs.WorkedSettling.{is_ready, lost_near, lost_still, ready, ready_free, ready_left, ready_near, ready_seen, ready_still, ua_lost}
pub use Rattle.model_card.specs.Room.{free}
pub use Rattle.model_line.proofs.Following.{and-false}
pub use Rattle.model_line.specs.Laws.{orders_in}
pub use Rattle.model_line.specs.Room.{unless}
pub use Rattle.model_link.proofs.TimedRows.{timed-after}
pub use Rattle.model_link.specs.Room.{room_of}
pub use Rattle.std.proofs.lemmas.List.Sums.{sum_by-cons}
