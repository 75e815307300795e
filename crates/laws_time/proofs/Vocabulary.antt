-- The words of std, of the crates below and of this crate's statements with which its proofs speak.
pub use Rattle.std.proofs.Common.{All, Bool, IsTrue, List, None, Ok, Option, Some, [], ap, append-nil, append_assoc, arith, cond, count_by, drop, eq-eqb, eqb, eqb-true, false, filter, get_or, if◌then◌else◌, inl, inr, is_some, length, length-append, map, nat_le, nat_lt, not, option_map, refl, replicate, slice_get, subst, suc, sym, take, true, zero, ℕ, ⊎_elim, ◌%◌, ◌&&◌, ◌*◌, ◌++◌, ◌+◌, ◌-◌}
pub use Rattle.std.proofs.Common.{◌/◌, ◌<◌, ◌==◌, ◌||◌, ◌∙◌, ◌∷◌, ◌≡◌, ◌≢◌, ◌≤◌, ◌⊎◌}
pub use Rattle.std.proofs.Math.Nat.{add-mul, div-le_of_le-mul, div-le_self, div-lt_iff_lt-mul, lt-div-mul-add, mul-div-le, suc-mul}
pub use Rattle.std.proofs.Math.Seq.{take-length}
pub use Rattle.std.proofs.lemmas.Bool.{and_parts, cases_eq, cases_lt, le-ltb, leb-true, ltb-false, ltb-true, or_parts, true≢false}
pub use Rattle.std.proofs.lemmas.Bool.Decides.{nat_tests}
pub use Rattle.std.proofs.lemmas.Grind.{flat_map-append}
pub use Rattle.std.proofs.lemmas.List.{append_cancel_left, append_cancel_right, length-drop, length-map, length-replicate, length-take-le, map-append, nil_from_length, same_from_push, set-get_or, take-append-drop, take_all}
pub use Rattle.std.proofs.lemmas.List.Elements.{All-append, All-cons, All-from_recursion, All-head, All-map, All-nil, All-replicate, All-tail, All-weaker, recursion_from_All}
pub use Rattle.std.proofs.lemmas.List.Filters.{sum_by-filter_both}
pub use Rattle.std.proofs.lemmas.List.Folds.{list_any-append}
pub use Rattle.std.proofs.lemmas.List.Sums.{fold-append, sum_by-append, sum_by-cons}
pub use Rattle.std.proofs.lemmas.Nat.{le-div, mul-le}
pub use Rattle.std.proofs.lemmas.Option.{none-some, same_Some}
pub use Rattle.std.specs.List.{AllByRecursion, list_any}
unfoldable pub use Rattle.std.specs.List.{IsDistinct}
pub use Rattle.std.specs.Option.{option_map_or, unwrap_or}
pub use Rattle.std.specs.Ordering.{is_lt, nat_cmp, ordering_then}
pub use Rattle.std.specs.Prelude.{IfSome, flat_map, fold, min, option_to_list, sum_by}
pub use Rattle.std.specs.declared.cmp.Ordering.{Ordering}
pub use Rattle.lapd_clock.proofs.First.{before_itself, no_earlier}
pub use Rattle.lapd_clock.proofs.Ordered.{All-filter, All-put_in_order, count_by-put_in_order}
pub use Rattle.lapd_clock.specs.InOrder.{IsInOrder}
pub use Rattle.lapd_clock.specs.Moments.{moment_of}
pub use Rattle.lapd_clock.specs.Sound.{IsOneEach}
pub use Rattle.lapd_clock.specs.Timer.{AreInRange, Lengths, Order, Start, Stop, T201, T202, duration, is_same, timer_cmp}
pub use Rattle.lapd_clock.specs.Timers.{Expiry, Timers, count_on, is_before, is_held, is_of, without}
unfoldable pub use Rattle.lapd_clock.specs.Timers.{finds_place, with_order}
pub use Rattle.lapd_frame.specs.Grammar.{Parts}
unfoldable pub use Rattle.lapd_frame.specs.Reading.{control_of, header_of, supervisory_of, unnumbered_of}
pub use Rattle.lapd_frame.specs.Senders.{spelling}
unfoldable pub use Rattle.lapd_frame.specs.Senders.{exchanged, reading}
pub use Rattle.lapd_frame.specs.Services.{same_service, sapi_of}
pub use Rattle.lapd_frame.specs.declared.controls.Control.{Control}
pub use Rattle.lapd_frame.specs.declared.controls.Control.TheVariants.{Disc, Dm, Information, ReceiveNotReady, ReceiveReady, Sabme, Ua}
pub use Rattle.lapd_frame.specs.declared.notes.ErrorCode.{ErrorCode}
pub use Rattle.lapd_frame.specs.declared.notes.ErrorCode.TheVariants.{F}
pub use Rattle.lapd_frame.specs.declared.notes.Note.{Note}
pub use Rattle.lapd_frame.specs.declared.notes.Note.TheVariants.{Error}
pub use Rattle.lapd_frame.specs.declared.refusals.Refusal.{Refusal}
pub use Rattle.lapd_frame.specs.declared.refusals.Refusal.TheVariants.{BadTei, NoLink, PoolFull}
pub use Rattle.lapd_frame.specs.declared.services.Service.{Service}
pub use Rattle.lapd_frame.specs.declared.services.Service.TheVariants.{Call, Packet}
pub use Rattle.lapd_frame.specs.declared.timers.Timer.{Timer}
pub use Rattle.lapd_frame.specs.declared.timers.Timer.TheVariants.{T200 as timer_T200, T203 as timer_T203}
unfoldable pub use Rattle.lapd_seq.specs.Circle.{distance_of, named}
unfoldable pub use Rattle.lapd_seq.specs.Numbers.{seq}
pub use Rattle.lapd_seq.specs.declared.numbers.Seq.{Seq}
pub use Rattle.model_teis.proofs.Tables.{is_on-at, place_of-is}
pub use Rattle.model_teis.specs.network.Events.{Event as TeiEvent, assign as tei_assign, down as tei_down}
unfoldable pub use Rattle.model_teis.specs.network.Events.{course as tei_course, refusal as tei_refusal}
pub use Rattle.model_teis.specs.terminal.Events.{Event as TerminalEvent}
unfoldable pub use Rattle.model_teis.specs.terminal.Events.{course as terminal_course}
pub use Rattle.laws_line.proofs.OfCard.Meanwhile.{all-left, all-right}
pub use Rattle.laws_line.specs.Heard.{notes_of}
pub use Rattle.laws_line.specs.Steady.{IsBy, timer_of}
pub use Rattle.laws_link.proofs.Follows.{event-follows}
pub use Rattle.laws_link.proofs.OfTwo.AnyOrder.{Direction, Informs, Lane, Notes, Steady, is-steady, lane-low, lane-order}
pub use Rattle.laws_link.specs.States.{as_heard, by_request, is_faulty, is_overlong, moves, state_after}
pub use Rattle.laws_link.specs.Waiting.{answers, answers_to, as_command, as_response, command_in, commands, is_time, put, receipt_as, room, to_disc, to_sabme}
pub use Rattle.laws_link.specs.two.Needed.{HasItsTimer}
pub use Rattle.laws_link.specs.two.Timely.{HasNo}
pub use Rattle.laws_order.proofs.OfCircuit.AsFrames.{as_endpoint, asked-as, heard-as, if_meant, pulled-as}
pub use Rattle.laws_order.proofs.OfCircuit.AtPort.{next_of_card, pull-between, pull-given, pull-put, pull-received}
pub use Rattle.laws_order.proofs.OfCircuit.OneWay.{Carries, framed, heard-beyond, none-heard, one-heard, one-put}
pub use Rattle.laws_order.proofs.OfCircuit.Projected.{Fits, asked-way, heard-way, port-after}
pub use Rattle.laws_order.proofs.OfCircuit.Ran.{AsksOctets, Ran, config, few-left, gives-octets, goes-on, on-line, sound, sound-port, within-ports}
pub use Rattle.laws_order.proofs.OfCircuit.Takings.{all-paid, on_ways, takings-append}
pub use Rattle.laws_order.specs.circuit.Beats.{enough_beats, longest}
pub use Rattle.laws_order.specs.circuit.Circuit.{Endpoint as OctetEndpoint, answered, port_of, told_by}
pub use Rattle.laws_order.specs.circuit.Through.{octet_endpoint}
pub use Rattle.laws_order.proofs.OfCircuit.Through.{or-none}
pub use Rattle.laws_time.specs.ArrivalsAwaited.{NoAnswerIsAwaitedLonger}
unfoldable pub use Rattle.laws_time.specs.ArrivalsAwaited.{StaysIn}
pub use Rattle.laws_time.specs.ArrivalsUsedUp.{N200TakesItsTime, enquiries, least_tries}
pub use Rattle.laws_time.specs.CallersClocks.{CallersClocksAreClocks, IsAsLarge, clock_of}
pub use Rattle.laws_time.specs.Silence.{ADeadLineIsTold, IsStillAt, IsToldInTime, all_in, first_in, is_heard, is_stirred, moves_link, news_in, told_in}
unfoldable pub use Rattle.laws_time.specs.Silence.{AreStill, news}
pub use Rattle.laws_time.specs.Watched.{notes_in, of_frames, of_octets}
pub use Rattle.laws_time.specs.circuit.AfterNoise.{FramesComeAfterNoise, HasReceivedSince, NoiseMakesNoFrameAfter}
pub use Rattle.laws_time.specs.circuit.Answered.{AnEnquiryIsAnswered, CommandsAreAnswered, IsClean, IsUndisturbed, NoNoiseIsClear, OneEnquiryIsEnough, begun, lost_at, state_at}
unfoldable pub use Rattle.laws_time.specs.circuit.Answered.{Enquires, WaitsIn}
pub use Rattle.laws_time.specs.circuit.Arriving.{AreAsked, CallsBearNoise, IsAsked, IsIdle, IsTold, calls, error_in, errors_at, is_used_up}
pub use Rattle.laws_time.specs.circuit.CaughtUp.{AllPlacesAreFree, AnEnquiryCatchesUp, AnswersTellWhatCame, GoesWell, HasCaughtUp, in_call}
pub use Rattle.laws_time.specs.circuit.Clocked.{Beat, Clocked, TimedEndpoint, after, all_due, asks, beat, clean, comes_to, contents_at, endpoint, falls, first, flags, gone, happens, hears, plain, without_first_octet}
unfoldable pub use Rattle.laws_time.specs.circuit.Clocked.{fall_due}
pub use Rattle.laws_time.specs.circuit.Ends.{EndsAreTimedCards, IsTimedCard, card_of}
pub use Rattle.laws_time.specs.circuit.InBeats.{ACallComesInTime, ACallTakesBeats, AShortCallTakesBeats, AreShort, AsksData, Begins, FallsDueFirst, FramesComeInBeats, HasReceived, IsAtRest, IsCalmSince, IsDataOf, IsToldAll, IsToldSince, IsUndue, MessagesComeInTime, MessagesTakeBeats, RunsOn, ShortMessagesTakeBeats, T203FallsDueFirst, T203FallsDueFirstSince, as_frames, granted_in}
unfoldable pub use Rattle.laws_time.specs.circuit.InBeats.{NoneFallsDue}
pub use Rattle.laws_time.specs.circuit.InCall.{ACallOutlastsNoise, IsShort, IsShortAt, IsUp, N200LastsInACall, Outlasts, WasTold}
pub use Rattle.laws_time.specs.circuit.LongEnough.{AnswersComeInTime, IsClearAt, IsFit, IsFrame, IsOfLink, IsTalk, Line, RunsLong, answered_in, asked, begins, is_waiting}
unfoldable pub use Rattle.laws_time.specs.circuit.LongEnough.{AreClear, pulling}
pub use Rattle.laws_time.specs.circuit.WorkedInBeats.{far_clock, its_line, near_clock, network, one_granted, rested, runs_until, user}
pub use Rattle.laws_time.proofs.Plain.{by-bool, by-either, by-option, front-none, none-of-both, some-in}
pub use Rattle.laws_trace.proofs.LinkLed.{own-is}
pub use Rattle.laws_trace.proofs.ObservedLaws.{holds, known-now, links-move-so, news-is-told-so, numbers-now, on-line-now, timers-run-so}
pub use Rattle.laws_trace.proofs.TimersAreTimely.{callers-run, config-now, sound-now, timely-now}
pub use Rattle.laws_trace.specs.FramesAreRead.{GivesOctets, contents_given}
pub use Rattle.laws_trace.specs.LinkFrames.{fault_of, frame_of, is_too_long, its_frame, malformed}
pub use Rattle.laws_trace.specs.Managing.{Managed, is_on, nothing_due}
pub use Rattle.laws_trace.specs.News.{brings, due as due_notes, given_up, is_news, is_sabme, is_xid, notes_due, releases, wrong, wrong_frame, wrong_number}
pub use Rattle.laws_trace.specs.Observer.{Observed, View, anew, awaits, by_event, by_expiry, by_frame, by_frame_begun, by_heard, by_t200, counted, enquires, in_state, may_repeat, moment_of as moment_at, view_behind, view_of, views}
pub use Rattle.laws_trace.specs.TimersAreTimely.{is_anew, is_order_of, is_timer_of, order_due, orders_due, renews, runs}
pub use Rattle.laws_trace.specs.Trace.{IsFront, frame_in, is_own, is_up}
pub use Rattle.laws_wire.proofs.Answered.{asks-way, takes-way}
pub use Rattle.laws_wire.proofs.Awaited.{closed, link-is, long-there, may-there, open-here, state-is}
pub use Rattle.laws_wire.proofs.BothPhases.{Goes, IsCalled}
pub use Rattle.laws_wire.proofs.Calling.{awaiting, caller, end, sabme, sends-ua, takes-sabme, ua, with_ua_first, with_ua_waiting}
pub use Rattle.laws_wire.proofs.Delivering.{cards-deliver, is-established, is-sound, kept-up}
pub use Rattle.laws_wire.proofs.Held.{Held, held-lost}
pub use Rattle.laws_wire.proofs.LineSpeaks.{Speaks, asks-told, comes-told, expires-told, takes-own}
pub use Rattle.laws_wire.proofs.Loose.{Loose, loose-after}
pub use Rattle.laws_wire.proofs.LooseUp.{LooseAt, LooseUp, at-expires, at-gives, at-takes, at-turned, loose-turned-up}
pub use Rattle.laws_wire.proofs.LossyRun.{Setting, setting}
pub use Rattle.laws_wire.proofs.Quiet.{Both, first-way, turned-both}
pub use Rattle.laws_wire.proofs.RestedRounds.{doing-append}
pub use Rattle.laws_wire.proofs.Ringing.{its_sabme, ringing}
pub use Rattle.laws_wire.proofs.Run.{calls-come-through, faces, faces-back}
pub use Rattle.laws_wire.proofs.Speaking.{heard_by, said_by}
pub use Rattle.laws_wire.proofs.Spelled.{sides-turned}
pub use Rattle.laws_wire.proofs.Standing.{Granted, IsCarried, StationStands, asks-stands, expires-said, expires-stands, gives-frames, gives-none, gives-stands, link-ranges, link-sound, takes-stands, takes-told}
pub use Rattle.laws_wire.proofs.Talking.{Face, Holds, More, Past, after_note, holds-asked, takes, unheard}
pub use Rattle.laws_wire.proofs.UaBefore.{regranted, with_before}
pub use Rattle.laws_wire.proofs.UaLost.{behind, not-told}
pub use Rattle.laws_wire.proofs.UaTold.{lossy-calls-come-through, patient-goes}
pub use Rattle.laws_wire.proofs.Up.{Talk, does, pair_of, turned-pair}
pub use Rattle.laws_wire.specs.Answering.{Called, IsAsked as IsAskedOfLink, IsFullTalk, IsFullTalkOf, ToldSo, error_f, renewed, seeing, takes_sabme, uncalled, with_sabme}
unfoldable pub use Rattle.laws_wire.specs.Answering.{StayPatient, seen}
pub use Rattle.laws_wire.specs.Call.{AreOpposite, CanCall, IsBeginningOf, calling, confirmed, data_told, indicated}
unfoldable pub use Rattle.laws_wire.specs.Call.{both_call}
pub use Rattle.laws_wire.specs.Facing.{Delivers, IsToldSince as ToldSince, due_since, frames_at, is_busy, line_of, most_turns, owed, own_frames_at, own_link, parts_of, read_as, unsent_at}
pub use Rattle.laws_wire.specs.Losing.{TellNoError, for_layer_3, is_error}
pub use Rattle.laws_wire.specs.Timely.{IsLongEnough, IsTimelyOf, MayRepeat, awaits_in, bit_of, is_final, is_poll}
pub use Rattle.laws_wire.specs.Wire.{Endpoint as FrameEndpoint, IsStill, Step as EndStep, StepAt, Wire, acting, at_far, at_near, doing, expires, frame_comes, frames_by, is_any, loses, receives, requests, sends, tells_nothing, turned}
unfoldable pub use Rattle.laws_wire.specs.Wire.{doing_all as wire_doing_all, turns as wire_turns}
pub use Rattle.model_bits.proofs.BitLemmas.{bits-append, length-bits}
pub use Rattle.model_bits.proofs.Division.Unique.{length-check}
pub use Rattle.model_bits.proofs.Items.{line_text-push}
pub use Rattle.model_bits.proofs.RoundTripFrame.{frames_round_trip_lem, hears_items, some_text}
pub use Rattle.model_bits.proofs.RoundTripPlaces.{after_flag, heard_until-onto, hears-append, reverse_aux-append, reverse_aux-onto}
pub use Rattle.model_bits.specs.Bits.{bits, flag}
unfoldable pub use Rattle.model_bits.specs.Bits.{low_bits}
pub use Rattle.model_bits.specs.Framer.{item_octets}
pub use Rattle.model_bits.specs.RoundTrip.{AreHeardWhole, IsHeardWhole, frames_of}
pub use Rattle.model_bits.specs.Sent.{Item, frame, frame_text, idle, item_text, line_text}
pub use Rattle.model_bits.specs.Stream.{Event as StreamEvent, ends_flag, frame as stream_frame, heard_at, heard_in, heard_until, room_for, since_flag}
pub use Rattle.model_bits.specs.StuffingLaws.{AreOctets}
pub use Rattle.model_card.proofs.OfPorts.AsOctets.{all_exact, cut_sent, exact, frames_sent, heard_whole, same_text, sent}
pub use Rattle.model_card.proofs.OfPorts.Codec.{meant_at_lines, refined_card}
pub use Rattle.model_card.proofs.OfPorts.Gains.{heard_with}
pub use Rattle.model_card.proofs.OfPorts.GoingOut.{fresh_at}
pub use Rattle.model_card.proofs.OfPorts.LastItem.{IsCut, IsOnItsWay}
pub use Rattle.model_card.proofs.OfPorts.PortGoesOn.{frames_among-append}
pub use Rattle.model_card.proofs.Runs.{after_all-append}
pub use Rattle.model_card.proofs.Steps.{by_line, count_cons, has_lines, line_sound}
pub use Rattle.model_card.specs.Card.{Card, line_at, state}
pub use Rattle.model_card.specs.Event.{Event, at}
pub use Rattle.model_card.specs.Machine.{wants_room}
pub use Rattle.model_card.specs.Room.{free as free_slots}
pub use Rattle.model_card.specs.Run.{AreAtLines, IsAtLine, Moment}
unfoldable pub use Rattle.model_card.specs.Run.{after_all as frames_after_all, moments}
pub use Rattle.model_card.specs.Sound.{IsSound as IsSoundCard}
pub use Rattle.model_card.specs.ports.Card.{OctetCard, answer_to, fresh as ports_fresh, port_at, said}
unfoldable pub use Rattle.model_card.specs.ports.Card.{after as ports_after, answer, meant}
pub use Rattle.model_card.specs.ports.Codec.{IsAnswered, SaysSo, frames_among, octet_pulled}
pub use Rattle.model_card.specs.ports.Event.{Event as OctetEvent, at as octet_at}
pub use Rattle.model_card.specs.ports.GoingOut.{GoOut, as_octets}
pub use Rattle.model_card.specs.ports.Port.{Port, answer_of, fresh_port, gained, is_due, item_of, left_of, next_octet, with_item, with_octet}
pub use Rattle.model_card.specs.ports.Pulls.{longest_text}
unfoldable pub use Rattle.model_card.specs.ports.Run.{meant_all}
pub use Rattle.model_card.specs.ports.Sound.{IsSoundPort}
pub use Rattle.model_line.proofs.Obeyed.{both-true, services-equal}
pub use Rattle.model_line.proofs.Ranges.{ranges_of, terms_in_range}
pub use Rattle.model_line.specs.Came.{came}
unfoldable pub use Rattle.model_line.specs.Config.{sapi_fault}
pub use Rattle.model_line.specs.Effect.{Aim, at_link, at_management, at_terminal, of_aim, of_change, of_link, of_network, of_terminal, told_of_link, without_units}
pub use Rattle.model_line.specs.Event.{Answer, LineTold, NextFrame, expiry, gave, given_in, next, refused, request}
pub use Rattle.model_line.specs.Expiry.{aim_of_expiry, at_timer, is_running, runs_at}
pub use Rattle.model_line.specs.Heard.{heard_side}
pub use Rattle.model_line.specs.Laws.{orders_in}
pub use Rattle.model_line.specs.Line.{fresh_line, has_tei, is_terminal, link_in, link_number, link_of, place_at, place_in, service_at, state_of, terms, tries}
pub use Rattle.model_line.specs.Machine.{aim_of, of_request, unless_refused, unless_refused_told}
unfoldable pub use Rattle.model_line.specs.Machine.{after as line_after, answer as line_answer, takes_slot}
pub use Rattle.model_line.specs.Refusal.{bad_tei, first_that_holds, no_link, refusal}
pub use Rattle.model_line.specs.Request.{Assign, ClearBusy, Data, Establish, Release, Request, SetBusy}
pub use Rattle.model_line.specs.Requested.{aim_of_request, at_requested}
pub use Rattle.model_line.specs.Room.{unless}
pub use Rattle.model_line.specs.Sound.{IsInRange, IsOfSide, IsSound}
pub use Rattle.model_line.specs.Taken.{next_of, own_side, with_given_frame}
pub use Rattle.model_line.specs.declared.config.Config.{Config}
pub use Rattle.model_line.proofs.Following.{and-false}
pub use Rattle.model_link.proofs.Direction.{named-means}
pub use Rattle.model_link.proofs.Lines.{Means, Rising, rising-low}
pub use Rattle.model_link.specs.Events.{Event as LinkEvent, Received, cleared as link_cleared, expired, offer, overlong, received, requested}
pub use Rattle.model_link.specs.Link.{Link, fresh as fresh_link, is_multiple_frame, queue_of, state_number}
pub use Rattle.model_link.specs.Machine.{after as link_after, course, given_of, told}
pub use Rattle.model_link.specs.Offers.{give_information, is_awaiting_acknowledgement, may_send_information, offer_among, send_acknowledgement, with_one_sent}
pub use Rattle.model_link.specs.Room.{room_of}
pub use Rattle.model_link.specs.Sound.{IsInRange as IsInRangeTerms, IsSound as LinkIsSound, IsWaitingFrame, is_information}
pub use Rattle.model_link.specs.Steps.{Course, Sent, changed}
pub use Rattle.model_link.specs.Told.{order_for, orders_for, runs as link_runs}
unfoldable pub use Rattle.model_link.specs.Told.{starts}
pub use Rattle.model_link.specs.TwoEnds.{Endpoint as LinkEndpoint, frame_given, with_link, with_sent}
pub use Rattle.model_link.specs.declared.frames.ControlFrame.{ControlFrame}
pub use Rattle.model_link.specs.declared.rooms.Room.{Room}
pub use Rattle.model_link.specs.declared.states.State.{State}
pub use Rattle.model_link.specs.declared.states.State.TheVariants.{AwaitingEstablishment, Established, TeiAssigned, TimerRecovery}
pub use Rattle.model_link.specs.declared.terms.Terms.{Terms}
pub use Rattle.model_link.specs.declared.timers.LinkTimer.{LinkTimer}
pub use Rattle.model_link.specs.declared.timers.LinkTimer.TheVariants.{T200, T203}
pub use Rattle.model_timed.proofs.Orders.{held-is, in-order, itself, lengths-stay, now-stays}
pub use Rattle.model_timed.specs.RunTheSame.{Stands}
pub use Rattle.model_timed.proofs.RunTheSame.{octet-stepped, octet_timers_run_the_same, stepped}
pub use Rattle.model_timed.specs.Clock.{Clock, at_moment, due, expiry_of, first_due, obey, obeyed, stopped, without_first}
pub use Rattle.model_timed.specs.Frames.{IsNoExpiry, TimedCard, event_of, events_of, frames}
pub use Rattle.model_timed.specs.Octets.{IsNoExpiry as IsNoOctetsExpiry, TimedOctetCard, fresh, octets, orders_in as octet_orders}
pub use Rattle.model_timed.specs.Timed.{IsInTime, IsPrompt, Kind, Step, Timed, expiry_at, falls_due, happens as step_happens, time, with_expiry}
unfoldable pub use Rattle.model_timed.specs.Timed.{ArePrompt, after_all, events_of as timed_events_of}
pub use mathlib.Core.List.{reverse_aux}
