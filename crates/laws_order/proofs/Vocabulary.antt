-- The words of std, of the crates below and of the statements of this crate with which its proofs speak: those of `laws_wire` from its own
-- vocabulary, the others from where they are defined.
pub use Rattle.laws_wire.proofs.Vocabulary.{All-append, All-cons, All-head, All-nil, All-tail, Assign, AwaitingEstablishment, AwaitingRelease, Call, Card, Config, Control, ControlFrame, Course, Data, LinkEndpoint, ErrorCode, Establish, Given, Joined, LinkTimer, Note, Packet, Parts, PoolFull, Refusal, Request, Seq, Service, State, T200, TeiAssigned, Terms, TimerRecovery, and_parts, at-first, begun}
pub use Rattle.laws_wire.proofs.Vocabulary.{came, done-at, event-delivers, event-follows, flat_map-append, frame_given, given_is_frame, heard_side, is_granted, joined-turned, le-ltb, leb-true, line_at, link-grants, list_any, list_any-append, ltb-false, ltb-true, network, next_of, offer-gave, option_map_or, or_parts, place_of-is, reading-again, sapi_of, sound_in, taken, terms_in_range}
pub use Rattle.laws_wire.proofs.Vocabulary.{own_side, user, with_link, with_sent}
unfoldable pub use Rattle.laws_wire.proofs.Vocabulary.{control_of, distance_of, exchanged, header_of, named, reading, side_reading, seq, supervisory_of, tei_course, tei_refusal, unnumbered_of}
pub use Rattle.std.proofs.Common.{Bool, Err, IfSome, IsTrue, List, None, Ok, Option, Result, Some, [], ap, append-nil, append_assoc, arith, cond, drop, eq-eqb, eqb-true, false, get_or, inl, inr, is_some, length, length-append, length-drop, map, nat_lt, not, option_and_then, option_map, option_to_list, refl, reverse, set, subst, suc, sym, take, true, true≢false, zero, ℕ, ◌%◌, ◌&&◌, ◌*◌, ◌++◌, ◌+◌}
pub use Rattle.std.proofs.Common.{◌-◌, ◌<◌, ◌==◌, ◌||◌, ◌∙◌, ◌∷◌, ◌≡◌, ◌≤◌, ◌⊎◌}
pub use Rattle.std.proofs.lemmas.List.{append_cancel_left, drop-drop, get_or-replicate, get_or-set_other, get_or-set_same, length-map, length-take, length-take-le, map-append}
pub use Rattle.std.proofs.lemmas.List.Sums.{fold-append}
pub use Rattle.std.proofs.lemmas.Option.{slice_get_within}
pub use Rattle.std.specs.Prelude.{All, filter, flat_map, fold, if◌then◌else◌, min, slice_get, unwrap_or}
pub use Rattle.lapd_frame.specs.declared.controls.Control.TheVariants.{Disc, Dm, Information, ReceiveNotReady, ReceiveReady, Reject, Sabme, Ua, Ui}
pub use Rattle.lapd_frame.specs.declared.faults.ReadFault.{ReadFault}
pub use Rattle.lapd_frame.specs.declared.notes.ErrorCode.TheVariants.{H}
pub use Rattle.lapd_frame.specs.declared.notes.Note.TheVariants.{Assigned as NoteAssigned, Data as NoteData, Doubled as NoteDoubled, Error as NoteError, EstablishConfirm as NoteEstablishConfirm, EstablishIndication as NoteEstablishIndication, ReleaseConfirm as NoteReleaseConfirm, ReleaseIndication as NoteReleaseIndication, Removed as NoteRemoved, Unit as NoteUnit, Xid as NoteXid}
pub use Rattle.lapd_seq.proofs.Callers.{is_seq}
pub use Rattle.laws_line.proofs.Granting.{not-refused}
pub use Rattle.laws_line.proofs.Hearing.{same-sapi, sapi-is}
pub use Rattle.laws_line.proofs.Knowing.{known-up}
pub use Rattle.model_line.proofs.Obeyed.{service-same}
pub use Rattle.laws_line.proofs.OfCard.Wherever.{all-left, all-right}
pub use Rattle.model_line.proofs.Places.{is-off}
pub use Rattle.model_line.proofs.TimersFollow.{nowhere}
pub use Rattle.laws_line.specs.Heard.{contents_in, is_data_of, notes_of}
pub use Rattle.laws_line.specs.Knowledge.{is_up_of, up_by_note}
pub use Rattle.laws_line.specs.Requests.{deactivates, of_link}
pub use Rattle.laws_line.specs.Steady.{IsBy, timer_of}
pub use Rattle.model_link.proofs.TimedRows.{timed-after}
pub use Rattle.laws_link.specs.Accepted.{accepted, acknowledged, contents_asked, empties}
pub use Rattle.laws_link.specs.Known.{is_up_in}
pub use Rattle.laws_link.specs.States.{as_heard, by_frame, by_request, is_faulty, is_invalid, receipt_of, state_after, is_overlong}
pub use Rattle.laws_link.specs.Steady.{is_anew}
pub use Rattle.laws_link.specs.Telling.{error, told_by, told_by_frame, told_cleared, told_malformed}
pub use Rattle.laws_link.specs.Waiting.{answers, commands, put, receipt_as, room}
pub use Rattle.laws_trace.proofs.Begins.{unless}
pub use Rattle.laws_trace.proofs.DataAsked.{granted-data}
pub use Rattle.laws_trace.proofs.DeliveriesRun.{data-noted, no-data}
pub use Rattle.laws_trace.proofs.LinkLed.{none-ticks, on-line, own-is}
pub use Rattle.laws_trace.proofs.NewsOfLeaving.{leaving-due}
pub use Rattle.laws_trace.proofs.NewsOfOthers.{none-filtered, others-silent}
pub use Rattle.laws_trace.proofs.NewsWatched.{due}
pub use Rattle.laws_trace.proofs.OctetsBegin.{frames-are-octets}
pub use Rattle.laws_trace.proofs.OfferTells.{offer-tells_nothing}
pub use Rattle.laws_trace.proofs.OneLink.{Goes, HasNone, HasOne, IsForeign, IsGivenUp, event-goes, frames_given, is_at_link}
pub use Rattle.laws_trace.proofs.Outgoing.{comes, here-at, its, kept-now, view-is}
pub use Rattle.laws_trace.proofs.ReadAgain.{read-again}
pub use Rattle.laws_trace.proofs.Facts.{number-up}
pub use Rattle.laws_trace.proofs.SeenAs.{IsSeenAs, seen-before}
pub use Rattle.laws_trace.proofs.States.{expired_of}
pub use Rattle.laws_trace.proofs.TimersAreTimely.{config-now, sound-now, timely-now}
pub use Rattle.laws_trace.proofs.TimersOfEvent.{off-fresh}
pub use Rattle.laws_trace.proofs.TimersWatched.{nothing_yet}
pub use Rattle.laws_trace.proofs.Drained.{moments-both}
pub use Rattle.laws_trace.specs.FramesAreRead.{GivesOctets, contents_given}
pub use Rattle.laws_trace.specs.LinkFrames.{is_for}
pub use Rattle.laws_trace.specs.Observer.{View, steps, view_of, views}
pub use Rattle.laws_trace.specs.Trace.{IsFront, Seen, data_asked, frame_in, frames_begun, is_own, is_up, seen, trace, trace_of}
pub use Rattle.laws_trace.specs.Units.{is_ui}
pub use Rattle.laws_wire.proofs.Fair.{or-true}
pub use Rattle.laws_wire.proofs.Answered.{asks-way, gives-taken, takes-way}
pub use Rattle.laws_wire.proofs.Delivering.{calls-face, is-established, is-quiet, is-sound}
pub use Rattle.laws_wire.proofs.RestedRounds.{doing-append}
pub use Rattle.laws_wire.proofs.Run.{calls-come-through, or-both}
pub use Rattle.laws_wire.proofs.Spelled.{came-whole, sides-turned}
pub use Rattle.laws_wire.specs.Call.{CanCall, IsCall, assigned, calling, confirmed, data_told, endpoint, told_first, ComesThrough as CallComesThrough}
unfoldable pub use Rattle.laws_wire.specs.Call.{both_call as call_both_call}
pub use Rattle.laws_wire.specs.Facing.{Face, Speaks, line_of}
pub use Rattle.laws_wire.specs.Wire.{Endpoint, IsStill, Step as EndStep, StepAt, Wire, answered, at_far as wire_at_far, at_near as wire_at_near, doing as wire_doing, expires, frame_comes, frames_by, happens, is_any, is_turn as wire_is_turn, loses, receives, requests, sends, turned, without_first}
unfoldable pub use Rattle.laws_wire.specs.Wire.{doing_all as wire_doing_all, turns as wire_turns}
pub use Rattle.model_bits.specs.Bits.{bits}
unfoldable pub use Rattle.model_bits.specs.Bits.{low_bits}
pub use Rattle.model_bits.specs.Framer.{item_octets}
pub use Rattle.model_bits.specs.Sent.{Item, idle, frame}
pub use Rattle.model_bits.specs.Stream.{closed_by_flag, ends_flag, given_up, heard_at, heard_in, heard_until, room_for, since_flag, text_event, Event as StreamEvent, frame as stream_frame}
pub use Rattle.model_bits.specs.StuffingLaws.{AreOctets}
pub use Rattle.model_card.proofs.CardSound.{after_is_sound, always_sound as frames_always_sound, fresh_is_sound}
pub use Rattle.model_card.proofs.OfPorts.AsOctets.{all_exact, cut_sent, frames_sent, heard_whole, same_text, sent}
pub use Rattle.model_card.proofs.OfPorts.Codec.{meant_at_lines, refined_card}
pub use Rattle.model_card.proofs.OfPorts.Gains.{heard_with}
pub use Rattle.model_card.proofs.OfPorts.GoingOut.{fresh_at, on_its_way}
pub use Rattle.model_card.proofs.OfPorts.HeardOctets.{heard_frames_are_octets}
pub use Rattle.model_card.proofs.OfPorts.LastItem.{IsLongItem, IsOnItsWay}
pub use Rattle.model_card.proofs.OfPorts.LineHeard.{all_out, go_out}
pub use Rattle.model_card.proofs.OfPorts.PortGoesOn.{ready_where}
pub use Rattle.model_card.proofs.OfPorts.Pulls.{pulls_are_takes}
pub use Rattle.model_card.proofs.OfPorts.Sound.{port_sound}
pub use Rattle.model_card.proofs.OfPorts.Steps.{by_port, config_after, config_stays, moments-append, ports_after}
pub use Rattle.model_card.proofs.OfPorts.TextGoesOn.{left_with_octet}
pub use Rattle.model_card.proofs.Runs.{after_all-append}
pub use Rattle.model_card.proofs.Steps.{by_room, has_lines}
pub use Rattle.model_card.specs.Machine.{wants_room, answer as card_answer}
pub use Rattle.model_card.specs.ports.Card.{OctetCard, answer_to, card_after, port_at, said}
pub use Rattle.model_card.specs.ports.Codec.{frames_among, heard_by, octet_come, octet_pulled}
pub use Rattle.model_card.specs.ports.GoingOut.{GoOut}
pub use Rattle.model_bits.specs.StreamLaws.{HasOctets}
pub use Rattle.model_card.specs.ports.Port.{Port, answer_of, fresh_port, gained, is_due, item_of, left_of, next_octet, with_item, with_octet, Event as PortEvent, after as port_after, meant as port_meant, octet as port_octet, pull as port_pull, request as port_request, told as port_told}
pub use Rattle.model_card.specs.ports.Pulls.{longest_text}
pub use Rattle.model_card.specs.ports.Run.{AreAtLines, IsAtLine}
pub use Rattle.model_card.specs.ports.Sound.{IsSoundOctetCard, IsSoundPort}
pub use Rattle.model_line.specs.Event.{Answer, Event, LineTold, NextFrame, expiry, gave, hears, next, refused, request, given_in}
pub use Rattle.model_line.specs.Line.{Line, fresh_line, has_tei, link_in, link_of, place_in, terms, state_in, window}
pub use Rattle.model_line.specs.Machine.{aim_of}
pub use Rattle.model_link.proofs.Direction.{Direction, carries-next, frames-append, frames_of}
pub use Rattle.model_link.proofs.Facing.{Up, clear_busy_up, set_busy_up, still}
pub use Rattle.model_link.proofs.Lines.{Carried, Carries, Means, Rising, rising-low}
pub use Rattle.model_link.proofs.Taking.{Advance, HasNumber, frame-taken, none-delivered}
pub use Rattle.model_link.specs.Events.{ClearBusy, Received, Release, SetBusy, cleared, expired, offer, overlong, received, requested, undefined, wrong_size, Event as LinkEvent, Request as LinkRequest, frame as link_frame}
pub use Rattle.model_link.specs.Link.{Link, address_at, frame_of, fresh, is_multiple_frame, state_number}
pub use Rattle.model_link.specs.Machine.{after, course, given_of, told, given as link_given}
pub use Rattle.laws_order.specs.AnySteps.{AnyStep, AnyStepAt, IsElsewhere, IsNotOf, IsPossible, IsPossibleAt, step, any_acting, any_far, any_near, disturbed, elsewhere, elsewhere_on, events_here, any_doing, is_of_link, of_link_at, of_link_in, seen_at_near, seen_by}
unfoldable pub use Rattle.laws_order.specs.AnySteps.{any_doing_all, seen_far, seen_near}
pub use Rattle.laws_order.specs.InTheEnd.{BothAreTold, IsNotDeactivated, IsToldAtLast, ReleasesAreTold, is_t200, t200_by}
unfoldable pub use Rattle.laws_order.specs.InTheEnd.{StaysThere, t200s}
pub use Rattle.laws_order.specs.Order.{AreOfStep, DeliveredInOrder, FaceInStep, IsInStep, IsToldInOrder, Known, Past, StaysEstablished, Tally, data_granted, data_noted, ends_by, ends_by_note, ends_by_request, kept_by, known, no_tally, noted_in, of_link_on, said_by, state_here, tallies, tally_of}
pub use Rattle.laws_order.specs.Release.{BeginsNothing, IsNotCalled, IsToldOfRelease, NoCall, ReleasedIsOver, ReleasesEnd, begins_by, begins_by_note, is_called, is_in_4, is_news, is_plain_dm, news, news_in}
unfoldable pub use Rattle.laws_order.specs.Release.{called}
pub use Rattle.lapd_frame.specs.declared.readings.Reading.{Reading}
pub use Rattle.lapd_frame.specs.declared.readings.Reading.TheVariants.{Profile}
pub use Rattle.laws_trace.specs.News.{brings}
pub use Rattle.laws_order.specs.circuit.Beats.{AllIsToldInBeats, IsToldAll, beat, enough_beats, granted_of, longest}
unfoldable pub use Rattle.laws_order.specs.circuit.Beats.{beats}
pub use Rattle.laws_order.specs.circuit.Circuit.{Circuit, Step as OctetStep, StepAt as OctetStepAt, Endpoint as OctetEndpoint, requests as octet_requests, at_far, at_near, port_of, doing}
unfoldable pub use Rattle.laws_order.specs.circuit.Circuit.{doing_all}
pub use Rattle.laws_order.specs.circuit.Mixed.{DeliveredBetweenKinds, Mixed}
pub use Rattle.laws_order.specs.circuit.Resting.{AreSilent, CallsComeToRest, FaceAtRest, as_noisy_endpoint}
pub use Rattle.laws_order.specs.circuit.Through.{HasAllGone, IsTalk, IsTalkOf, calls_back}
unfoldable pub use Rattle.laws_order.specs.circuit.Through.{both_call}
pub use Rattle.laws_order.specs.circuit.WorkedCall.{begins, establishes, goes_on, sends_octets}
pub use Rattle.model_card.specs.Event.{at, Event as FramesEvent}
pub use Rattle.model_line.specs.Sound.{IsInRange}
pub use Rattle.laws_line.specs.Timers.{HaveTheirTimers}
pub use Rattle.laws_link.proofs.Keeping.{event-done}
pub use Rattle.laws_link.specs.History.{share, with_share}
pub use Rattle.laws_order.specs.WorkedRelease.{awaits, both_begin_nothing, both_release, far_lasts, released, releases, takes_two}
pub use Rattle.laws_order.specs.circuit.Damaged.{HasReceived}
pub use Rattle.laws_order.specs.circuit.MixedCall.{IsThrough}
pub use Rattle.laws_order.specs.circuit.WorkedMixed.{are_talk, call_begins, talks}
pub use Rattle.laws_trace.proofs.DataOfLink.{acknowledged-went}
pub use Rattle.laws_trace.proofs.DeliveriesKept.{run-stands}
pub use Rattle.laws_trace.proofs.LineAtEnd.{link-at-end}
pub use Rattle.laws_trace.proofs.NewsRows.{sabme_of}
pub use Rattle.laws_trace.proofs.NewsSeen.{none-begins, one-begins}
pub use Rattle.laws_trace.proofs.ObservedAcknowledged.{agrees-now}
pub use Rattle.laws_trace.proofs.ObservedFacts.{brings-is}
pub use Rattle.laws_trace.proofs.Plain.{all-wait}
pub use Rattle.laws_trace.proofs.Runs.{apart, nothing-seen}
pub use Rattle.laws_trace.proofs.WaitingNow.{waiting-now}
pub use Rattle.laws_wire.proofs.Joint.{timer-delivers}
pub use Rattle.laws_wire.proofs.Replying.{at-end}
pub use Rattle.model_card.specs.ports.HeardOctets.{HearsOctets}
pub use Rattle.model_card.specs.ports.Reached.{IsReached}
pub use Rattle.model_link.proofs.Hearing.{take-next}
pub use Rattle.model_link.specs.Deliveries.{restarts}
pub use Rattle.model_link.specs.Sound.{IsSound}
pub use Rattle.std.proofs.lemmas.Bool.{ne_eqb}
