-- The words of std and of the crates below with which the proofs of this crate speak, from where they are defined.
pub use Rattle.std.proofs.Common.{All, Bool, Err, IfSome, List, None, Ok, Option, Result, Some, [], ap, append-nil, append_assoc, arith, cond, drop, eq-eqb, eqb-true, false, filter, get_or, inl, inr, is_some, length, length-append, map, nat_le, not, option_map, refl, replicate, set, slice_get, slice_index, subst, suc, sym, take, true, true≢false, zero, ℕ, ⊎_elim, ◌%◌, ◌&&◌, ◌*◌, ◌++◌, ◌+◌, ◌-◌}
pub use Rattle.std.proofs.Common.{◌/◌, ◌<◌, ◌==◌, ◌||◌, ◌∙◌, ◌∷◌, ◌≡◌, ◌≢◌, ◌≤◌, ◌⊎◌}
pub use Rattle.std.specs.Prelude.{IsTrue}
pub use Rattle.std.proofs.Math.Bool.{and-true, or-false, or-true, or_comm}
pub use Rattle.std.proofs.Math.Seq.{drop-nil, take-length}
pub use Rattle.std.proofs.lemmas.Bool.{and_parts, and_right, cond_both, eqb-false, false_from_ne_true, le-leb, le-ltb, leb-false, leb-true, lt-ltb, ltb-false, ltb-true, or_parts, or_right}
pub use Rattle.std.proofs.lemmas.Grind.{flat_map-append}
pub use Rattle.std.proofs.lemmas.List.{get_or-replicate, get_or-set_other, get_or-set_same, length-drop, length-replicate, map-append, length-map}
pub use Rattle.std.proofs.lemmas.List.Elements.{All-append, All-cons, All-drop, All-head, All-nil, All-tail, All-take, All-weaker, filter-append}
pub use Rattle.std.proofs.lemmas.List.Sums.{fold-append, sum_by-cons}
pub use Rattle.std.proofs.lemmas.Map.Views.{any-filter_same}
pub use Rattle.std.proofs.lemmas.Option.{none-some}
pub use Rattle.std.specs.List.{find, list_any, prefix_len, range_with_len}
pub use Rattle.std.specs.Option.{option_and_then, option_map_or, option_or, unwrap_or}
pub use Rattle.std.specs.Prelude.{IfOk, count_by, flat_map, fold, if◌then◌else◌, nat_lt, option_to_list, sum_by}
pub use Rattle.std.specs.Result.{result_err, result_ok}
pub use Rattle.lapd_count.specs.Counters.{More}
pub use Rattle.lapd_frame.proofs.AddressField.{address-again}
pub use Rattle.lapd_frame.proofs.ControlField.{control-again}
pub use Rattle.lapd_frame.proofs.Naming.{exchanged-back, exchanged-small, management-spelled, named-ok, reading-again, reading-found, renamed-back}
pub use Rattle.lapd_frame.specs.Grammar.{Parts, cr_bit, head_of, other_side, spelling as side_spelling}
pub use Rattle.lapd_frame.specs.Reading.{checked, completed}
unfoldable pub use Rattle.lapd_frame.specs.Reading.{header_of, reading as side_reading}
unfoldable pub use Rattle.lapd_frame.specs.Senders.{exchanged, reading}
pub use Rattle.lapd_frame.specs.Senders.{fault_named, named as named_by, renamed, spelling}
pub use Rattle.lapd_frame.specs.declared.senders.Sender.{Sender}
pub use Rattle.lapd_frame.specs.Services.{same_service, sapi_of, service_of}
pub use Rattle.lapd_frame.specs.declared.addresses.Address.{Address}
pub use Rattle.lapd_frame.specs.declared.addresses.Side.{Side}
pub use Rattle.lapd_frame.specs.declared.addresses.Side.TheVariants.{Network, User}
pub use Rattle.lapd_frame.specs.declared.controls.Control.{Control}
pub use Rattle.lapd_frame.specs.declared.controls.Control.TheVariants.{Disc, Dm, Frmr, Information, ReceiveNotReady, ReceiveReady, Reject, Sabme, Ua, Ui}
pub use Rattle.lapd_frame.specs.declared.faults.ReadFault.{ReadFault}
pub use Rattle.lapd_frame.specs.declared.faults.ReadFault.TheVariants.{BadExtension}
pub use Rattle.lapd_frame.specs.declared.notes.ErrorCode.{ErrorCode}
pub use Rattle.lapd_frame.specs.declared.notes.ErrorCode.TheVariants.{C, F, L, N, O}
pub use Rattle.lapd_frame.specs.declared.notes.Note.{Note}
pub use Rattle.lapd_frame.specs.declared.notes.Note.TheVariants.{Data as NoteData, Doubled, Error, EstablishConfirm, EstablishIndication, ReleaseConfirm, ReleaseIndication, Removed, Unit, Xid as NoteXid}
pub use Rattle.lapd_frame.specs.declared.overlong.Long.{Long}
pub use Rattle.lapd_frame.specs.declared.refusals.Refusal.{Refusal}
pub use Rattle.lapd_frame.specs.declared.refusals.Refusal.TheVariants.{BadTei, NoLink, PoolFull, TooLong, QueueFull, WrongState}
pub use Rattle.lapd_frame.specs.declared.services.Service.{Service}
pub use Rattle.lapd_frame.specs.declared.services.Service.TheVariants.{Call, Packet}
pub use Rattle.lapd_frame.specs.declared.timers.Order.{Order}
pub use Rattle.lapd_frame.specs.declared.timers.Order.TheVariants.{Start, Stop}
pub use Rattle.lapd_frame.specs.declared.timers.Timer.{Timer}
pub use Rattle.lapd_frame.specs.declared.timers.Timer.TheVariants.{T200 as TimerT200, T201, T203 as TimerT203}
pub use Rattle.lapd_seq.proofs.Callers.{is_seq, seq-value}
unfoldable pub use Rattle.lapd_seq.specs.Circle.{distance_of, named}
unfoldable pub use Rattle.lapd_seq.specs.Numbers.{seq}
pub use Rattle.lapd_seq.specs.declared.numbers.Seq.{Seq}
pub use Rattle.model_teis.proofs.OfNetwork.LawLemmas.{changes_are_told}
pub use Rattle.model_teis.proofs.Tables.{at-within, free_place-is, free_tei-is, is_on-at, not_not, on-range, place_of-is}
unfoldable pub use Rattle.model_teis.specs.network.Events.{course as tei_course, refusal as tei_refusal}
pub use Rattle.model_teis.specs.Refused.{refusal_if as tei_refusal_if}
pub use Rattle.model_teis.specs.network.Events.{Event as TeiEvent, after as tei_after, assign as tei_assign, check as tei_check, disown as tei_disown, message as tei_message, remove as tei_remove, step as tei_step, told as tei_told, unless_refused as tei_unless_refused}
pub use Rattle.model_teis.specs.Changes.{HasJoined, HasLeft, Moves}
pub use Rattle.model_teis.specs.network.Laws.{Follows, IsInRange as TeiIsInRange, stop_of}
pub use Rattle.model_teis.specs.network.Machine.{Management}
pub use Rattle.model_teis.specs.network.Messages.{action_of, frame_of as message_frame, heard_in, heard_of_type, information_of}
pub use Rattle.model_teis.specs.Table.{IsAt, IsSoundTable, Places, free_place, has, is_free, is_in_use, is_on, means, place_of, freed}
pub use Rattle.model_teis.specs.network.Sound.{IsSoundCheck}
pub use Rattle.model_teis.specs.network.Words.{Course as TeiCourse, begin_check, begun as tei_begun, end_check, leave, lose_one, no_room, send, unserved}
pub use Rattle.model_teis.specs.declared.network.check.Check.{Check}
pub use Rattle.model_teis.specs.declared.network.check.Period.{Period}
pub use Rattle.model_teis.specs.declared.network.check.Period.TheVariants.{First, Second, Settling}
pub use Rattle.model_teis.specs.declared.network.messages.Message.{Message}
pub use Rattle.model_teis.specs.declared.network.messages.Message.TheVariants.{IdentityAssigned, IdentityDenied, IdentityRemove}
pub use Rattle.model_teis.specs.declared.changes.Change.{Change}
pub use Rattle.model_teis.specs.declared.changes.Change.TheVariants.{Gained, Left}
pub use Rattle.model_teis.specs.declared.network.remembered.Remembered.{Remembered}
pub use Rattle.laws_line.proofs.Asked.{link-grants}
pub use Rattle.laws_line.proofs.Bounds.{to-go-few}
pub use Rattle.model_line.proofs.Downs.{by-down}
pub use Rattle.model_line.proofs.Following.{and-false, some-same}
pub use Rattle.laws_line.proofs.Granting.{not-refused}
pub use Rattle.laws_line.proofs.Grouping.{group-read}
pub use Rattle.laws_line.proofs.HandedOn.{contents-heard, own-all}
pub use Rattle.laws_line.proofs.Happening.{by-or-down, event-happens}
pub use Rattle.laws_line.proofs.Hearing.{addressed-is, read-aim, read-event, same-sapi, sapi-is}
pub use Rattle.laws_line.proofs.InRounds.{comes-first}
pub use Rattle.laws_line.proofs.Leaving.{next-moves}
pub use Rattle.model_line.proofs.LinkMoves.{IsOne, OfLink, of-links, taken-one}
pub use Rattle.model_line.proofs.Obeyed.{both-true, obeyed-append, service-same, services-equal}
pub use Rattle.laws_line.proofs.OfCard.Meanwhile.{card-drains, card-idles, line-sound}
pub use Rattle.laws_line.proofs.OfCard.Spelling.{head}
pub use Rattle.laws_line.proofs.OfCard.TimersRun.{begins-timely-card, needed-run, needs-none, timely-after, timely-all}
pub use Rattle.laws_line.proofs.OfCard.Wherever.{all-left, all-right, config-stays, waiting-taken}
pub use Rattle.model_line.proofs.Places.{has-no-place, has-place, is-off}
pub use Rattle.laws_line.proofs.Readings.{elsewhere, emptied, emptied-read, filled-read, same-read}
pub use Rattle.laws_line.proofs.Serving.{none-waits, served, turn-stays, units-wait}
pub use Rattle.laws_line.proofs.TeiNotes.{ByChange, noted}
pub use Rattle.laws_line.proofs.Tied.{Ties, expiry-ties, heard-ties, request-ties}
pub use Rattle.laws_line.proofs.TimersFollow.{followed, timely-line}
pub use Rattle.model_line.proofs.TimersFollow.{nowhere, number-is}
pub use Rattle.laws_line.proofs.ToldOnce.{told-once}
pub use Rattle.laws_line.specs.Drains.{control_text, frames_to_go, most_frames, way_round, most_frames_before}
pub use Rattle.laws_line.specs.Frames.{given_up_in, lost_in}
pub use Rattle.laws_link.proofs.GivingUp.{other-none, own-gone}
pub use Rattle.laws_link.specs.History.{given_up_of}
pub use Rattle.laws_line.specs.Heard.{IsHeard, IsHeardAtLink, IsHeardByGroup, contents_in, is_data_of, is_unit_of, notes_of, tells_contents}
pub use Rattle.laws_line.specs.Loss.{is_loss_of}
pub use Rattle.laws_line.specs.Requests.{deactivates, is_deactivation, of_link}
pub use Rattle.laws_line.specs.Served.{HasNothing, IsIdle, IsOfLink, IsOwed, IsSilent, IsSilentAt, contents_of_link, in_turn, units_asked, units_left}
pub use Rattle.laws_line.specs.Share.{is_granted}
pub use Rattle.laws_line.specs.Steady.{Brings, BringsMalformed, IsBy, IsDeactivated, IsOf, timer_of}
pub use Rattle.laws_line.specs.Timers.{HaveTheirTimers, is_needed}
pub use Rattle.model_line.specs.Runs.{left_by, runs_then}
pub use Rattle.model_card.specs.Takes.{AreTakesAt, takes_at, is_take, takes_of, frames_given, octets_of}
pub use Rattle.laws_line.specs.card.Timers.{AllHaveTheirTimers, one_more, runs_at_callers}
pub use Rattle.laws_link.proofs.Starting.{none-ordered}
pub use Rattle.laws_link.proofs.Counted.{kept-after}
pub use Rattle.laws_link.proofs.Follows.{event-follows}
pub use Rattle.laws_link.proofs.InOrder.{given-in-order}
pub use Rattle.laws_link.proofs.Keeping.{event-done, event-unit}
pub use Rattle.laws_link.proofs.Offering.{given-is-offered}
pub use Rattle.laws_link.proofs.Once.{data-is, within-is}
pub use Rattle.laws_link.proofs.Restarts.{establishes}
pub use Rattle.laws_link.specs.Accepted.{accepted, acknowledged, empties, ends, gives_up, is_loss, tells_loss}
pub use Rattle.laws_link.specs.Flags.{busy_asked, flag_left, owed_behind, owed_in, own_busy_left, pending_left, rejecting_heard, takes_contents, unless_put}
pub use Rattle.laws_link.specs.Heard.{in_sequence, in_ui_frame, unit_heard, within}
pub use Rattle.laws_link.specs.History.{share}
pub use Rattle.laws_link.specs.InOrder.{IsInOrder}
pub use Rattle.laws_link.specs.Offered.{Carries, IsOffered, i_frames, number_sent}
pub use Rattle.laws_link.specs.States.{as_heard, by_frame, by_request, is_anew, moves, numbers_begin, state_after}
pub use Rattle.laws_link.specs.Telling.{numbered_as, told_by}
pub use Rattle.model_link.specs.Timed.{obey, obeyed}
pub use Rattle.laws_link.specs.Waiting.{answers, answers_up, as_command, as_response, command_in, commands, is_time, put, receipt_as, room, to_sabme, waiting_left}
pub use Rattle.laws_link.specs.two.Needed.{HasItsTimer, needed_in}
pub use Rattle.laws_trace.specs.ControlFrames.{put_in, changed, command_of}
pub use Rattle.laws_trace.specs.Deliveries.{WhatIsToldWasHeard, brings_next, is_unit_taken}
pub use Rattle.laws_trace.specs.FramesAreDue.{DueIsGiven, GivenIsDue, may_go, offers, text}
pub use Rattle.laws_trace.specs.FramesAreRead.{FramesAreOctets, FramesAreRead, GivesOctets, IsSpelled, contents_given}
pub use Rattle.laws_trace.specs.LinkFrames.{brought, fault_of, faulty_long, frame_of, is_for, is_frame_of, its_frame, malformed, reads}
pub use Rattle.laws_trace.specs.Managing.{manages, Checked, Managed, by_event as managing_by_event, by_message as message_served, checks, due, gives, grants, is_on as managing_is_on, leaves, led, managed_after, may_check, none_on, nothing_due, over, owes, ran_out, responded, settling}
pub use Rattle.laws_trace.specs.News.{NewsIsTold, awaits_release, brings, establishes as asks_establishment, given_up, is_news, is_sabme, is_xid, releases, wrong, wrong_frame, wrong_number}
pub use Rattle.laws_trace.specs.Observer.{Observed, View, anew, asked_for, at_first, awaits, by_establish, by_event, by_release, decides, by_expiry as observer_by_expiry, by_frame as observer_by_frame, by_heard, by_request as observer_by_request, by_t200, enquires, enters, in_state, is_outstanding, moment_of, steps, view_behind, view_of, views, while_down, while_up}
pub use Rattle.laws_trace.specs.Outgoing.{Outgoing, data_granted, is_empty, keeps, nothing_yet, outgoing_of, still_owes, watches, went_on, waits as outgoing_waits}
pub use Rattle.laws_trace.specs.TeisAreManaged.{IsAsDue, TeisAreManaged, is_of_line, is_of_teis}
pub use Rattle.laws_trace.specs.TimersAreTimely.{TimersAreTimely, TimersRun, is_order_of, renews}
pub use Rattle.laws_trace.specs.Trace.{Always, IsAmong, IsFront, Seen, begun as trace_begun, data_asked, frame_begun, frame_in as trace_frame_in, frames_begun, granted, heard, is_own, is_up, lost, noted as trace_noted, seen, seen_granted, seen_in, seen_told, trace, trace_of}
pub use Rattle.laws_trace.specs.Units.{is_down, is_ui}
pub use Rattle.laws_trace.specs.UnitsGoOut.{AllUnitsGoOut, UnitsGoOut, is_unit, units_of, waits}
pub use Rattle.laws_trace.specs.octets.Granted.{Asked, if_granted, none_asked, request_granted, requests_of, units_to_hear, with_request}
pub use Rattle.laws_trace.specs.octets.Pulled.{EndsInPulls}
pub use Rattle.laws_trace.specs.octets.UnitsAreHeard.{AllUnitsAreHeard, AreFronts, UnitsAreHeard, whole_frame, whole_frames}
pub use Rattle.model_bits.specs.Heads.{or_later}
pub use Rattle.model_bits.specs.Sent.{Item, idle}
pub use Rattle.model_bits.specs.Stream.{Event as StreamEvent, frame as stream_frame, heard_in as stream_heard_in}
pub use Rattle.model_bits.specs.StuffingLaws.{AreOctets}
pub use Rattle.model_card.proofs.CardSound.{after_is_sound, always_sound, fresh_is_sound}
pub use Rattle.model_card.proofs.OfPorts.Codec.{asked_at, gives_at_next, refines, run_goes_on}
pub use Rattle.model_card.proofs.OfPorts.GoingOut.{fresh_at, given_frames_are_heard, octets_are}
pub use Rattle.model_card.proofs.OfPorts.HeardOctets.{heard_frames_are_octets}
pub use Rattle.model_card.proofs.OfPorts.Pulls.{pulls_are_takes}
pub use Rattle.model_card.proofs.OfPorts.Sound.{fresh_octets_sound}
pub use Rattle.model_card.proofs.OfPorts.Steps.{config_stays, moments-append}
pub use Rattle.model_card.proofs.Refusals.{answer_is, refused_by_the_table}
pub use Rattle.model_card.proofs.Runs.{after_all-append}
pub use Rattle.model_card.proofs.Steps.{by_room, has_lines, line_sound}
pub use Rattle.model_card.specs.Card.{Card, fresh, is_full, line_at, used}
pub use Rattle.model_card.specs.Event.{Event as CardEvent, at}
pub use Rattle.model_card.specs.Machine.{after, answer as card_answer}
pub use Rattle.model_card.specs.Room.{free}
pub use Rattle.model_card.specs.Run.{AreAtLines, IsAtLine, Moment}
unfoldable pub use Rattle.model_card.specs.Run.{after_all, moments}
pub use Rattle.model_card.specs.Sound.{IsSound as CardIsSound}
pub use Rattle.model_card.specs.ports.Card.{OctetCard, after as ports_after, answer_to, fresh as ports_fresh, port_at}
unfoldable pub use Rattle.model_card.specs.ports.Card.{meant}
pub use Rattle.model_card.specs.ports.Codec.{frame_moment, frames_among, meant_in}
pub use Rattle.model_card.specs.ports.Event.{Event as PortsEvent}
pub use Rattle.model_card.specs.ports.GoingOut.{OfEachLine, as_octets, calls_answered, frames_to_hear, octets_given}
pub use Rattle.model_bits.specs.StreamLaws.{HasOctets}
pub use Rattle.model_card.specs.ports.HeardOctets.{HearsOctets}
pub use Rattle.model_card.specs.ports.Port.{Port, answer_of, fresh_port}
pub use Rattle.model_card.specs.ports.Promises.{moments_meant}
pub use Rattle.model_card.specs.ports.Run.{AreAtLines as PortsAreAtLines}
unfoldable pub use Rattle.model_card.specs.ports.Run.{after_all as ports_after_all, meant_all}
pub use Rattle.model_line.proofs.RoomForAll.{passed}
pub use Rattle.model_line.proofs.AimsSound.{IsProper}
pub use Rattle.model_line.proofs.LinksSound.{sound_in}
pub use Rattle.model_line.proofs.Numbers.{number_within, place_at-number, service_at-number, sum_changed}
pub use Rattle.model_line.proofs.ProperAims.{expiry_proper, heard_aims, heard_proper, request_proper}
pub use Rattle.model_line.proofs.Ranges.{ranges_of, terms_in_range}
pub use Rattle.model_line.proofs.Sides.{side_aims}
pub use Rattle.model_line.proofs.TakenWalk.{round_below}
pub use Rattle.model_line.specs.Config.{first_fault}
pub use Rattle.model_line.specs.Counted.{answer_shown, shown}
pub use Rattle.model_line.specs.Effect.{Aim, Effect, at_link, at_management, at_no_link, at_none, at_units, of_aim, of_change, of_link as line_of_link, told_of_management}
pub use Rattle.model_line.specs.Event.{Answer, Event, LineTold, NextFrame, dropped, expiry, gave, hears, next, refused, request, told, given_in}
pub use Rattle.model_line.specs.Expiry.{aim_of_expiry, at_timer}
pub use Rattle.model_line.specs.Heard.{addressed, aim_of_heard, aim_of_long, aim_of_reading, group_tei, heard_side, management_sapi, message_of}
pub use Rattle.model_line.specs.Laws.{orders_in}
pub use Rattle.model_line.specs.Line.{Line, UnitData, fresh_line, has_tei, link_at, link_count, link_in, link_number, link_of, place_at, place_in, service_at, state_in, state_of, tei_at, terms, with_link}
pub use Rattle.model_line.specs.Machine.{aim_of, of_request, unless_refused, unless_refused_told}
unfoldable pub use Rattle.model_line.specs.Machine.{after as line_after, answer, takes_slot}
pub use Rattle.model_line.specs.Refusal.{bad_tei, bad_tei_or_all, check_running, control_full, no_link, refusal, table_full, tei_in_use, tei_taken, wrong_side}
pub use Rattle.model_line.specs.Request.{Assign, Check as Checking, ClearBusy, Data, Deactivate, Disown, Down, Establish, Release, Remove, Request, SetBusy}
pub use Rattle.model_line.specs.Requested.{aim_of_request, at_deactivated, at_requested}
pub use Rattle.model_line.specs.Room.{unless}
pub use Rattle.model_line.specs.Sides.{IsToGroup, at_side, group_told, has_management, last_unit_tei}
pub use Rattle.model_line.specs.Sound.{IsInRange, IsSound, IsSoundAt, IsUnitData}
pub use Rattle.model_line.specs.Taken.{Taken, frame_of as line_frame_of, line_of, next_of, own_side, round, taken, unit_frame, with_given_frame, with_message, with_unit}
pub use Rattle.model_line.specs.declared.config.Config.{Config}
pub use Rattle.model_link.proofs.Waits.{sapi-small}
pub use Rattle.model_link.proofs.Delivering.{delivery, event-delivers}
pub use Rattle.model_link.proofs.Giving.{given_is_frame}
pub use Rattle.model_link.proofs.Numbering.{delivered-at_once}
pub use Rattle.model_link.proofs.OwnNotes.{notes-own}
pub use Rattle.model_link.proofs.SoundRows.{named-within}
pub use Rattle.model_link.proofs.Taking.{named-is_seq}
pub use Rattle.model_link.proofs.TellRows.{event-tells}
pub use Rattle.model_link.specs.Deliveries.{Arrived, eligible, eligible_of, information_of as link_information_of, restarts}
pub use Rattle.model_link.specs.Events.{ClearBusy as LinkClearBusy, Data as LinkData, Establish as LinkEstablish, Event as LinkEvent, Received, Release as LinkRelease, Request as LinkRequest, SetBusy as LinkSetBusy, cleared, expired, frame, offer, overlong, received, requested, undefined, wrong_size}
pub use Rattle.model_link.specs.Link.{Link, address_at, fresh as fresh_link, is_multiple_frame, queue_of, state_number}
pub use Rattle.model_link.specs.Machine.{after as link_after, course, expired_step, frame_in, given, given_of as link_given_of, malformed_in, told as link_told}
pub use Rattle.model_link.specs.MultipleFrame.{is_final, sabme_in_7_8}
pub use Rattle.model_link.specs.Notes.{IsOwn}
pub use Rattle.model_link.specs.Offers.{give_waiting, offer_among}
pub use Rattle.model_link.specs.Requests.{request_step}
pub use Rattle.model_link.specs.Room.{room_of}
pub use Rattle.model_link.specs.Sound.{IsGiven, IsInRange as LinkIsInRange, IsSound as LinkIsSound, IsWaitingFrame, is_information}
pub use Rattle.model_link.specs.Steps.{Course, Step, begun, by_bit, depending_on, nothing, ◌then◌}
pub use Rattle.model_link.specs.Told.{Given, is_timer, order_for, orders_for, runs, timer_at}
pub use Rattle.model_link.specs.Words.{answer as link_answer, by_number, unit_data}
pub use Rattle.model_link.specs.declared.frames.ControlFrame.{ControlFrame}
pub use Rattle.model_link.specs.declared.rooms.Room.{Room}
pub use Rattle.model_link.specs.declared.states.State.{State}
pub use Rattle.model_link.specs.declared.states.State.TheVariants.{AwaitingEstablishment, AwaitingRelease, Established, TeiAssigned, TimerRecovery}
pub use Rattle.model_link.specs.declared.terms.Terms.{Terms}
pub use Rattle.model_link.specs.declared.timers.LinkTimer.{LinkTimer}
pub use Rattle.model_link.specs.declared.timers.LinkTimer.TheVariants.{T200, T203}
