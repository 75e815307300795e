-- The words with which the proofs of this crate speak, from where they are defined.
pub use Rattle.std.proofs.Common.{Bool, IsTrue, List, None, Option, Some, [], ap, append-nil, append_assoc, arith, cond, drop, eq-eqb, eqb-true, false, inl, inr, is_some, length, length-append, length-drop, length-take, length-take-le, not, refl, subst, suc, sym, take, true, true≢false, zero, zero-add, ℕ, ◌%◌, ◌&&◌, ◌*◌, ◌++◌, ◌+◌, ◌-◌, ◌<◌, ◌==◌, ◌∙◌, ◌∷◌, ◌≡◌, ◌≢◌, ◌≤◌, ◌⊎◌}
pub use Rattle.std.proofs.lemmas.Bool.{and_from, and_parts, false≢true, leb-false, leb-true, ltb-false, ltb-true}
pub use Rattle.std.proofs.lemmas.List.{take-append-le}
pub use Rattle.std.proofs.lemmas.List.Elements.{All-drop, All-head, All-nil, All-push, All-tail, All-take}
pub use Rattle.std.proofs.lemmas.List.Folds.{list_any-append}
pub use Rattle.std.proofs.lemmas.Option.{slice_get-get_or, slice_get_within}
pub use Rattle.std.specs.List.{list_any}
pub use Rattle.std.specs.Prelude.{All, IfSome, get_or, nat_le, nat_lt, option_to_list, slice_get, unwrap_or}
pub use Rattle.lapd_frame.specs.Grammar.{IsFrame, Parts, allows, row, spelling, takes}
pub use Rattle.lapd_frame.specs.Services.{sapi_of}
pub use Rattle.lapd_frame.specs.declared.addresses.Side.TheVariants.{Network}
pub use Rattle.lapd_frame.specs.declared.controls.Control.{Control}
pub use Rattle.lapd_frame.specs.declared.controls.Control.TheVariants.{Disc, Dm, Frmr, Information, ReceiveNotReady, ReceiveReady, Reject, Sabme, Ua, Ui, Xid}
pub use Rattle.lapd_frame.specs.declared.notes.ErrorCode.{ErrorCode}
pub use Rattle.lapd_frame.specs.declared.notes.Note.{Note}
pub use Rattle.lapd_frame.specs.declared.refusals.Refusal.{Refusal}
pub use Rattle.lapd_frame.specs.declared.refusals.Refusal.TheVariants.{QueueFull, TooLong, WrongState}
pub use Rattle.lapd_frame.specs.declared.services.Service.{Service}
pub use Rattle.lapd_frame.specs.declared.timers.Order.{Order}
pub use Rattle.lapd_frame.specs.declared.timers.Order.TheVariants.{Start, Stop}
pub use Rattle.lapd_frame.specs.declared.timers.Timer.{Timer}
pub use Rattle.lapd_seq.proofs.Callers.{is_seq, seq-distance, seq-value}
unfoldable pub use Rattle.lapd_seq.specs.Circle.{named}
unfoldable pub use Rattle.lapd_seq.specs.Numbers.{seq}
pub use Rattle.lapd_seq.specs.declared.numbers.Seq.{Seq}
pub use Rattle.model_link.specs.AwaitingEstablishment.{accepted_in_5, carry_out, frame_in_5, release_in_5, tell_failure}
pub use Rattle.model_link.specs.AwaitingRelease.{frame_in_6}
pub use Rattle.model_link.specs.Deliveries.{Arrived, eligible, eligible_of, information_of}
pub use Rattle.model_link.specs.Events.{ClearBusy, Data, Establish, Event, Received, Release, Request, SetBusy, cleared, expired, frame, offer, overlong, received, requested, undefined, wrong_size}
pub use Rattle.model_link.specs.Link.{Link, frame_of, fresh, has_outstanding, is_asked, is_owed, is_multiple_frame, is_own_busy, is_peer_busy, queue_of}
pub use Rattle.model_link.specs.Machine.{after, course, expired_in, frame_in, frame_step, given, given_of, is_running, malformed_in, step, told, told_of_clearing, expire_running}
unfoldable pub use Rattle.model_link.specs.Machine.{after_all}
pub use Rattle.model_link.specs.MultipleFrame.{clear_busy_in_7_8, contents_in_7_8, data_in_7_8, failed, information_in_7_8, is_next, long_unit_in_7_8, set_busy_in_7_8}
pub use Rattle.model_link.specs.Notes.{is_data, is_unit}
pub use Rattle.model_link.specs.Numbered.{History, IsNumbered, Numbered, nothing_yet, with_event}
unfoldable pub use Rattle.model_link.specs.Numbered.{with_all}
pub use Rattle.model_link.specs.Rises.{grows, is_valid_reject, may_send, price, reject_number, sent, window_back}
unfoldable pub use Rattle.model_link.specs.Rises.{price_of_all, sent_in_all}
pub use Rattle.model_link.specs.Sound.{IsGiven, IsInRange, IsSound, IsWaitingFrame, is_information}
pub use Rattle.model_link.specs.Steps.{Course, Sent, Step, begun, by_bit, changed, depending_on, nothing, ◌then◌}
pub use Rattle.model_link.specs.TeiAssigned.{establish_in_4, frame_in_4}
pub use Rattle.model_link.specs.Told.{orders_for, runs, timer_at}
unfoldable pub use Rattle.model_link.specs.Told.{starts}
pub use Rattle.model_link.specs.TwoEnds.{Step as EndStep, Agree, Begins, StepAt, Endpoint, Ends, IsUp, acting, requests, at_far, at_near, doing, expires, frame_given, without_first, with_first_of, with_link, with_sent}
unfoldable pub use Rattle.model_link.specs.TwoEnds.{StayUp, doing_all}
pub use Rattle.model_link.specs.Words.{acknowledge, answer, asked_is, begin_anew, by_number, clear_flags, command, count_received, deliver, deliver_unit, discard, enquire, enter, error, establish_indication, has_room, leave_unserved, malformed, no_timer, own_busy_is, pending_is, re_establish, read_as, reject, rejecting_is, report_receiver_status, response, rr_or_rnr, send, send_again_from, start}
pub use Rattle.model_link.specs.Words.{with_counted}
pub use Rattle.model_link.specs.Words.{with_own_busy}
pub use Rattle.model_link.specs.Words.{owed_is, reset_numbers, zero_numbers}
pub use Rattle.model_link.specs.declared.frames.ControlFrame.{ControlFrame}
pub use Rattle.model_link.specs.declared.states.State.{State}
pub use Rattle.model_link.specs.declared.states.State.TheVariants.{AwaitingEstablishment, AwaitingRelease, Established, TeiAssigned, TimerRecovery}
pub use Rattle.model_link.specs.declared.terms.Terms.{Terms}
pub use Rattle.model_link.specs.declared.timers.LinkTimer.{LinkTimer}
pub use Rattle.model_link.specs.declared.counts.LinkCounts.{LinkCounts}
pub use Rattle.model_link.specs.Counts.{with_expiry}
pub use Rattle.model_link.specs.declared.timers.LinkTimer.TheVariants.{T200, T203}
pub use Rattle.model_link.specs.Established.{acknowledged_by_information_in_7, acknowledged_by_rnr_in_7, acknowledged_in_7, frame_in_7, is_all_sent, is_beyond_acknowledged, timer_in_7}
pub use Rattle.model_link.specs.Offers.{first_unsent, give_acknowledgement, give_information, give_waiting, is_awaiting_acknowledgement, is_established, is_pending, may_send_information, next_information, offer_among, send_acknowledgement, send_information, with_one_sent}
pub use Rattle.model_link.specs.Requests.{establish_in, granted, refusal, release_in}
pub use Rattle.model_link.specs.TimerRecovery.{acknowledged_in_8, frame_in_8, particulars_in_8, recovered, t200_in_8}
pub use Rattle.model_link.specs.Timed.{ComesInStep, IsTimed, IsTimedIn, StaysInStep, is_same, obeyed}
