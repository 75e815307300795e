-- The words of std and of the crates below with which the proofs of this crate speak, from where they are defined.
pub use Rattle.std.proofs.Common.{Bool, IsTrue, List, None, Option, Some, [], add-zero, ap, append-nil, append_assoc, arith, cond, drop, drop-drop, eq-eqb, eqb-true, false, inl, inr, is_some, length, length-append, length-take-le, nat_lt, not, option_to_list, refl, slice_get, subst, suc, sym, take, true, true≢false, zero, ℕ, ⊎_elim, ◌%◌, ◌&&◌, ◌++◌, ◌+◌, ◌-◌, ◌<◌, ◌==◌, ◌||◌, ◌∙◌, ◌∷◌, ◌≡◌, ◌≢◌}
pub use Rattle.std.proofs.Common.{zero-add}
pub use Rattle.std.proofs.Common.{◌≤◌, ◌⊎◌}
pub use Rattle.std.proofs.Math.Seq.{take-length}
pub use Rattle.std.proofs.lemmas.Bool.{and_parts, and_right, cases_lt, eqb-false, false_from_ne_true, le-leb, le-ltb, leb-false, leb-true, lt-ltb, ltb-false, ltb-true, or_parts, true_from_ne_false}
pub use Rattle.std.proofs.lemmas.List.{drop-append-le, drop_all, take_all}
pub use Rattle.std.proofs.lemmas.List.Elements.{All-head, All-tail}
pub use Rattle.std.proofs.lemmas.List.Folds.{list_any-append}
pub use Rattle.std.proofs.lemmas.List.Sums.{sum_by-cons, sum_by_push}
pub use Rattle.std.proofs.lemmas.Option.{none-some, slice_get-get_or}
pub use Rattle.std.specs.List.{list_any}
pub use Rattle.std.specs.Option.{option_map_or}
pub use Rattle.std.specs.Prelude.{All, IfSome, count_by, get_or, if◌then◌else◌, nat_le, unwrap_or}
pub use Rattle.lapd_frame.specs.Grammar.{Parts}
unfoldable pub use Rattle.lapd_frame.specs.Reading.{control_of, header_of, reading, supervisory_of, unnumbered_of}
pub use Rattle.lapd_frame.specs.declared.controls.Control.{Control}
pub use Rattle.lapd_frame.specs.declared.controls.Control.TheVariants.{Disc, Dm, Frmr, Information, ReceiveNotReady, ReceiveReady, Reject, Sabme, Ua, Ui, Xid}
pub use Rattle.lapd_frame.specs.declared.notes.ErrorCode.{ErrorCode}
pub use Rattle.lapd_frame.specs.declared.notes.Note.{Note}
pub use Rattle.lapd_frame.specs.declared.refusals.Refusal.{Refusal}
pub use Rattle.lapd_frame.specs.declared.refusals.Refusal.TheVariants.{WrongState}
pub use Rattle.lapd_frame.specs.declared.timers.Order.{Order}
pub use Rattle.lapd_seq.proofs.Callers.{distance-plain, is_seq, seq-value}
unfoldable pub use Rattle.lapd_seq.specs.Circle.{distance_of, named}
unfoldable pub use Rattle.lapd_seq.specs.Numbers.{seq}
pub use Rattle.lapd_seq.specs.declared.numbers.Seq.{Seq}
pub use Rattle.model_link.proofs.Delivering.{event-delivers}
pub use Rattle.model_link.proofs.Direction.{frames-append, frames_of, line_of}
pub use Rattle.model_link.proofs.Joined.{Joined, done-at, ends-agree, joined-first, joined-turned}
pub use Rattle.model_link.proofs.Kept.{Fits, FitsEvent, Kept}
pub use Rattle.model_link.proofs.Leads.{Leads, bit_leads, both_ways, depending_leads, from_more, keeping_then, leaves, nothing_leads, number_leads, read_leads, tested_leads, then_leads, to_less, told_ways}
pub use Rattle.model_link.proofs.Lines.{Means, Piece, rising-low}
pub use Rattle.model_link.proofs.Numbering.{delivered-at_once}
pub use Rattle.model_link.proofs.Rows.{event_row, frame_row}
pub use Rattle.model_link.proofs.SoundEvents.{sound-after, sound-all, sound-fresh}
pub use Rattle.model_link.proofs.SoundRows.{named-within}
pub use Rattle.model_link.proofs.TellRows.{event-tells}
pub use Rattle.model_link.specs.AwaitingEstablishment.{accepted_in_5, carry_out, establish_in_5, frame_in_5, release_in_5, tell_failure}
pub use Rattle.model_link.specs.AwaitingRelease.{frame_in_6}
pub use Rattle.model_link.specs.Deliveries.{Arrived, Establishes, IsEstablished, MayEstablish, eligible_of, information_in, information_of, restarts}
pub use Rattle.model_link.specs.Events.{ClearBusy, Data, Establish, Event, Release, Request, SetBusy, cleared, expired, frame, offer, overlong, received, requested, undefined, wrong_size}
pub use Rattle.model_link.specs.Link.{Link, address_at, frame_of, fresh, has_outstanding, is_asked, is_multiple_frame, is_owed, is_peer_busy, may_repeat}
pub use Rattle.model_link.specs.Machine.{after, course, expire_running, expired_in, expired_step, frame_in, frame_step, given, given_of, is_running, malformed_in, told, told_of_clearing}
unfoldable pub use Rattle.model_link.specs.Machine.{after_all}
pub use Rattle.model_link.specs.Notes.{is_data, is_unit}
pub use Rattle.model_link.specs.Offers.{first_unsent, give_information, give_waiting, is_awaiting_acknowledgement, is_established, may_send_information, next_information, offer_among, offer_step, send_acknowledgement, with_one_sent}
pub use Rattle.model_link.specs.Sound.{IsInRange, IsSettledIn, IsSound, IsWaitingFrame, is_information}
pub use Rattle.model_link.specs.Steps.{Course, Sent, Step, begun, by_bit, changed, depending_on, nothing, ◌then◌}
pub use Rattle.model_link.specs.TeiAssigned.{establish_in_4, frame_in_4, release_in_4}
pub use Rattle.model_link.specs.Told.{orders_for, runs}
pub use Rattle.model_link.specs.TwoEnds.{Step as EndStep, Agree, Begins, StepAt, Endpoint, Ends, IsUp, acting, requests, at_far, at_near, doing, expires, frame_given, loses, receives, sends, turned, without_first, with_first_of, with_link, with_sent}
unfoldable pub use Rattle.model_link.specs.TwoEnds.{StayUp, doing_all}
pub use Rattle.model_link.specs.Words.{acknowledge, answer, asked_is, begin_anew, by_number, clear_flags, command, deliver, deliver_unit, discard, enter, error, establish_confirm, establish_indication, has_room, leave_unserved, no_timer, note, own_busy_is, peer_busy_is, pending_is, re_establish, rr_or_rnr, release_confirm, release_indication, report_receiver_status, response}
pub use Rattle.model_link.specs.Words.{with_counted, with_next_sent}
pub use Rattle.model_link.specs.Counts.{with_expiry, with_information_sent, with_reject_received}
pub use Rattle.model_link.specs.declared.counts.LinkCounts.{LinkCounts}
pub use Rattle.model_link.specs.Words.{malformed as malformed_down, read_as, send, start, unit_data, zero_numbers}
pub use Rattle.model_link.specs.declared.frames.ControlFrame.{ControlFrame}
pub use Rattle.model_link.specs.declared.states.State.{State}
pub use Rattle.model_link.specs.declared.states.State.TheVariants.{AwaitingEstablishment, AwaitingRelease, Established, TeiAssigned, TimerRecovery}
pub use Rattle.model_link.specs.declared.terms.Terms.{Terms}
pub use Rattle.model_link.specs.declared.timers.LinkTimer.{LinkTimer}
pub use Rattle.model_link.specs.declared.timers.LinkTimer.TheVariants.{T200, T203}
pub use Rattle.model_link.specs.Established.{acknowledged_by_information_in_7, acknowledged_by_rej_in_7, acknowledged_by_rnr_in_7, acknowledged_in_7, frame_in_7, unsolicited}
pub use Rattle.model_link.specs.MultipleFrame.{answered, clear_busy_in_7_8, contents_in_7_8, failed, information_in_7_8, is_final, long_unit_in_7_8, set_busy_in_7_8, supervisory}
pub use Rattle.model_link.specs.Requests.{establish_in, granted, refusal, release_in}
pub use Rattle.model_link.specs.TimerRecovery.{acknowledged_in_8, frame_in_8, recovered, solicited}
pub use Rattle.laws_link.specs.Accepted.{acknowledged_by, beyond, contents_asked, gives_up, is_loss, number_of, tells_loss}
pub use Rattle.laws_link.specs.Effects.{IsAskedIn, IsReleasedIn, TakesEffect}
pub use Rattle.laws_link.specs.Flags.{asked_left, flag_left, owed_behind, owed_in, owed_left, own_busy_left, peer_busy_left, rejecting_heard, repeats_left, takes_contents, unless_put}
pub use Rattle.laws_link.specs.Following.{Follows}
pub use Rattle.laws_link.specs.Heard.{IsNotedOnce, contents_heard, data_due, unit_due, unit_heard, within}
pub use Rattle.laws_link.specs.History.{IsKept, Share, left_by, share, with_share}
pub use Rattle.laws_link.specs.InOrder.{IsInOrder}
pub use Rattle.laws_link.specs.Known.{is_up, is_up_in, known, seen}
pub use Rattle.laws_link.specs.Offered.{IsOffered, i_frames, is_i_frame}
pub use Rattle.laws_link.specs.Samples.{sabme, up, usual_terms}
pub use Rattle.laws_link.specs.Sending.{MayGo}
pub use Rattle.laws_link.specs.States.{as_heard, comes_to, numbers_begin, state_after}
pub use Rattle.laws_link.specs.Telling.{told_with}
pub use Rattle.model_link.specs.Timed.{IsTimed, IsTimedIn}
pub use Rattle.laws_link.specs.Waiting.{answers, commands, put, waiting_left}
pub use Rattle.laws_link.specs.two.Ahead.{IsAhead, KeepsLinksUp, KeepsLinkUp, IsNotRelease}
unfoldable pub use Rattle.laws_link.specs.two.Ahead.{StayAhead}
pub use Rattle.laws_link.specs.two.AnyOrder.{IsStill, IsTurn, IsTurnOf, load, load_of, weight, weight_at}
unfoldable pub use Rattle.laws_link.specs.two.AnyOrder.{AreTurns}
pub use Rattle.laws_link.specs.two.BusyOver.{BothHaveArrived, HasDroppedNothing, with_near_told, with_near_untold}
pub use Rattle.laws_link.specs.two.CutOff.{HasMissing, IsCutOff, IsCutOffWith, CanRecoverFrom, CanRecoverFromWith, with_t200_expired}
pub use Rattle.laws_link.specs.two.Heeds.{Heeds, HeedsIn}
pub use Rattle.laws_link.specs.two.Needed.{HasItsTimer, IsCalmIn, needed_in}
pub use Rattle.laws_link.specs.two.OwnBusy.{GetsThrough, IsBusyItself, IsDropped, IsUpAndIdle, with_far_busy, with_near_busy}
pub use Rattle.laws_link.specs.two.Rounds.{HasArrived, HasUnsent, IsReady, IsTaken}
unfoldable pub use Rattle.laws_link.specs.two.Rounds.{rounds}
pub use Rattle.laws_link.specs.two.Timely.{IsNoneOpen, IsTimelyStep, is_answer, is_enquiry}
pub use Rattle.laws_link.specs.two.Waits.{GoesWhole, HasNothingToSend}
unfoldable pub use Rattle.laws_link.specs.two.Waits.{after_offers}
pub use Rattle.laws_link.specs.two.WorkedAnyOrder.{settled, settling}
pub use Rattle.laws_link.specs.two.WorkedBusyOver.{kept}
pub use Rattle.laws_link.specs.two.WorkedEnds.{both, mended}
pub use Rattle.laws_link.specs.two.WorkedOwnBusy.{busy_cut_off, busy_losing, far_dropped, near_dropped}
pub use Rattle.laws_link.specs.two.WorkedRounds.{asked, cut_off, losing}
