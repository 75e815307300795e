-- The words of std and of the crates below with which the proofs of this crate speak, from where they are defined.
pub use Rattle.std.proofs.Common.{Bool, Err, IfSome, List, None, Ok, Option, Result, Some, [], ap, append-nil, append_assoc, arith, cond, drop, eq-eqb, eqb-true, false, get_or, inl, inr, is_some, length, length-append, length-set, nat_le, nat_lt, not, option_map, option_to_list, refl, set, slice_get, subst, suc, sym, take, true, true≢false, zero, zero-add, ℕ, ⊎_elim, ◌&&◌, ◌*◌, ◌++◌}
pub use Rattle.std.proofs.Common.{◌+◌, ◌-◌, ◌<◌, ◌==◌, ◌↔◌, ◌∙◌, ◌∷◌, ◌≡◌, ◌≢◌, ◌≤◌, ◌⊎◌}
pub use Rattle.std.proofs.Math.Nat.{mul-le-mul_right}
pub use Rattle.std.proofs.Math.Seq.{get_or-append_right, get_or-append_seam}
pub use Rattle.std.proofs.lemmas.Bool.{and_parts, cases_eq, cases_lt, eqb-false, le-leb, leb-false, leb-true, ltb-false, ltb-true}
pub use Rattle.std.proofs.lemmas.List.{get_or-drop, get_or-replicate, get_or-set_other, get_or-set_same, get_or-take, get_or_append_left, length-drop, length-take-le, take-append-drop}
pub use Rattle.std.proofs.lemmas.List.Elements.{All-append, All-cons, All-get_or, All-head, All-nil, All-tail}
pub use Rattle.std.proofs.lemmas.List.FromFn.{get_or-range_with_len, length-range_with_len}
pub use Rattle.std.proofs.lemmas.List.Sums.{fold-append, sum_by-append, sum_by-cons}
pub use Rattle.std.proofs.lemmas.Option.{none-some}
pub use Rattle.std.specs.List.{list_any, range_with_len}
pub use Rattle.std.specs.Option.{option_map_or, option_or, unwrap_or}
pub use Rattle.std.specs.Prelude.{All, count_by, fold, map, sum_by}
pub use Rattle.model_bits.specs.declared.heard.Cause.{Cause}
pub use Rattle.model_bits.specs.declared.heard.Cause.TheVariants.{Extension, Fcs, Sapi, Tei, Unserved}
pub use Rattle.model_bits.specs.Stream.{dropped as bits_dropped, Event as StreamEvent, frame as stream_frame, overlong as stream_overlong}
pub use Rattle.model_bits.specs.StuffingLaws.{AreOctets}
pub use Rattle.lapd_frame.proofs.Naming.{reading-found}
pub use Rattle.lapd_frame.specs.Grammar.{Parts, head_of, row, second_octet}
unfoldable pub use Rattle.lapd_frame.specs.Reading.{control_of, header_of, reading as side_reading, supervisory_of, unnumbered_of}
pub use Rattle.lapd_frame.specs.Senders.{long_reading, spelling}
unfoldable pub use Rattle.lapd_frame.specs.Senders.{reading}
unfoldable pub use Rattle.lapd_frame.specs.Senders.{exchanged}
pub use Rattle.lapd_frame.specs.Services.{same_service, sapi_of, service_of}
pub use Rattle.lapd_frame.specs.declared.addresses.Address.{Address}
pub use Rattle.lapd_frame.specs.declared.addresses.Side.{Side}
pub use Rattle.lapd_frame.specs.declared.addresses.Side.TheVariants.{Network, User}
pub use Rattle.lapd_frame.specs.declared.controls.Control.{Control}
pub use Rattle.lapd_frame.specs.declared.faults.ReadFault.{ReadFault}
pub use Rattle.lapd_frame.specs.declared.faults.ReadFault.TheVariants.{BadExtension, Short, Undefined, WrongSize}
pub use Rattle.lapd_frame.specs.declared.notes.Note.{Note}
pub use Rattle.lapd_frame.specs.declared.notes.Note.TheVariants.{Assigned, Denied, Doubled, RemoveAll, Removed, Unassigned}
pub use Rattle.lapd_frame.specs.Overlong.{is_unit as begins_unit}
pub use Rattle.lapd_frame.specs.declared.overlong.Long.{Long}
pub use Rattle.lapd_frame.specs.declared.readings.Reading.{Reading}
pub use Rattle.lapd_frame.specs.declared.readings.Reading.TheVariants.{AnnexB, Profile}
pub use Rattle.lapd_frame.specs.declared.refusals.Refusal.{Refusal}
pub use Rattle.lapd_frame.specs.declared.refusals.Refusal.TheVariants.{PoolFull}
pub use Rattle.lapd_frame.specs.declared.services.Service.{Service}
pub use Rattle.lapd_frame.specs.declared.services.Service.TheVariants.{Call, Packet}
pub use Rattle.lapd_frame.specs.declared.timers.Order.{Order}
pub use Rattle.lapd_frame.specs.declared.timers.Timer.{Timer}
pub use Rattle.lapd_frame.specs.declared.timers.Timer.TheVariants.{T200, T201, T202, T203}
unfoldable pub use Rattle.lapd_seq.specs.Circle.{distance_of, named}
unfoldable pub use Rattle.lapd_seq.specs.Numbers.{seq}
pub use Rattle.lapd_seq.specs.declared.numbers.Seq.{Seq}
pub use Rattle.model_link.proofs.OwnNotes.{notes-own}
pub use Rattle.model_link.proofs.SoundEvents.{sound-after}
pub use Rattle.model_link.proofs.TellRows.{cleared-orders, cleared-tells, event-tells, two-orders}
pub use Rattle.model_link.specs.Events.{ClearBusy as LinkClearBusy, Data as LinkData, Establish as LinkEstablish, Event as LinkEvent, Received as LinkReceived, Release as LinkRelease, Request as LinkRequest, SetBusy as LinkSetBusy, cleared as link_cleared, expired as link_expired, frame as link_frame, offer as link_offer, overlong as link_overlong, received as link_received}
pub use Rattle.model_link.specs.Events.{requested as link_requested, undefined as link_undefined, wrong_size as link_wrong_size}
pub use Rattle.model_link.specs.Link.{Link, frame_of as link_frame_of, fresh}
pub use Rattle.model_link.specs.Machine.{after as link_after, given as link_given, told as link_told}
pub use Rattle.model_link.specs.Notes.{IsOwn, is_data, is_unit}
pub use Rattle.model_link.specs.Offers.{is_established, offer_among}
pub use Rattle.model_link.specs.Sound.{IsSound as LinkIsSound, is_information}
pub use Rattle.model_link.specs.Steps.{Course as LinkCourse, begun}
pub use Rattle.model_link.specs.Told.{Given, runs}
pub use Rattle.model_link.specs.declared.frames.ControlFrame.{ControlFrame}
pub use Rattle.model_link.specs.declared.states.State.{State}
pub use Rattle.model_link.specs.declared.terms.Terms.{Terms}
pub use Rattle.model_link.specs.declared.timers.LinkTimer.{LinkTimer}
pub use Rattle.model_teis.proofs.OfNetwork.Brief.{told_brief}
pub use Rattle.model_teis.proofs.OfTerminal.Brief.{told_brief as own_brief}
pub use Rattle.model_teis.proofs.OfNetwork.Followed.{t201_follows}
pub use Rattle.model_teis.proofs.Tables.{at-off, at-within, not_not, place_of-is}
pub use Rattle.model_teis.specs.Refused.{refusal_if}
pub use Rattle.model_teis.specs.network.Events.{Event as TeiEvent, assign as assigning, check, disown, down, expiry as tei_expiry, message, remove, unless_refused as tei_unless_refused, after as tei_after, told as tei_told}
unfoldable pub use Rattle.model_teis.specs.network.Events.{course, refusal as tei_refusal}
pub use Rattle.model_teis.specs.Changes.{Moves, left}
pub use Rattle.model_teis.specs.network.Laws.{Follows}
pub use Rattle.model_teis.specs.network.Machine.{Management, next_checked}
pub use Rattle.model_teis.specs.network.Messages.{frame_of, heard_of_type, responses_in}
pub use Rattle.model_teis.specs.network.Rows.{answer_request, ask_once, asks_for, assign, assign_new, assigns_for, count, counted as tei_counted, doubled, expire_check, expire_period, is_among, is_checked, is_unanswered, join_at, remembered_in, removed, request as tei_request, request_anew, request_of, respond, respond_among, responses, serve, take_off, verify, verify_beside, verify_later}
pub use Rattle.model_teis.specs.Table.{IsAt, IsSoundTable, Places, is_on, place_of}
pub use Rattle.model_teis.specs.network.Sound.{IsSound as TeiIsSound, IsSoundCheck}
pub use Rattle.model_teis.specs.Steps.{nothing_happens}
pub use Rattle.model_teis.specs.network.Words.{Course, Step, begin_next, begun as tei_begun, check_is, check_is_due, end_check, leave, lose_one, no_room, note as tei_note, read_as as tei_read_as, send, stop_check, unserved}
pub use Rattle.model_teis.specs.declared.network.check.Period.{Period}
pub use Rattle.model_teis.specs.declared.network.check.Period.TheVariants.{First, Second, Settling}
pub use Rattle.model_teis.specs.declared.network.messages.Message.{Message}
pub use Rattle.model_teis.specs.declared.network.messages.Message.TheVariants.{IdentityCheckRequest, IdentityDenied, IdentityRemove}
pub use Rattle.model_teis.specs.declared.changes.Change.{Change}
pub use Rattle.model_teis.specs.declared.changes.Change.TheVariants.{Gained, Left}
pub use Rattle.model_teis.proofs.OfNetwork.GivenUp.{down_gives_up}
pub use Rattle.model_teis.specs.declared.network.check.Check.{Check as TeiCheck}
pub use Rattle.model_teis.specs.terminal.Events.{Event as TerminalEvent, after as terminal_after, ask as asking, expiry as terminal_expiry, told as terminal_told, verify as verifying}
pub use Rattle.model_teis.specs.terminal.Machine.{Terminal}
pub use Rattle.model_teis.specs.declared.terminal.messages.Message.{Message as OwnMessage}
pub use Rattle.model_teis.specs.terminal.Messages.{frame_of as own_frame_of}
pub use Rattle.model_line.proofs.AimsSound.{IsProper}
pub use Rattle.model_line.proofs.Managed.{IsOwnEvent}
pub use Rattle.model_line.proofs.Outgoing.{GoesOut, message_walk, without_message}
pub use Rattle.model_line.proofs.LineSound.{after_sound, fresh_sound}
pub use Rattle.model_line.proofs.LinksSound.{sound_in, begin_away, begin_here}
pub use Rattle.model_line.proofs.NextRises.{next_falls}
pub use Rattle.model_line.proofs.Numbers.{number_within, place_at-number, service_at-number, sum_bounded, sum_changed}
pub use Rattle.model_line.proofs.Offered.{fresh_gives_nothing}
pub use Rattle.model_line.proofs.ProperAims.{expiry_proper, heard_aims, heard_proper, request_proper}
pub use Rattle.model_line.proofs.Sides.{WhereServed, side_aims, side_where}
pub use Rattle.model_line.proofs.Starts.{expiry_starts}
pub use Rattle.model_line.proofs.TakenSound.{round_below}
pub use Rattle.model_line.proofs.TakenWalk.{next_walk, taken_walk}
pub use Rattle.model_line.specs.Counts.{is_given, may_send, one}
pub use Rattle.model_line.specs.Deliveries.{is_change_at}
pub use Rattle.model_line.specs.Effect.{Aim, Effect, at_a_terminal, at_link, at_management, at_no_link, at_none, at_terminal, at_units, of_aim, of_change, of_link, of_management, of_network, of_terminal, of_terminal_if, told_of_management, without_units}
pub use Rattle.model_line.specs.Event.{Answer, Event, LineTold, dropped, expiry, gave, hears, next, nothing, refused, request, told}
pub use Rattle.model_line.specs.Expiry.{aim_of_expiry, at_timer, is_running}
pub use Rattle.model_line.specs.Heard.{addressed, aim_of_heard, aim_of_long, aim_of_reading, aim_of_unnumbered, at_place, drop_for, group_tei, heard_side, management_sapi, message_of, to_service, unless_at_link}
pub use Rattle.model_line.specs.Laws.{notes_in, orders_in}
pub use Rattle.model_line.specs.Line.{Line, Own, UnitData, is_terminal, terminal_in, with_terminal, fresh_line, link_at, link_count, link_in, link_number, place_at, place_in, service_at, tei_at, terms, terms_at, with_link}
pub use Rattle.model_line.specs.Machine.{unless_refused, unless_refused_told}
unfoldable pub use Rattle.model_line.specs.Machine.{after, answer, takes_slot as line_takes_slot}
pub use Rattle.model_line.specs.Refusal.{refusal}
pub use Rattle.model_line.specs.Request.{AskTei, Assign, Check, ClearBusy, Data, Deactivate, Disown, Down, Establish, Release, Remove, Request, SetBusy, Unit, VerifyTei}
pub use Rattle.model_line.specs.Requested.{aim_of_request, at_deactivated, at_requested}
pub use Rattle.model_line.specs.Sides.{IsToGroup, at_side, group_tei as line_group_tei, group_told, told_at}
pub use Rattle.model_line.specs.Sound.{IsInRange, IsOfSide, IsSound, IsSoundAt, IsUnused}
pub use Rattle.model_line.specs.Stored.{sum_of_links}
pub use Rattle.model_line.specs.Taken.{Taken, first_taken, line_of, link_taken, message_taken, next_of, own_side, round, round_from, taken, unit_taken, with_given_frame, with_message, with_own_message, with_unit}
pub use Rattle.model_line.specs.declared.config.Config.{Config}
pub use Rattle.model_card.proofs.CardSound.{after_is_sound, always_sound}
pub use Rattle.model_card.proofs.EachMoment.{each_moment, moment_of}
pub use Rattle.model_card.proofs.Steps.{by_room, has_lines, line_sound}
pub use Rattle.model_card.specs.Card.{Card, fresh as card_fresh, is_full, line_at}
pub use Rattle.model_card.specs.Event.{Event as CardEvent, at}
pub use Rattle.model_card.specs.Machine.{after as card_after, answer as card_answer, wants_room}
pub use Rattle.model_card.specs.Run.{AreAtLines, IsAtLine}
unfoldable pub use Rattle.model_card.specs.Run.{after_all, moments}
pub use Rattle.model_card.specs.Sound.{IsSound as CardIsSound}
pub use Rattle.model_card.specs.Takes.{AreTakesAt, is_take, takes_at, takes_of}
pub use Rattle.laws_link.proofs.Delivered.{delivered-was-heard}
pub use Rattle.laws_link.proofs.Follows.{event-follows}
pub use Rattle.laws_link.proofs.InOrder.{given-in-order}
pub use Rattle.laws_link.proofs.Keeping.{event-unit}
pub use Rattle.laws_link.proofs.KnownRows.{is_decided, layer_3_knows}
pub use Rattle.laws_link.proofs.MayGo.{goes-not, none-goes}
pub use Rattle.model_link.proofs.Obeying.{leaves-others}
pub use Rattle.laws_link.proofs.OfTwo.Needing.{is-timed, timely-after, timely-fresh}
pub use Rattle.laws_link.proofs.OfTwo.Waiting.{in-turn, nothing-given, nothing-to_send}
pub use Rattle.laws_link.proofs.Offering.{carried-is, given-is-offered, offer-counts}
pub use Rattle.laws_link.proofs.Once.{within-is}
pub use Rattle.laws_link.specs.Heard.{contents_heard, unit_heard}
pub use Rattle.laws_link.specs.InOrder.{IsInOrder}
pub use Rattle.laws_link.specs.Known.{is_up, known, seen}
pub use Rattle.laws_link.specs.Offered.{IsOffered}
pub use Rattle.laws_link.specs.States.{as_heard, is_overlong}
pub use Rattle.laws_link.specs.Waiting.{waiting_left}
pub use Rattle.laws_link.specs.two.Needed.{HasItsTimer}
pub use Rattle.laws_link.specs.two.Waits.{Goes, GoesWhole, HasNothingToSend}
unfoldable pub use Rattle.laws_link.specs.two.Waits.{after_offers}
pub use Rattle.laws_line.specs.Among.{priority_waiting}
pub use Rattle.laws_line.specs.Drains.{IsIdling, control_text, frames_before, frames_to_go, link_to_go, most_frames, most_frames_before, most_messages, to_go_at_link, way_round}
unfoldable pub use Rattle.laws_line.specs.Drains.{after_takes}
pub use Rattle.laws_line.specs.GoesDown.{GivesUp}
pub use Rattle.laws_line.specs.Heard.{IsHeard, IsMalformed, IsNotedOnce, IsOneEvent as IsOneHeard, IsTo, IsToManagement, IsTooLong, OnlyTells, contents_in, is_data_of, is_unit_of, tells_contents}
pub use Rattle.laws_line.specs.Knowledge.{is_up_of, taken_for_up, up_by_note}
pub use Rattle.laws_line.specs.Loss.{IsMoved}
pub use Rattle.laws_line.specs.OneEvent.{IsAlone, IsGranted, IsManaged, IsManagedThere, IsOfPart, IsOneEvent, SaysNothing, noted_behind, of_down, of_group, of_link as line_of_link, of_management as line_of_management, of_next, of_terminal as line_of_terminal, of_units}
pub use Rattle.laws_line.specs.Requests.{deactivates, of_link as requests_of_link}
pub use Rattle.laws_line.specs.Served.{HasNoMessage, HasNothing, IsIdle, IsItsTurn, IsOfLink, IsOwed, IsServed, IsSilent, IsSilentAt, TurnStays, UnitsWait, contents_of_link, unit_asked, units_behind}
pub use Rattle.laws_line.specs.Share.{is_granted}
pub use Rattle.laws_line.specs.Short.{AnswersAreShort}
pub use Rattle.laws_line.specs.Steady.{Brings, BringsMalformed, BringsMessage, HearsFrame, IsBy, IsDeactivated, IsOf, IsOfManagement, IsOfTerminal, ServesMessages, timer_of}
pub use Rattle.laws_line.specs.Timers.{HaveTheirTimers, is_needed, link_needs}
pub use Rattle.model_line.specs.Runs.{left_by, runs_then}
pub use Rattle.laws_line.specs.Turns.{IsInTurn, LinksTakeTurns}
pub use Rattle.laws_line.specs.WorkedPolled.{asked, before_poll, call_link, one_waits, poll_octets, sabme_octets, small}
pub use Rattle.laws_line.specs.WorkedSabme.{before_sabme}
pub use Rattle.laws_line.specs.card.Among.{AreAmong, IsIdleAmong}
pub use Rattle.laws_line.specs.card.Brief.{CausesAreTold, LeavesOthers, LinksStay, OthersStay, TellsCause}
pub use Rattle.laws_line.specs.card.OneEvent.{IsOneEventIn}
pub use Rattle.laws_line.specs.card.Promises.{HasOneEvent, RunsWhatIsNeeded}
pub use Rattle.laws_line.specs.card.PromisesOfTakes.{CallsComeToAnEnd, IsNotDeactivated, WaitingIsTaken, Wherever, is_deactivated_at}
unfoldable pub use Rattle.laws_line.specs.card.PromisesOfTakes.{StaysAt, priority_added_at}
pub use Rattle.laws_line.specs.card.Timers.{AllHaveTheirTimers, one_more as line_one_more, runs_at_callers}
