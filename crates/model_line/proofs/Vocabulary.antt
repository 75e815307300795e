-- The words with which the proofs of this crate speak, from where they are defined.
pub use Rattle.std.proofs.Common.{Bool, Err, IfSome, IsSome, List, None, Ok, Option, Result, Some, [], ap, arith, cond, drop, eq-eqb, eqb-true, false, get_or, inl, inr, is_some, length, length-append, length-drop, length-set, max, nat_le, nat_lt, not, option_map, refl, replicate, set, slice_get, slice_index, subst, suc, sym, take, true, true≢false, zero, ℕ, ⊎_elim, ◌%◌, ◌&&◌, ◌*◌}
pub use Rattle.std.proofs.Common.{◌++◌, ◌+◌, ◌<◌}
pub use Rattle.std.proofs.Common.{◌==◌, ◌||◌, ◌∙◌, ◌∷◌, ◌≡◌, ◌≢◌, ◌≤◌, ◌⊎◌}
pub use Rattle.std.proofs.lemmas.Bool.{and_parts, cases_eq, cases_lt, le-leb, leb-false, leb-true, ltb-false, ne_eqb}
pub use Rattle.std.proofs.lemmas.List.{get_or-replicate, get_or-set_other, get_or-set_same, get_or_past, length-replicate, set-get_or}
pub use Rattle.std.proofs.lemmas.List.Elements.{All-append, All-cons, All-drop, All-head, All-nil, All-tail, All-take}
pub use Rattle.std.proofs.lemmas.List.Sums.{fold-append, sum_by-cons, sum_by-le}
pub use Rattle.std.proofs.lemmas.Option.{none-some, slice_get_cases}
pub use Rattle.std.specs.List.{list_any, prefix_len, range_with_len}
pub use Rattle.std.specs.Option.{option_map_or, option_or, unwrap_or}
pub use Rattle.std.specs.Prelude.{All, sum_by}
pub use Rattle.lapd_frame.specs.Grammar.{Parts}
pub use Rattle.lapd_frame.specs.Reading.{completed, sized}
unfoldable pub use Rattle.lapd_frame.specs.Reading.{control_of, header_of, reading as side_reading, unnumbered_of}
pub use Rattle.lapd_frame.specs.Senders.{named, spelling}
unfoldable pub use Rattle.lapd_frame.specs.Senders.{reading}
pub use Rattle.lapd_frame.specs.Services.{same_service, service_of}
pub use Rattle.lapd_frame.specs.declared.addresses.Address.{Address}
pub use Rattle.lapd_frame.specs.declared.addresses.Side.{Side}
pub use Rattle.lapd_frame.specs.declared.addresses.Side.TheVariants.{Network, User}
pub use Rattle.lapd_frame.specs.declared.controls.Control.{Control}
pub use Rattle.lapd_frame.specs.declared.faults.ReadFault.{ReadFault}
pub use Rattle.lapd_frame.specs.declared.faults.ReadFault.TheVariants.{BadExtension, Short, Undefined, WrongSize}
pub use Rattle.lapd_frame.specs.declared.notes.Note.{Note}
pub use Rattle.lapd_frame.specs.declared.readings.Reading.{Reading}
pub use Rattle.lapd_frame.specs.declared.readings.Reading.TheVariants.{AnnexB, Profile}
pub use Rattle.lapd_frame.specs.declared.refusals.Refusal.{Refusal}
pub use Rattle.lapd_frame.specs.declared.senders.Sender.{Sender}
pub use Rattle.lapd_frame.specs.declared.services.Service.{Service}
pub use Rattle.lapd_frame.specs.declared.services.Service.TheVariants.{Call, Packet}
pub use Rattle.lapd_frame.specs.declared.timers.Order.{Order}
pub use Rattle.lapd_frame.specs.declared.timers.Order.TheVariants.{Start, Stop}
pub use Rattle.lapd_frame.specs.declared.timers.Timer.{Timer}
pub use Rattle.lapd_frame.specs.declared.timers.Timer.TheVariants.{T200, T201, T202, T203}
pub use Rattle.model_teis.proofs.OfNetwork.Brief.{told_brief}
pub use Rattle.model_teis.proofs.OfTerminal.Brief.{told_brief as own_brief}
pub use Rattle.model_teis.proofs.OfNetwork.Followed.{expired_t201_follows, t201_follows}
pub use Rattle.model_teis.proofs.OfNetwork.GivenUp.{down_gives_up}
pub use Rattle.model_teis.proofs.OfNetwork.LawLemmas.{sound-after_offer, sound-empty}
pub use Rattle.model_teis.proofs.Tables.{at-off, at-within, place_of-is}
unfoldable pub use Rattle.model_teis.specs.network.Events.{course as tei_course, refusal as tei_refusal}
pub use Rattle.model_teis.specs.network.Events.{Event as TeiEvent, after as tei_after, down as tei_down, expiry as tei_expiry, message as tei_message, told as tei_told}
pub use Rattle.model_teis.specs.Changes.{Moves}
pub use Rattle.model_teis.specs.network.Laws.{Follows, most_heard, stop_of}
pub use Rattle.model_teis.specs.network.Machine.{Management, may_send as tei_may_send}
pub use Rattle.model_teis.specs.network.Messages.{frame_of}
pub use Rattle.model_teis.specs.network.Rows.{expire_check}
pub use Rattle.model_teis.specs.Table.{IsAt, IsSoundTable, Places, is_on, place_of}
pub use Rattle.model_teis.specs.declared.network.messages.Message.{Message}
pub use Rattle.model_teis.specs.declared.changes.Change.{Change}
pub use Rattle.model_teis.specs.declared.changes.Change.TheVariants.{Gained, Left}
pub use Rattle.model_teis.specs.terminal.Events.{Event as TerminalEvent, after as terminal_after, down as terminal_down, expiry as terminal_expiry, told as terminal_told}
unfoldable pub use Rattle.model_teis.specs.terminal.Events.{course as terminal_course}
pub use Rattle.model_teis.specs.terminal.Machine.{Terminal}
pub use Rattle.model_teis.specs.Told.{TeiTold}
pub use Rattle.model_teis.specs.terminal.Messages.{frame_of as own_frame_of}
pub use Rattle.model_teis.specs.declared.terminal.messages.Message.{Message as OwnMessage}
pub use Rattle.model_teis.specs.declared.terminal.procedure.Procedure.{Procedure}
pub use Rattle.model_bits.specs.Stream.{dropped, overlong, Event as StreamEvent, frame as stream_frame}
pub use Rattle.model_bits.specs.declared.heard.Cause.{Cause}
pub use Rattle.model_bits.specs.declared.heard.Cause.TheVariants.{Unserved}
pub use Rattle.model_line.specs.Config.{is_within}
unfoldable pub use Rattle.model_line.specs.Config.{sapi_fault}
pub use Rattle.model_line.specs.Counts.{hears_frame, is_accepted, is_given, brought, is_long_frame, is_pool, is_pool_full, may_send, one, rejects, rejects_aimed}
pub use Rattle.model_line.specs.Deliveries.{arrived, arrived_aimed, delivered, delivered_at, delivered_in, is_change_at, is_data_of, restarts, restarts_aimed}
pub use Rattle.model_line.specs.Effect.{Aim, Effect, at_a_terminal, at_link, at_management, at_no_link, at_none, at_terminal, at_units, change_at_terminal, change_if, change_of, of_aim, of_change, of_link, of_management, of_network, of_terminal, of_terminal_if, told_of_link, told_of_management, unserved_cause, without_units}
pub use Rattle.model_line.specs.Event.{Answer, Event, LineTold, expiry, gave, hears, next, nothing, refused, request, told}
pub use Rattle.model_line.specs.Expiry.{aim_of_expiry, at_timer, is_running, runs_at}
pub use Rattle.model_line.specs.Laws.{FallsByNext, IsRejectHeard, Rises, cause_in, orders_in}
pub use Rattle.model_line.specs.Line.{Line, Own, UnitData, is_terminal, terminal_in, with_terminal, fresh_line, link_at, link_count, link_in, link_number, place_at, place_in, service_at, tei_at, terms, terms_at, window, with_link}
pub use Rattle.model_line.specs.Machine.{unless_refused, unless_refused_told, aim_of}
unfoldable pub use Rattle.model_line.specs.Machine.{after, answer, takes_slot}
pub use Rattle.model_line.specs.Heard.{addressed, aim_of_heard, aim_of_reading, aim_of_unnumbered, drop_for, heard_side, message_of, to_service, unless_at_link}
pub use Rattle.model_line.specs.Taken.{first_taken, line_of, link_taken, next_of, own_side, round, Taken, taken, with_given_frame, with_message, with_own_message, with_unit}
pub use Rattle.model_line.specs.Refusal.{Row, bad_tei, bad_tei_or_group, first_that_holds, no_link, no_link_nor_group, pool_full, queue_full, refusal, too_long, unit_queue_full, wrong_state}
pub use Rattle.model_line.specs.Request.{Data, Down, Request, Unit}
pub use Rattle.model_line.specs.Requested.{aim_of_request, at_deactivated, at_requested, carries_contents}
pub use Rattle.model_line.specs.Runs.{runs_then}
pub use Rattle.model_line.specs.Sides.{IsToGroup, at_side, group_told, has_management, last_unit_tei, told_of_group}
pub use Rattle.model_line.specs.Sound.{IsInRange, IsOfSide, IsSound, IsSoundAt, IsUnitData, IsUnused}
pub use Rattle.model_line.specs.Stored.{held_by_link, held_in, octets_by_link, slots_by_link, slots_of, stored_in, sum_of_links, total_length, unit_length}
pub use Rattle.model_line.specs.declared.config.Config.{Config}
pub use Rattle.model_line.specs.declared.config.Field.{Field}
pub use Rattle.model_link.proofs.Counting.{done}
pub use Rattle.model_link.proofs.Delivering.{counted_on, delivery, event-delivers}
pub use Rattle.model_link.proofs.Obeying.{comes-in-step, leaves-others, stays-in-step}
pub use Rattle.model_link.proofs.OwnNotes.{IsOwn, notes-own, offer-keeps-r, transfer-goes-on}
pub use Rattle.model_link.proofs.RiseEvents.{event-rises, offer-falls}
pub use Rattle.model_link.proofs.Slots.{queue-after}
pub use Rattle.model_link.proofs.SoundEvents.{sound-after, sound-fresh}
pub use Rattle.model_link.proofs.TellRows.{event-tells, one-start}
pub use Rattle.model_link.proofs.Unserved.{unserved_leaves}
pub use Rattle.model_link.specs.Events.{Data as LinkData, Event as LinkEvent, Received as LinkReceived, Request as LinkRequest, cleared as link_cleared, expired as link_expired, frame as link_frame, offer, offer as link_offer, received as link_received, requested as link_requested, undefined as link_undefined, wrong_size as link_wrong_size}
pub use Rattle.model_link.specs.Link.{Link, address_at, fresh, queue_of}
pub use Rattle.model_link.specs.Machine.{after as link_after, course, given, given as link_given, given_of, told as link_told, told_of as link_told_of}
pub use Rattle.model_link.specs.Notes.{is_data}
pub use Rattle.model_link.specs.Offers.{give_information, is_awaiting_acknowledgement, may_send_information, offer_among, send_acknowledgement, send_information, with_one_sent}
pub use Rattle.model_link.specs.Requests.{is_queue_full, serves}
pub use Rattle.model_link.specs.Rises.{reject_number, grows as rises_grows, held as rises_held, may_send as rises_may_send, price as rises_price, rejects as rises_rejects, sent as rises_sent}
pub use Rattle.model_link.specs.Sound.{IsWaitingFrame}
pub use Rattle.model_link.specs.Steps.{Sent, changed, ◌then◌}
pub use Rattle.model_link.specs.Timed.{ComesInStep, IsTimed, is_same, obey, obeyed}
pub use Rattle.model_link.specs.Told.{Given, orders_for, runs, timer_at}
unfoldable pub use Rattle.model_link.specs.Told.{starts}
pub use Rattle.model_link.specs.Words.{pending_is, start}
pub use Rattle.model_link.specs.declared.frames.ControlFrame.{ControlFrame}
pub use Rattle.model_link.specs.declared.terms.Terms.{Terms}
pub use Rattle.model_link.specs.declared.timers.LinkTimer.{LinkTimer}
