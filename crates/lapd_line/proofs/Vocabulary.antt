-- The words with which the proofs of this crate speak, from where they are defined.
pub use Rattle.std.proofs.Common.{Bool, Err, IfErr, IfOk, IfSome, IsSome, List, None, Ok, OnErr, OnOk, Option, Result, Some, [], ap, append_assoc, arith, cond, drop, drop-drop, eqb-true, false, get_or, inl, inr, is_some, length, length-append, length-drop, nat_le, nat_lt, not, option_map, option_to_list, refl, replicate, reverse, set, slice_get, subst, suc, sym, take, true, vec_len, w64, zero, ℕ}
pub use Rattle.std.proofs.Common.{⊎_elim}
pub use Rattle.std.proofs.Common.{◌&&◌}
pub use Rattle.std.proofs.Common.{◌*◌, ◌++◌, ◌+◌, ◌-◌, ◌/◌, ◌<◌, ◌==◌, ◌^◌, ◌||◌, ◌∙◌, ◌∷◌, ◌≡◌, ◌≢◌, ◌≤◌, ◌⊎◌, fold}
pub use Rattle.std.proofs.Math.ListN.{drop_of_length-le}
pub use Rattle.std.proofs.Math.Nat.{div-le_self}
pub use Rattle.std.proofs.Math.Seq.{map-set_same, take-append_seam}
pub use Rattle.std.proofs.lemmas.Bool.{cases_eq, cases_lt, false≢true, le-ltb, leb-false, lt-ltb, ltb-false, ne_eqb}
pub use Rattle.std.proofs.lemmas.List.{drop_all, get_or-replicate, get_or-set_other, get_or-set_same, get_or_default, length-map, length-set, map-append, map-set, take_all}
pub use Rattle.std.proofs.lemmas.List.Elements.{All-append, All-cons, All-drop, All-head, All-nil, All-tail}
pub use Rattle.std.proofs.lemmas.List.Folds.{fold-map}
pub use Rattle.std.proofs.lemmas.List.Sums.{fold-append, sum_by-cons, sum_by_more}
pub use Rattle.std.proofs.lemmas.Nat.{shr-shr}
pub use Rattle.std.proofs.lemmas.Nat.Bits.{bit_at-trailing_zeros, bit_at-zero, bit_at_above, bit_at_clear_other, bit_at_clear_same, bit_at_set_other, bit_at_set_same}
pub use Rattle.std.proofs.lemmas.Option.{none-some, same_Some, slice_get-get_or, slice_get-map, slice_get_cases, slice_get_within}
pub use Rattle.std.specs.Int.{bit_at, trailing_zeros}
pub use Rattle.std.specs.List.{All, list_any, prefix_len, range_with_len, sum_by, zip}
pub use Rattle.std.specs.Option.{option_map_or, option_or, unwrap_or}
pub use Rattle.std.specs.Prelude.{MatchOption, if◌then◌else◌, vec_capacity}
pub use Rattle.circular_buffer.proofs.Places.{slice_get-set_other, slice_get-set_same}
pub use Rattle.lapd_bits.specs.Ended.{without_octets}
pub use Rattle.lapd_count.specs.Counters.{More, with_all, with_more}
pub use Rattle.lapd_count.specs.Messages.{has_message}
pub use Rattle.lapd_count.specs.Shown.{begun_shown, head_shown, heard_shown, message_shown, told_shown, type_shown}
pub use Rattle.lapd_count.specs.declared.counters.Counters.{Counters}
pub use Rattle.lapd_frame.specs.Grammar.{IsFrame, Parts, parts_of}
pub use Rattle.lapd_frame.specs.Senders.{long_reading, spelling}
unfoldable pub use Rattle.lapd_frame.specs.Senders.{reading}
pub use Rattle.lapd_frame.specs.declared.senders.Sender.{Sender}
pub use Rattle.lapd_frame.specs.Services.{sapi_of, service_of}
pub use Rattle.lapd_frame.specs.ShortLists.{listed}
pub use Rattle.lapd_frame.specs.declared.addresses.Address.{Address}
pub use Rattle.lapd_frame.specs.declared.addresses.Side.{Side}
pub use Rattle.lapd_frame.specs.declared.addresses.Side.TheVariants.{Network, User}
pub use Rattle.lapd_frame.specs.declared.controls.Control.{Control}
pub use Rattle.lapd_frame.specs.declared.controls.Control.TheVariants.{Ui}
pub use Rattle.lapd_frame.specs.declared.faults.ReadFault.{ReadFault}
pub use Rattle.lapd_frame.specs.declared.notes.Note.{Note}
pub use Rattle.lapd_frame.specs.declared.refusals.Refusal.{Refusal}
pub use Rattle.lapd_frame.specs.declared.refusals.Refusal.TheVariants.{BadTei, NoLink, PoolFull, QueueFull, TooLong, WrongState}
pub use Rattle.lapd_frame.specs.declared.services.Service.{Service}
pub use Rattle.lapd_frame.specs.declared.services.Service.TheVariants.{Call, Packet}
pub use Rattle.lapd_frame.specs.declared.short_lists.ShortList.{ShortList}
pub use Rattle.lapd_frame.specs.declared.timers.Order.{Order}
pub use Rattle.lapd_frame.specs.declared.timers.Timer.{Timer}
pub use Rattle.lapd_line.specs.Addressing.{addressee, aim_at, group_service, is_ui, message_at, of_service, reaches_link, serves_messages}
pub use Rattle.lapd_line.specs.Awake.{AreAwake, TellsOf, gives, gives_at}
pub use Rattle.lapd_line.specs.Counted.{bare_shown, with_counted}
pub use Rattle.lapd_line.specs.LinkLayer.{Serves, Standing, LayerStands, aim_of_event, always}
pub use Rattle.lapd_line.proofs.LinkEvents.{GoesOn, IsGiven, Offers, Refuses}
pub use Rattle.lapd_line.specs.Links.{HasTerms, LinkFits, LinksStand, link_pairs, links_pairs, machine_at, terms_in}
pub use Rattle.lapd_line.specs.Loading.{IsFree, IsNext, Loading, Loads, in_bits, in_octets, room_in, reference_in}
pub use Rattle.lapd_line.specs.Marks.{AreMarked, IsLowestFrom, IsMark, NoneFrom, Sets, digit}
pub use Rattle.lapd_line.specs.Octets.{OctetsLead, OctetsStand, octets_config}
pub use Rattle.lapd_line.specs.Ports.{IsLoaded, IsSaid, PortStands, Pulls, latest_frame, or_latest, with_frame}
pub use Rattle.lapd_line.specs.Pulls.{HasTaken, Takes, TakesNext, Took, orders_taken}
pub use Rattle.lapd_line.specs.Reports.{IsClear, gave_in, pulled_of, report_told, told_beside, told_in}
pub use Rattle.lapd_line.specs.Managing.{first_type, held_by, is_terminals, management_of, offered_by, own_of, places_of}
pub use Rattle.lapd_line.specs.declared.managing.Managing.{Managing}
pub use Rattle.lapd_line.specs.Requests.{asked_aim, link_refusal, management_refusal}
pub use Rattle.lapd_line.specs.Stands.{Leads, LeadsIfHeard, LineStands, answer_if_heard, config_of, pairs_of as line_pairs}
pub use Rattle.lapd_line.specs.Starts.{AreBegun, IsBegun}
pub use Rattle.lapd_line.specs.TeiChanges.{Changing, IsAnswerTo, with_management}
pub use Rattle.lapd_line.specs.Units.{AreFor, UnitRing, empty_ring, messages_of, slot_of, unit_pairs, with_newest, without_oldest}
pub use Rattle.lapd_line.specs.declared.addressing.Addressee.{Addressee}
pub use Rattle.lapd_line.specs.declared.frame_line.FrameLine.{FrameLine}
pub use Rattle.lapd_line.specs.declared.link_layer.LinkLayer.{LinkLayer}
pub use Rattle.lapd_line.specs.declared.marks.Marks.{Marks}
pub use Rattle.lapd_link_steps.specs.declared.report.BareReport.{BareReport}
pub use Rattle.lapd_line.specs.declared.units.QueuedUnit.{QueuedUnit}
pub use Rattle.lapd_link.specs.Events.{received_of}
pub use Rattle.lapd_link.specs.Outcome.{HasMessage, contents_in, given_by, told_with}
pub use Rattle.lapd_link.specs.Stands.{Fits, LinkStands, terms_of}
pub use Rattle.lapd_link.specs.declared.link.Link.{Link}
pub use Rattle.lapd_link.specs.declared.offers.Offer.{Offer}
pub use Rattle.lapd_store.proofs.Focus.{FocusPair, Part, focus_pair, octets-machines, second_part, slots-machines}
pub use Rattle.lapd_store.proofs.Ownership.{Holds-empty, owned_octets-append}
pub use Rattle.lapd_store.proofs.Queues.{Keeps-at, Keeps-put, Keeps-release, Keeps-used, length-pairs_of, owned_octets-pairs_of}
pub use Rattle.lapd_store.specs.Ownership.{Holds, Keeps, Owned, owned_octets, pairs_of}
pub use Rattle.lapd_store.specs.Store.{IsUsed, SameLimits, Store, contents_of, empty_store, used_slots, with_contents, without}
pub use Rattle.model_teis.proofs.OfNetwork.LawLemmas.{changes_are_told}
pub use Rattle.model_teis.proofs.Tables.{at-within, is_on-at, place_of-is}
pub use Rattle.model_teis.specs.Changes.{HasJoined, HasLeft, Moves}
pub use Rattle.model_teis.specs.network.Machine.{Management, empty}
pub use Rattle.model_teis.specs.network.Messages.{type_of}
pub use Rattle.lapd_tei.specs.Outcome.{told_of}
pub use Rattle.model_teis.specs.Table.{IsAt, Places, is_on, place_of}
pub use Rattle.model_teis.specs.declared.changes.Change.TheVariants.{Gained, Left}
pub use Rattle.lapd_tei.specs.declared.outcome.TeiOutcome.{TeiOutcome}
pub use Rattle.model_bits.proofs.BitLemmas.{bits-push}
pub use Rattle.model_bits.specs.Bits.{bits, low_bits, number_of}
pub use Rattle.model_bits.specs.Framer.{Framing, last_octets, refilled, runs_low, still_held, with_idle}
pub use Rattle.model_bits.specs.Heads.{head_of}
pub use Rattle.model_bits.specs.OpenGap.{kept_count, octets_held, open_gap}
pub use Rattle.model_bits.specs.Sent.{Item, frame, line_text}
pub use Rattle.model_bits.specs.Stream.{heard_in, room_for}
pub use Rattle.model_bits.specs.Stuffing.{unstuffed}
pub use Rattle.model_bits.specs.declared.heads.Head.{Head}
pub use Rattle.model_bits.specs.declared.heard.Cause.{Cause}
pub use Rattle.model_bits.specs.declared.heard.Cause.TheVariants.{Unserved}
pub use Rattle.model_line.proofs.AimsSound.{IsProper, aim_sound}
pub use Rattle.model_line.proofs.Drops.{drop_costs_nothing}
pub use Rattle.model_line.proofs.LineSound.{fresh_sound}
pub use Rattle.model_line.proofs.Numbers.{number_within, other_place, place_at-number, place_within, service_at-number}
pub use Rattle.model_line.proofs.Offered.{fresh_gives_nothing}
pub use Rattle.model_line.proofs.TakenSound.{TakesSoundly, link_sound, taken_sound}
pub use Rattle.model_line.proofs.Ranges.{ranges_of}
pub use Rattle.model_line.proofs.Sides.{unit_tei}
pub use Rattle.model_line.proofs.Starts.{expiry_starts}
pub use Rattle.model_line.specs.Counted.{answer_shown, counted, shown}
pub use Rattle.model_line.specs.Counts.{may_send}
pub use Rattle.model_line.specs.Effect.{Aim, at_a_terminal, at_link, at_management, at_no_link, at_none, at_terminal, at_units, of_aim, of_change, of_management, of_network, of_terminal, of_terminal_if, told_of_link, told_of_management, unserved_cause, with_cleared, with_opened, without_units}
pub use Rattle.model_line.specs.Event.{Answer, Event, LineTold, NextFrame, dropped, expiry, gave, hears, next, nothing, told}
pub use Rattle.model_line.specs.Expiry.{aim_of_expiry, at_timer}
pub use Rattle.model_line.specs.Laws.{orders_in}
pub use Rattle.model_line.specs.Line.{Line, Own, UnitData, is_terminal, terminal_in, terminal_with, with_terminal, fresh_line, has_tei, link_at, link_count, link_in, link_number, link_of, place_at, place_in, service_at, tei_at, terms, terms_at, with_link}
pub use Rattle.model_line.specs.Machine.{unless_refused, unless_refused_told}
unfoldable pub use Rattle.model_line.specs.Machine.{after, answer}
pub use Rattle.model_line.specs.Heard.{addressed, aim_of_long, aim_of_reading, aim_of_unnumbered, at_place, drop_for, group_tei, heard_side, message_of, to_service, unless_at_link}
pub use Rattle.model_line.specs.Taken.{Taken, first_taken, line_of, link_taken, message_taken, next_of, own_side, round, taken, unit_taken, with_given_frame, with_message, with_own_message, with_unit}
pub use Rattle.model_line.specs.Refusal.{Row, bad_tei, bad_tei_or_group, first_that_holds, no_link, no_link_nor_group, pool_full, queue_full, refusal, too_long, unit_queue_full, wrong_state}
pub use Rattle.model_line.specs.Request.{AskTei, Assign, Check, ClearBusy, Data, Deactivate, Disown, Down, Establish, Release, Remove, Request, SetBusy, Unit, VerifyTei, request_of}
pub use Rattle.model_line.specs.Requested.{aim_of_request, at_deactivated, at_requested}
pub use Rattle.model_line.specs.Room.{unless}
pub use Rattle.model_line.specs.Sides.{at_side, group_told, has_management, is_network, last_unit_tei, managed_at, told_at, told_of_group, told_of_ui}
pub use Rattle.model_line.specs.Sound.{IsInRange, IsOfSide, IsSound, IsSoundAt, IsUnitData}
pub use Rattle.model_line.specs.Stored.{unit_contents, held_by_link, octets_by_link, octets_of, slots_by_link, slots_of, sum_of_links, total_length, unit_length}
pub use Rattle.model_line.specs.declared.config.Config.{Config}
pub use Rattle.model_card.proofs.OfPorts.TextGoesOn.{left_is, one_item, text_of}
pub use Rattle.model_card.specs.ports.HeadHeard.{or_heard}
pub use Rattle.model_card.specs.ports.Port.{frame_begun, fresh_port, gained, is_due, pull}
pub use Rattle.model_link.proofs.TellRows.{cleared-orders, cleared-tells}
pub use Rattle.model_link.specs.Events.{offer}
pub use Rattle.model_link.specs.Link.{frame_of, fresh, queue_of, state_number}
pub use Rattle.model_link.specs.Machine.{given}
pub use Rattle.model_link.specs.Requests.{serves}
pub use Rattle.model_link.specs.Rises.{held}
pub use Rattle.model_link.specs.Room.{room_of}
pub use Rattle.model_link.specs.Sound.{IsWaitingFrame}
pub use Rattle.model_link.specs.Steps.{Course}
pub use Rattle.model_link.specs.Told.{Given, LinkTold, starts}
pub use Rattle.model_link.specs.declared.rooms.Room.{Room}
pub use Rattle.model_link.specs.declared.terms.Terms.{Terms}
pub use Rattle.lapd_bits.specs.Deframer.{latest_of}
pub use Rattle.lapd_bits.specs.declared.ended.Ended.{Ended}
pub use Rattle.lapd_count.specs.declared.counter.Way.TheVariants.{Begun}
pub use Rattle.lapd_line.specs.Rounds.{IsFirstAround}
pub use Rattle.lapd_line.specs.Waiting.{has_next}
pub use Rattle.lapd_line.specs.declared.port.Port.{Port}
pub use Rattle.lapd_line.specs.declared.pulled.Pulled.{Pulled}
pub use Rattle.lapd_link_steps.specs.Quiet.{IsQuiet}
pub use Rattle.model_teis.specs.network.Events.{down, offered}
pub use Rattle.model_teis.specs.declared.network.messages.Message.{Message}
pub use Rattle.model_teis.specs.declared.network.messages.Message.TheVariants.{IdentityAssigned, IdentityCheckRequest, IdentityDenied, IdentityRemove}
pub use Rattle.model_teis.specs.declared.changes.Change.{Change}
pub use Rattle.model_bits.specs.Heard.{heard_of}
pub use Rattle.model_card.specs.ports.Codec.{IsTextOf}
pub use Rattle.model_line.specs.Came.{cause_of}
pub use Rattle.model_link.proofs.Rows.{event_row}
pub use Rattle.model_link.specs.declared.timers.LinkTimer.{LinkTimer}
pub use Rattle.std.proofs.lemmas.Result.{IfErr-weaker, IfOk-weaker, on_err_weaker}
pub use Rattle.std.proofs.lemmas.Slice.{drop-append-drop}
