-- The words with which the proofs of this crate speak, from where they are defined.
pub use Rattle.std.proofs.Common.{Bool, Err, Fits, IfErr, IfOk, IsSome, List, None, Ok, OnErr, Option, Result, Some, [], ap, arith, cond, eq-eqb, false, get_or, if◌then◌else◌, inl, inr, is_some, length, length-set, map, nat_le, nat_lt, refl, replicate, rules, set, slice_get, subst, suc, sym, take, true, true≢false, vec_len, w32, w64, zero, ℕ, ◌&&◌, ◌*◌, ◌++◌, ◌+◌, ◌-◌, ◌<◌, ◌==◌, ◌||◌, ◌↔◌, ◌∙◌}
pub use Rattle.std.proofs.Common.{◌∷◌, ◌≡◌, ◌≢◌, ◌≤◌, ◌⊎◌}
pub use Rattle.std.proofs.Math.Nat.{mul-le-mul_left}
pub use Rattle.std.proofs.lemmas.Bool.{eqb-false, eqb-true, false≢true, lt-ltb, ltb-false, or_parts}
pub use Rattle.std.proofs.lemmas.Grind.{flat_map-append}
pub use Rattle.std.proofs.lemmas.List.{append-nil, get_or-map, get_or-set_other, get_or-set_same, get_or_default, length-map, length-replicate, map-set, set-get_or, set-set, take_all}
pub use Rattle.std.proofs.lemmas.List.Elements.{All-cons, All-head, All-map, All-nil, All-push, All-take, All-weaker}
pub use Rattle.std.proofs.lemmas.List.Sums.{fold-append, sum_by-cons, sum_by_more}
pub use Rattle.std.proofs.lemmas.Option.{none-some, same_Some, slice_get-get_or}
pub use Rattle.std.proofs.lemmas.Result.{IfErr-weaker}
pub use Rattle.std.specs.List.{All, AllByRecursion, flat_map, sum_by, zip}
pub use Rattle.std.specs.Option.{option_map_or}
pub use Rattle.std.specs.Prelude.{IfSome, OnOk, is_err, option_map, option_to_list}
pub use Rattle.lapd_card.specs.Counted.{counters_in, counters_of}
pub use Rattle.lapd_card.specs.FrameCard.{Held, line_count}
pub use Rattle.lapd_card.specs.FrameStands.{HasPast, Leads, FrameStands}
pub use Rattle.lapd_card.specs.Lines.{AreFresh, IsFit, IsFresh, LinesStand, owned}
pub use Rattle.lapd_card.specs.Ports.{PortsStand, told_at, told_if_at, told_of}
pub use Rattle.lapd_card.specs.Sink.{Taken}
pub use Rattle.lapd_card.specs.Start.{fault_by, is_too_small, start_fault}
pub use Rattle.lapd_card.specs.declared.fault.CardFault.TheVariants.{BadConfig, ShelfTooSmall}
pub use Rattle.lapd_count.proofs.Numbers.{counters_are_numbers}
pub use Rattle.lapd_count.specs.Counters.{More, none_counted, with_all, with_more}
pub use Rattle.lapd_count.specs.declared.counters.Counters.{Counters}
pub use Rattle.lapd_frame.specs.declared.refusals.Refusal.{Refusal}
pub use Rattle.lapd_frame.specs.declared.refusals.Refusal.TheVariants.{PoolFull}
pub use Rattle.lapd_frame.specs.declared.services.Service.{Service}
pub use Rattle.lapd_frame.specs.declared.short_lists.ShortList.{ShortList}
pub use Rattle.lapd_frame.specs.declared.timers.Order.{Order}
pub use Rattle.lapd_frame.specs.declared.timers.Timer.{Timer}
pub use Rattle.lapd_line.proofs.Stood.{held_of, octets-pairs, slots-pairs, stands_on}
pub use Rattle.lapd_line.specs.Ports.{IsLoaded, IsSaid, PortStands, Pulls, latest_frame, latest_in, with_frame}
pub use Rattle.lapd_line.specs.Pulls.{orders_taken}
pub use Rattle.lapd_line.specs.Reports.{answer_of_request, delivered_in, report_told, told_beside, told_if, told_in}
pub use Rattle.lapd_line.specs.Stands.{config_of, pairs_of}
pub use Rattle.lapd_line.specs.declared.frame_line.FrameLine.{FrameLine}
pub use Rattle.lapd_line.specs.declared.port.Port.{Port}
pub use Rattle.lapd_link_steps.specs.declared.report.BareReport.{BareReport}
pub use Rattle.lapd_store.proofs.Focus.{FocusPair, focus_pair, octets-machines, slots-machines}
pub use Rattle.lapd_store.proofs.Ownership.{Holds-unused, stored_octets-held, used_slots-held}
pub use Rattle.lapd_store.specs.Ownership.{Holds, Owned, owned_octets}
pub use Rattle.lapd_store.specs.Store.{SameLimits, Store, stored_octets, used_slots}
pub use Rattle.model_card.proofs.Amortised.{frames_amortised, frames_amortised_from_zero}
pub use Rattle.model_card.proofs.ByEvent.{frames_by_event}
pub use Rattle.model_card.proofs.Fold.{run_is_moments}
pub use Rattle.model_card.proofs.NeverFull.{pool_never_full}
pub use Rattle.model_card.proofs.Numbering.{deliveries_numbered}
pub use Rattle.model_card.proofs.Reaching.{reached-after, reached-fresh, reached-sound}
pub use Rattle.model_card.proofs.Refusals.{refused_by_the_table}
pub use Rattle.model_card.proofs.Rooms.{refuses_by}
pub use Rattle.model_card.proofs.Stored.{stored_within_limit}
pub use Rattle.model_card.specs.ByEvent.{ArePriced}
pub use Rattle.model_card.specs.Card.{Card, fresh, is_full, line_at, state, used}
pub use Rattle.model_card.specs.Counted.{CountersAreNumbers, all_counted, all_shown, moment_counted, moment_of, shown_at}
pub use Rattle.model_card.specs.Counts.{may_send}
pub use Rattle.model_card.specs.Event.{Event, at}
pub use Rattle.model_card.specs.Machine.{after, wants_room}
pub use Rattle.model_card.specs.Promises.{IsAmortised, IsAmortisedFromZero, IsNeverFull, IsNumbered, IsNumberedFromZero}
pub use Rattle.model_card.specs.Reached.{IsReached}
pub use Rattle.model_card.specs.Room.{RefusesBy, room}
pub use Rattle.model_card.specs.Run.{Moment, one_more, run}
unfoldable pub use Rattle.model_card.specs.Run.{after_all, moments}
pub use Rattle.model_card.specs.Sound.{IsSound}
pub use Rattle.model_card.specs.Stored.{limit, stored}
pub use Rattle.model_line.proofs.Ranges.{ranges_of}
pub use Rattle.model_line.specs.Config.{first_fault}
pub use Rattle.model_line.specs.Counted.{shown}
pub use Rattle.model_line.specs.Event.{nothing}
pub use Rattle.model_line.specs.Line.{fresh_line}
pub use Rattle.model_line.specs.Refusal.{refusal}
pub use Rattle.model_line.specs.Request.{Request}
pub use Rattle.model_line.specs.Room.{room_in}
pub use Rattle.model_line.specs.Sound.{IsInRange}
pub use Rattle.model_line.specs.Stored.{held_in, octets_of, slots_of, stored_in}
pub use Rattle.model_line.specs.declared.config.Config.{Config}
pub use Rattle.model_line.specs.declared.config.Field.{Field}
pub use Rattle.model_link.specs.declared.rooms.Room.{Room}
pub use Rattle.model_card.specs.ports.Card.{OctetCard, port_at}
