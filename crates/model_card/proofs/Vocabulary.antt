-- The words with which the proofs of this crate speak, from where they are defined.
pub use Rattle.std.proofs.Common.{Bool, Err, IsSome, List, None, Ok, Option, Some, [], ap, append-nil, append_assoc, arith, cond, eq-eqb, eqb-true, false, get_or, is_some, length, length-set, nat_le, nat_lt, not, refl, set, subst, suc, sym, true, zero, ℕ, ◌&&◌, ◌*◌, ◌++◌, ◌+◌, ◌-◌, ◌<◌, ◌==◌, ◌∙◌, ◌∷◌, ◌≡◌, ◌≤◌}
pub use Rattle.std.proofs.Math.Dec.{eqb-suc-zero}
pub use Rattle.std.proofs.Math.Nat.{mul-le-mul_left, sub-eq-zero_of_le}
pub use Rattle.std.proofs.lemmas.Bool.{and_parts, le-ltb, leb-false, leb-true, lt-leb}
pub use Rattle.std.proofs.lemmas.List.{get_or-replicate, get_or-set_other, get_or-set_same, length-replicate, set-get_or}
pub use Rattle.std.proofs.lemmas.List.Elements.{All-cons, All-head, All-nil, All-push, All-replicate, All-set, All-tail}
pub use Rattle.std.proofs.lemmas.List.Folds.{sum_by-replicate}
pub use Rattle.std.proofs.lemmas.List.Sums.{get_or-le-sum_by, sum_by-cons, sum_by-le, sum_by-set}
pub use Rattle.std.proofs.lemmas.Option.{none-some}
pub use Rattle.std.specs.Prelude.{All, count_by, filter, fold, map, option_to_list, sum_by}
pub use Rattle.lapd_frame.specs.declared.refusals.Refusal.{Refusal}
pub use Rattle.lapd_frame.specs.declared.refusals.Refusal.TheVariants.{BadTei, NoLink, PoolFull, TooLong, WrongState}
pub use Rattle.lapd_frame.specs.declared.services.Service.{Service}
pub use Rattle.lapd_frame.specs.declared.timers.Timer.{Timer}
pub use Rattle.model_bits.specs.declared.heard.Cause.{Cause}
pub use Rattle.model_card.specs.ByEvent.{IsPriced}
pub use Rattle.model_card.specs.Card.{Card, fresh, is_full, line_at, used}
pub use Rattle.model_card.specs.Counts.{heard, is_accepted, is_heard, is_long_heard, is_reject, is_running_expiry, is_sent, long_heard, may_send, rejected, sent, window}
pub use Rattle.model_card.specs.Drops.{IsDropWithoutCost, IsDropWithoutEffect}
pub use Rattle.model_card.specs.Event.{Event, at}
pub use Rattle.model_card.specs.Isolation.{answer_in, answers_at, event_in, events_at, is_served_at}
pub use Rattle.model_card.specs.Laws.{CardsStaySound, DeliveriesNumbered, DropsChangeNothing, DropsCostNothing, FramesAmortised, FramesAmortisedFromZero, FramesByEvent, LinesIsolated, PoolNeverFull, RefusedByTheTable, RejectsAreLong, RunIsMoments, StoredWithinLimit, reply_of}
pub use Rattle.model_card.specs.Machine.{after, answer, wants_room}
pub use Rattle.model_card.specs.Numbered.{IsNext, LinkName, arrived, contents_numbered, delivered, one_more, received_by, restarts}
pub use Rattle.model_card.specs.Promises.{HasLink, IsAmortised, IsNotRefusedForPool}
pub use Rattle.model_card.specs.Reached.{AreTimed, CameAbout, IsReached, MayBegin}
unfoldable pub use Rattle.model_card.specs.Reached.{IsMade}
pub use Rattle.model_card.specs.Room.{RefusesBy, room}
pub use Rattle.model_card.specs.Run.{AreAtLines, IsAtLine, Moment, Run}
unfoldable pub use Rattle.model_card.specs.Run.{after_all, moments}
pub use Rattle.model_card.specs.Sound.{IsSound}
pub use Rattle.model_card.specs.Stored.{limit, limit_in, stored}
pub use Rattle.model_line.proofs.AimsRise.{fresh_may_send}
pub use Rattle.model_line.proofs.Drops.{heard_leaves, named_cause}
pub use Rattle.model_line.proofs.EventsRise.{event_rises}
pub use Rattle.model_line.proofs.EventsReject.{event_rejects}
pub use Rattle.model_line.proofs.LineSound.{after_sound, fresh_sound}
pub use Rattle.model_line.proofs.NotPool.{line_not_pool}
pub use Rattle.model_line.proofs.Numbered.{Part, brings_none, none_at}
pub use Rattle.model_line.proofs.NumberedEvents.{event_parts, slot_brings_nothing}
pub use Rattle.model_line.proofs.NextRises.{next_falls}
pub use Rattle.model_line.proofs.RoomForAll.{places_of, slots_few, taker_finds}
pub use Rattle.model_line.proofs.SlotsGrow.{fresh_slots, slots_grow}
pub use Rattle.model_line.proofs.StoredBounds.{stored_few}
pub use Rattle.model_line.specs.Counts.{is_pool_full}
pub use Rattle.model_line.specs.Effect.{Effect, of_aim}
pub use Rattle.model_line.specs.Event.{Answer, dropped, expiry, hears, next, refused, request, told}
pub use Rattle.model_line.specs.Laws.{cause_in, orders_in}
pub use Rattle.model_line.specs.Line.{Line, fresh_line, link_at, link_count}
pub use Rattle.model_line.specs.Machine.{unless_refused, unless_refused_told}
pub use Rattle.model_line.specs.Refusal.{Row, first_that_holds, pool_full, refusal}
pub use Rattle.model_line.specs.Request.{Data, Request, Unit}
pub use Rattle.model_line.specs.Requested.{aim_of_request, carries_contents}
pub use Rattle.model_line.specs.Room.{unless}
pub use Rattle.model_line.specs.Sound.{IsInRange}
pub use Rattle.model_line.specs.Stored.{slots_of, stored_in}
pub use Rattle.model_line.specs.declared.config.Config.{Config}
pub use Rattle.model_link.proofs.Delivering.{counted_on}
pub use Rattle.model_link.specs.Deliveries.{Arrived}
pub use Rattle.model_link.specs.Told.{starts}
pub use Rattle.model_link.specs.declared.rooms.Room.{Room}
