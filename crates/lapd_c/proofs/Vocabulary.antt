-- The words with which the proofs of this crate speak, from where they are defined.
pub use Rattle.std.proofs.Common.{Bool, cond, IfOk, IfSome, IsSome, List, None, Ok, Option, Result, [], ap, arith, drop, false, inl, inr, length, lit<, nat_lt, not, refl, subst, suc, sym, true, ℕ, ◌&&◌, ◌*◌, ◌++◌, ◌+◌, ◌-◌, ◌<◌, ◌∙◌, ◌∷◌, ◌≡◌, ◌≤◌}
pub use Rattle.std.proofs.lemmas.Bool.{and_parts, cases_lt, eqb-true, false≢true, leb-true, ltb-false}
pub use Rattle.std.proofs.lemmas.Option.{none-some}
pub use Rattle.std.proofs.raw_atomic.Walks.{leaves, proved, proved_at}
pub use Rattle.std.specs.Prelude.{option_map}
pub use Rattle.std.specs.Option.{option_map_or, option_or}
pub use Rattle.std.specs.contracts.impls.GlobalAllocator.TheImpl.{ghosts}
pub use Rattle.std.specs.declared.option.Option.TheVariants.{Some}
pub use Rattle.std_alloc.proofs.BoxSteps.Steps.{box_in, box_out}
pub use Rattle.std_alloc.specs.Box.Ownership.{box_owns}
pub use Rattle.core.proofs.alloc.Calls.{Al, Goes-blank}
pub use Rattle.core.proofs.alloc.Shapes.{after}
pub use Rattle.core.proofs.atomic.Steps.{fm}
pub use Rattle.core.proofs.cell.Inside.{Good, one}
pub use Rattle.lapd_c.specs.Slots.{HeldCard, card_row, clock_row, heap, slot_owns}
pub use Rattle.lapd_c.specs.Answers.{ShowsAnswer, ShowsReply}
pub use Rattle.lapd_c.specs.Exchange.{answer_after, card_after, tells_nothing, step_event, with_step}
unfoldable pub use Rattle.lapd_c.specs.Exchange.{AllQuiet, given_after, steps_made}
pub use Rattle.lapd_c.specs.Frames.{frame_comes, goes, next_at}
pub use Rattle.lapd_card.specs.Kinds.{AnyStands, FrameCardStands, Machine, alone, card_in, with_ports}
pub use Rattle.lapd_c.specs.Laws.{ContentsFit, contents_in}
pub use Rattle.lapd_c.specs.Links.{AreFree, state_at}
pub use Rattle.lapd_c.specs.Orders.{after_orders, all_placed, first_fault_in}
pub use Rattle.lapd_c.specs.declared.kept.KeptCard.{KeptCard}
pub use Rattle.lapd_card.specs.declared.kinds.AnyCard.{AnyCard}
pub use Rattle.lapd_card.specs.declared.kinds.AnyCard.TheVariants.{Frames, Octets}
pub use Rattle.lapd_card.proofs.OctetsTaken.{meanings-count, octets-more}
pub use Rattle.lapd_clock.specs.Timers.{Timers}
pub use Rattle.lapd_count.specs.declared.counters.Counters.{Counters}
pub use Rattle.lapd_frame.specs.declared.controls.Control.{Control}
pub use Rattle.lapd_frame.specs.declared.controls.Control.TheVariants.{Ui}
pub use Rattle.lapd_frame.specs.declared.refusals.Refusal.{Refusal}
pub use Rattle.lapd_frame.specs.declared.services.Service.{Service}
pub use Rattle.lapd_line.specs.Reports.{answer_of_request, gave_in, next_in, written}
pub use Rattle.lapd_line.specs.declared.next_frame.NextFrame.{NextFrame}
pub use Rattle.lapd_c.specs.LinkPlaces.{service_at, tei_at}
pub use Rattle.lapd_c.specs.Reports.{Shows, contents_or_none}
pub use Rattle.lapd_c.specs.Requests.{read_of}
pub use Rattle.lapd_c.specs.declared.plain.reports.PlainReport.{PlainReport}
pub use Rattle.lapd_store.specs.Store.{Store}
pub use Rattle.model_teis.specs.declared.changes.Change.{Change}
pub use Rattle.model_card.specs.Card.{Card}
pub use Rattle.model_card.specs.Counted.{all_counted, moment_counted, moment_of}
pub use Rattle.model_card.specs.Event.{Event, at}
pub use Rattle.model_card.specs.Machine.{answer}
unfoldable pub use Rattle.model_card.specs.Run.{moments}
pub use Rattle.model_line.proofs.ProperAims.{event_aims}
pub use Rattle.model_line.proofs.Ranges.{ranges_of}
pub use Rattle.model_line.specs.Effect.{Effect, of_aim, of_change, of_link, of_management, told_of_management, without_units}
pub use Rattle.model_line.specs.Event.{Answer, LineTold, expiry, nothing, hears, next, request, told}
pub use Rattle.model_line.specs.Line.{Line}
pub use Rattle.model_line.specs.Machine.{unless_refused_told}
pub use Rattle.model_line.specs.Refusal.{refusal}
pub use Rattle.model_line.specs.Request.{request_of}
pub use Rattle.model_line.specs.Sound.{IsInRange}
pub use Rattle.model_line.specs.declared.config.Config.{Config}
pub use Rattle.model_link.proofs.Numbering.{delivered-at_once}
pub use Rattle.model_link.proofs.Kept.{Fits, FitsEvent, Kept}
pub use Rattle.model_link.proofs.Rows.{event_row, frame_row}
pub use Rattle.model_link.specs.Deliveries.{Arrived, eligible_of, information_in}
pub use Rattle.model_link.specs.Link.{Link}
pub use Rattle.model_link.specs.Steps.{Course, begun, by_bit}
pub use Rattle.model_link.specs.Words.{deliver_unit, leave_unserved}
pub use Rattle.model_link.specs.declared.states.State.{State}
pub use Rattle.model_link.specs.declared.terms.Terms.{Terms}
pub use Rattle.model_card.specs.ports.Card.{OctetCard}
unfoldable pub use Rattle.model_card.specs.ports.Run.{meant_all}
