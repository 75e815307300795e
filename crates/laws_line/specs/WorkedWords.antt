-- The words with which the worked values of this crate speak, from where they are defined.
pub use Rattle.std.proofs.Common.{ap, arith}
pub use Rattle.std.specs.List.{list_any}
pub use Rattle.model_bits.specs.Stream.{dropped as bits_dropped, frame, overlong}
pub use Rattle.model_bits.specs.declared.heard.Cause.TheVariants.{Fcs, Sapi, Short, Tei, Unserved}
pub use Rattle.lapd_frame.specs.Grammar.{Parts}
unfoldable pub use Rattle.lapd_frame.specs.Reading.{control_of, header_of, reading, supervisory_of, unnumbered_of}
unfoldable pub use Rattle.lapd_frame.specs.Senders.{exchanged, reading as read_by}
pub use Rattle.lapd_frame.specs.declared.addresses.Side.TheVariants.{Network, User}
pub use Rattle.lapd_frame.specs.declared.controls.Control.TheVariants.{Information, ReceiveNotReady, ReceiveReady, Sabme, Ua, Ui}
pub use Rattle.lapd_frame.specs.declared.notes.Note.TheVariants.{Error, ReleaseIndication, Removed}
pub use Rattle.lapd_frame.specs.declared.refusals.Refusal.TheVariants.{BadTei, CheckRunning, ControlFull, NoLink, PoolFull, QueueFull, TeiTaken, WrongSide, WrongState}
pub use Rattle.lapd_frame.specs.declared.services.Service.TheVariants.{Call, Packet}
pub use Rattle.lapd_frame.specs.declared.timers.Order.{Order}
pub use Rattle.lapd_frame.specs.declared.timers.Order.TheVariants.{Start, Stop}
pub use Rattle.lapd_frame.specs.declared.timers.Timer.TheVariants.{T200, T201, T203}
unfoldable pub use Rattle.lapd_seq.specs.Circle.{distance_of, named}
unfoldable pub use Rattle.lapd_seq.specs.Numbers.{seq}
pub use Rattle.model_link.specs.Events.{frame as link_frame, overlong as link_overlong, received, undefined}
pub use Rattle.model_link.specs.Link.{Link, fresh as link_fresh, is_multiple_frame}
pub use Rattle.model_link.specs.Words.{command, response}
pub use Rattle.model_link.specs.declared.states.State.TheVariants.{AwaitingEstablishment, Established, TeiAssigned}
pub use Rattle.model_link.specs.declared.timers.LinkTimer.TheVariants.{T200 as LinkT200}
pub use Rattle.model_teis.specs.declared.network.messages.Message.{Message}
pub use Rattle.model_teis.specs.declared.network.messages.Message.TheVariants.{IdentityAssigned, IdentityCheckRequest, IdentityDenied, IdentityRemove}
pub use Rattle.model_teis.specs.declared.changes.Change.TheVariants.{Left}
pub use Rattle.model_line.specs.Came.{came}
pub use Rattle.model_line.specs.Config.{first_fault}
unfoldable pub use Rattle.model_line.specs.Config.{sapi_fault}
pub use Rattle.model_line.specs.Effect.{Effect, of_aim}
pub use Rattle.model_line.specs.Event.{Answer, Event as LineEvent, LineTold, dropped, expiry, gave, hears, next, nothing, refused, request, told}
pub use Rattle.model_line.specs.Heard.{aim_of_heard}
pub use Rattle.model_line.specs.Laws.{cause_in, orders_in}
pub use Rattle.model_line.specs.Line.{Line, fresh_line, has_tei, link_at, link_in, place_at, place_in, state_in, state_of, tei_at, terms, with_link}
pub use Rattle.model_line.specs.Machine.{of_request}
unfoldable pub use Rattle.model_line.specs.Machine.{after, answer}
pub use Rattle.model_line.specs.Refusal.{refusal}
pub use Rattle.model_line.specs.Request.{Assign, Check, Data, Deactivate, Disown, Down, Establish, Release, Remove, Request, SetBusy, Unit}
pub use Rattle.model_line.specs.Taken.{Taken, taken}
pub use Rattle.model_line.specs.declared.config.Config.{Config}
pub use Rattle.model_card.specs.ByEvent.{IsPriced}
pub use Rattle.model_card.specs.Card.{Card, fresh, state}
pub use Rattle.model_card.specs.Counts.{accepted, expired, heard, rejected, sent, window}
pub use Rattle.model_card.specs.Drops.{IsDropWithoutCost, IsDropWithoutEffect}
pub use Rattle.model_card.specs.Event.{Event, at}
pub use Rattle.model_card.specs.Isolation.{answer_in, answers_at, events_at}
pub use Rattle.model_card.specs.Machine.{answer as card_answer}
pub use Rattle.model_card.specs.Numbered.{IsNext, LinkName}
pub use Rattle.model_card.specs.Promises.{IsNotRefusedForPool, IsWithinLimit}
pub use Rattle.model_card.specs.Run.{Moment, run}
unfoldable pub use Rattle.model_card.specs.Run.{after_all, moments}
pub use Rattle.model_card.specs.Stored.{limit, stored}
unfoldable pub use Rattle.laws_line.specs.Among.{after_events}
pub use Rattle.laws_line.specs.Drains.{frames_before, frames_to_go, most_frames, most_frames_before, way_round}
pub use Rattle.laws_line.specs.Frames.{lost_in}
pub use Rattle.laws_line.specs.GoesDown.{GivesUp}
pub use Rattle.laws_line.specs.Heard.{IsNotedOnce, contents_in, is_data_of, is_unit_of, notes_of}
pub use Rattle.laws_line.specs.OneEvent.{SaysNothing, noted_behind}
pub use Rattle.laws_line.specs.Served.{HasNothing, units_asked}
pub use Rattle.laws_line.specs.card.Among.{AreAmong}
pub use Rattle.laws_line.specs.card.Brief.{LinksStay, TellsCause}
pub use Rattle.laws_line.specs.card.Timers.{runs_at_callers}
pub use Rattle.laws_link.specs.History.{History}
pub use Rattle.laws_link.specs.States.{state_after}
pub use Rattle.laws_link.specs.Telling.{told_by}
pub use Rattle.laws_link.specs.Waiting.{waiting_left}
