-- The words with which the proofs of this crate speak, from where they are defined.
pub use Rattle.std.proofs.Common.{Bool, Bor, IsTrue, List, MatchOption, None, Option, Some, [], ap, arith, cond, drop, false, get_or, length, length-append, length-drop, refl, subst, suc, sym, true, zero, ℕ, ◌%◌, ◌++◌, ◌+◌, ◌-◌, ◌<◌, ◌∙◌, ◌∷◌, ◌≡◌, ◌≤◌}
pub use Rattle.std.proofs.lemmas.List.{drop-append-le, get_or-drop}
pub use Rattle.std.proofs.lemmas.Option.{get_or_from_slice_get, slice_get_within}
pub use Rattle.std.specs.List.{slice_get}
pub use Rattle.std.specs.Prelude.{All, IfNone, IfSome, IsSome, if◌then◌else◌, nat_le}
pub use Rattle.lapd_frame.specs.Grammar.{IsFrame, allows, row, takes}
pub use Rattle.lapd_frame.specs.Services.{sapi_of}
pub use Rattle.lapd_frame.specs.declared.controls.Control.TheVariants.{ReceiveReady}
pub use Rattle.lapd_frame.specs.declared.refusals.Refusal.{Refusal}
pub use Rattle.lapd_frame.specs.declared.refusals.Refusal.TheVariants.{WrongState}
pub use Rattle.lapd_frame.specs.declared.services.Service.{Service}
pub use Rattle.lapd_frame.specs.declared.services.Service.TheVariants.{Call, Packet}
pub use Rattle.lapd_frame.specs.declared.timers.Order.{Order}
pub use Rattle.lapd_link.specs.Events.{info_of, received_of, request_of}
pub use Rattle.lapd_link.specs.Outcome.{HasMessage, contents_in, told_with}
pub use Rattle.lapd_link.specs.Stands.{HasPlace, HasRoom, Reaches, LinkStands, Stays, slots_of, terms_of}
pub use Rattle.lapd_link.specs.declared.link.Link.{Link}
pub use Rattle.lapd_link.specs.declared.received.Received.{Received}
pub use Rattle.lapd_link.specs.declared.requests.LinkRequest.{LinkRequest}
pub use Rattle.lapd_link.specs.declared.requests.LinkRequest.TheVariants.{ClearBusy, Data, Establish, Release, SetBusy}
pub use Rattle.lapd_link_steps.proofs.Resting.{begun-resting, few_gone, fits-resting, rests-after, took-course}
pub use Rattle.lapd_link_steps.specs.Does.{Agrees, Does}
pub use Rattle.lapd_link_steps.specs.Done.{Rests, Took}
pub use Rattle.lapd_link_steps.specs.Reports.{IsClear}
pub use Rattle.lapd_link_steps.specs.declared.entity.Entity.{Entity}
pub use Rattle.lapd_link_steps.specs.declared.report.BareReport.{BareReport}
unfoldable pub use Rattle.lapd_seq.specs.Numbers.{seq}
pub use Rattle.lapd_seq.specs.Windows.{va_of}
pub use Rattle.lapd_seq.specs.declared.numbers.Seq.{Seq}
pub use Rattle.lapd_store.proofs.Queues.{Keeps-at, Keeps-put, Keeps-used}
pub use Rattle.lapd_store.specs.Ownership.{Keeps, Owned, pairs_of}
pub use Rattle.lapd_store.specs.SlotRing.{SlotRing}
pub use Rattle.lapd_store.specs.Store.{IsUsed, SameLimits, Store, contents_of, used_slots}
pub use Rattle.model_link.proofs.RiseEvents.{event-rises}
pub use Rattle.model_link.proofs.SoundEvents.{sound-after}
pub use Rattle.model_link.proofs.TellRows.{one-start}
pub use Rattle.model_link.proofs.Unserved.{unserved-stays}
pub use Rattle.model_link.specs.Events.{Event, Request, offer, requested}
pub use Rattle.model_link.specs.Link.{frame_of, queue_of}
pub use Rattle.model_link.specs.Machine.{after, course, given, given_of, received_step, told, told_of}
pub use Rattle.model_link.specs.MultipleFrame.{data_in_7_8}
pub use Rattle.model_link.specs.Requests.{granted, refusal, refusal_for_room, serves}
pub use Rattle.model_link.specs.Room.{room_of}
pub use Rattle.model_link.specs.Sound.{IsInRange, IsSound, IsWaitingFrame}
pub use Rattle.model_link.specs.Steps.{Course, Sent, Step, begun, changed, ◌then◌}
pub use Rattle.model_link.specs.Told.{LinkTold, orders_for, starts}
pub use Rattle.model_link.specs.Words.{pending_is, response, start}
pub use Rattle.model_link.specs.declared.frames.ControlFrame.{ControlFrame}
pub use Rattle.model_link.specs.declared.rooms.Room.{Room}
pub use Rattle.model_link.specs.declared.states.State.{State}
pub use Rattle.model_link.specs.declared.terms.Terms.{Terms}
pub use Rattle.model_link.specs.declared.timers.LinkTimer.{LinkTimer}
pub use Rattle.model_link.specs.declared.timers.LinkTimer.TheVariants.{T200}
