-- The words with which the worked values of this crate speak, from where they are defined.
pub use Rattle.std.specs.List.{list_any}
unfoldable pub use Rattle.lapd_frame.specs.Reading.{control_of, header_of, reading, supervisory_of, unnumbered_of}
pub use Rattle.lapd_frame.specs.declared.controls.Control.TheVariants.{Disc, Dm, ReceiveNotReady, ReceiveReady, Reject, Sabme, Ua}
pub use Rattle.lapd_frame.specs.declared.refusals.Refusal.TheVariants.{PoolFull, QueueFull, TooLong, WrongState}
pub use Rattle.lapd_frame.specs.declared.services.Service.TheVariants.{Call, Packet}
pub use Rattle.lapd_frame.specs.declared.timers.Order.{Order}
pub use Rattle.lapd_frame.specs.declared.timers.Order.TheVariants.{Start, Stop}
pub use Rattle.lapd_frame.specs.declared.timers.Timer.TheVariants.{T200 as FrameT200, T203 as FrameT203}
unfoldable pub use Rattle.lapd_seq.specs.Circle.{distance_of, named}
unfoldable pub use Rattle.lapd_seq.specs.Numbers.{seq}
pub use Rattle.model_link.specs.Deliveries.{restarts}
pub use Rattle.model_link.specs.Events.{ClearBusy, Data, Establish, Event, Release, SetBusy, cleared, expired, offer, overlong, received}
pub use Rattle.model_link.specs.Link.{Link, fresh, queue_of}
pub use Rattle.model_link.specs.Machine.{after, told}
unfoldable pub use Rattle.model_link.specs.Machine.{after_all}
pub use Rattle.model_link.specs.Requests.{refusal}
pub use Rattle.model_link.specs.Rises.{held, may_send}
unfoldable pub use Rattle.model_link.specs.Rises.{price_of_all}
pub use Rattle.model_link.specs.Room.{refusal_for, room_of}
pub use Rattle.model_link.specs.TwoEnds.{StepAt, Ends, requests, at_far, at_near, expires, loses, receives, sends}
unfoldable pub use Rattle.model_link.specs.TwoEnds.{doing_all}
pub use Rattle.model_link.specs.Words.{command, response}
pub use Rattle.model_link.specs.declared.frames.ControlFrame.{ControlFrame}
pub use Rattle.model_link.specs.declared.states.State.{State}
pub use Rattle.model_link.specs.declared.states.State.TheVariants.{AwaitingEstablishment, Established, TeiAssigned, TimerRecovery}
pub use Rattle.model_link.specs.declared.timers.LinkTimer.TheVariants.{T200, T203}
pub use Rattle.laws_link.specs.Accepted.{empties}
pub use Rattle.laws_link.specs.Flags.{peer_busy_left, pending_left}
pub use Rattle.laws_link.specs.Heard.{unit_due}
pub use Rattle.laws_link.specs.History.{share}
pub use Rattle.laws_link.specs.Offered.{i_frames}
pub use Rattle.laws_link.specs.Samples.{ask, by_annex_b, frame_comes, packet, pulls, sabme, told_after, up, usual_terms, with_k_and_queue, with_n200}
unfoldable pub use Rattle.laws_link.specs.Samples.{lost, notes, out}
pub use Rattle.laws_link.specs.States.{as_heard, numbers_begin, state_after}
pub use Rattle.laws_link.specs.Telling.{told_by}
pub use Rattle.laws_link.specs.Waiting.{put}
pub use Rattle.laws_link.specs.two.AnyOrder.{weight}
pub use Rattle.laws_link.specs.two.BusyOver.{with_far_told, with_far_untold, with_near_told}
pub use Rattle.laws_link.specs.two.CutOff.{with_t200_expired}
pub use Rattle.laws_link.specs.two.OwnBusy.{with_far_busy}
unfoldable pub use Rattle.laws_link.specs.two.Rounds.{rounds}
unfoldable pub use Rattle.laws_link.specs.two.Waits.{after_offers}
