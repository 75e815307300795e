-- What a card's contracts say.
--
-- Read after those of `model_card`, in this order: Waiting, which lines have a frame to give; Start; and for a
-- card in the middle of its life FrameCard, Counted, Lines, FrameStands, Called and Given. Of a card of octets, after those of
-- `model_card::ports`, Card, Ports and Stands say the same; Reply, Sink, Runs, Drive and Kept (the sink of this crate), what a
-- sink has taken. Kinds is of a card of either kind. Image is what is saved and restored of a card, and Running which timers run.
pub mod Waiting
pub mod WorkedWaiting
pub mod Sink
pub mod Reply
pub mod Kept
pub mod Counted
pub mod Lines
pub mod FrameCard
pub mod FrameStands
pub mod Called
pub mod Given
pub mod Ports
pub mod Card
pub mod Stands
pub mod Start
pub mod Runs
pub mod Drive
pub mod Kinds
pub mod Image
pub mod Running
-- the words of the contracts, from where they are defined
pub use Rattle.lapd_count.specs.Counters.{none_counted}
pub use Rattle.lapd_frame.specs.ShortLists.{listed}
pub use Rattle.lapd_line.specs.Ports.{IsLoaded, latest_in}
pub use Rattle.lapd_line.specs.Pulls.{orders_taken}
pub use Rattle.lapd_line.specs.Reports.{answer_of_request, delivered_in, gave_in, IsClear, octets_of, pulled_of, report_told, told_beside, told_in, written}
pub use Rattle.lapd_link_steps.specs.Quiet.{IsQuiet}
pub use Rattle.model_bits.specs.Heard.{heard_of}
pub use Rattle.model_card.specs.ByEvent.{FallsByNext, RisesByExpiry, RisesByHeard, RisesByRequest}
pub use Rattle.model_card.specs.Counts.{may_send}
pub use Rattle.model_card.specs.Room.{RefusesBy, room}
pub use Rattle.model_card.specs.ports.Begun.{frame_begun_at, head_begun_at}
pub use Rattle.model_card.specs.ports.FrameHeard.{ended_at}
pub use Rattle.model_card.specs.ports.HeadHeard.{head_heard_at}
pub use Rattle.model_card.specs.ports.Port.{fresh_port}
pub use Rattle.model_card.specs.ports.Stored.{limit}
pub use Rattle.model_line.specs.Came.{came, cause_of}
pub use Rattle.model_line.specs.Refusal.{refusal}
pub use Rattle.model_line.specs.Request.{request_of}
pub use Rattle.model_line.specs.Sound.{IsInRange}
pub use Rattle.model_link.specs.Told.{starts}
pub use Rattle.lapd_card.specs.Counted.{counters_in}
pub use Rattle.lapd_card.specs.Drive.{IsPriced}
pub use Rattle.lapd_card.specs.Kept.{IsShort, kept_of}
pub use Rattle.lapd_card.specs.Lines.{AreFresh}
pub use Rattle.lapd_card.specs.Ports.{PortsStand, told_at, told_if_at}
pub use Rattle.lapd_card.specs.Start.{is_too_small, start_fault}
pub use Rattle.lapd_card.specs.Waiting.{IsFirstWaiting, has_next, next_waiting}
pub use Rattle.lapd_card.specs.declared.fault.CardFault.TheVariants.{OutOfMemory}
