-- Whole lists of events at a card that keeps its own timers, of either kind.
use Rattle.std.specs.Prelude.{◌≡◌, ℕ, ◌<◌, List, map, Result}
use Rattle.model_bits.specs.Stream.{dropped}
use Rattle.model_line.specs.Came.{came, cause_of}
use Rattle.model_line.specs.Event as line_event
use Rattle.model_line.specs.Request.{request_of}
use Rattle.model_card.specs.Card.{Card}
use Rattle.model_card.specs.Event.{Event, at}
use Rattle.model_card.specs.Machine as machine
use Rattle.model_card.specs.Run.{Moment, moments, after_all}
use Rattle.model_card.specs.declared.kinds.CardKind.{CardKind}
use Rattle.model_card.specs.declared.kinds.CardKind.TheVariants as kinds
use Rattle.model_card.specs.ports.Card as ports
use Rattle.model_card.specs.ports.Card.{OctetCard}
use Rattle.model_card.specs.ports.Event as octet
use Rattle.model_card.specs.ports.Port as port
use Rattle.model_card.specs.ports.Run as octets_run
use Rattle.model_card.specs.ports.Run.{meant_all}
use Rattle.model_timed.specs.Changes.{itself, inside, ChangesAreTold}
use Rattle.model_timed.specs.Frames as timed
use Rattle.model_timed.specs.Frames.{frames, fresh}
use Rattle.model_timed.specs.Octets.{octets, TimedOctetCard, fresh as octets_fresh}
use Rattle.model_timed.specs.RunTheSame.{TimersRunTheSame, OctetTimersRunTheSame}
use Rattle.model_timed.specs.Timed.{Step, happens, time, falls_due}
use Rattle.lapd_card.specs.Drive.{KeepsLaws}
use Rattle.lapd_card.specs.Kinds.{config_of, frames_of, kind_of, shelf_of}
use Rattle.lapd_card.specs.Stands.{OctetCardStands}
use Rattle.lapd_card.specs.declared.kinds.AnyCard.{AnyCard}
use Rattle.lapd_card.specs.declared.kinds.AnyCard.TheVariants.{Octets, Frames}
use Rattle.lapd_card.specs.declared.sink.SinkFault.{SinkFault}
use Rattle.lapd_timed.specs.TimedStands.{FramesStand, OctetsStand}
use Rattle.lapd_timed.specs.declared.timed_card.TimedCard.{TimedCard}
use Rattle.laws_promises.specs.FrameDrive.{FramesKeepLaws}
use Rattle.laws_promises.specs.Promises.{Promises}
use Rattle.laws_promises.specs.PromisesOfOctets.{PromisesOfOctets}
use Rattle.laws_promises.specs.TimedReply.{Answer, answered, by_port}
use Rattle.laws_promises.specs.TimedRun.{DrivenKind, HasRunAs, KeepsTime}
unfoldable use Rattle.laws_promises.specs.TimedRun.{events_in}
use Rattle.laws_promises.specs.declared.timed_events.TimedEvent as rust

-- What may happen at a card of this kind with so many lines: at one of them, what such a card takes. A moment, and what falls due,
-- is at no line that a caller names.
abbrev pub MayHappen : CardKind → ℕ → rust.TimedEvent → Type 0
MayHappen kind lines (rust.TheVariants.Time moment) = Unit {0}
MayHappen kind lines rust.TheVariants.FallDue = Unit {0}
MayHappen kind lines (rust.TheVariants.Request line request) = line < lines
MayHappen kind lines (rust.TheVariants.Frame line frame) = (kind ≡ kinds.Frames) × (line < lines)
MayHappen kind lines (rust.TheVariants.Failed line fault) = (kind ≡ kinds.Frames) × (line < lines)
MayHappen kind lines (rust.TheVariants.Next line) = (kind ≡ kinds.Frames) × (line < lines)
MayHappen kind lines (rust.TheVariants.Octet line value) = (kind ≡ kinds.Octets) × (line < lines)
MayHappen kind lines (rust.TheVariants.Pull line) = (kind ≡ kinds.Octets) × (line < lines)

-- What may happen, as a step of the timed machine, its octets and contents seen without references: of frames, of which information
-- fields have at most `n201` octets, and of octets. The last line of each is of what falls due, as the rest may not happen there.
abbrev pub frame_step : ℕ → rust.TimedEvent → Step Event
frame_step n201 (rust.TheVariants.Time moment) = time moment
frame_step n201 (rust.TheVariants.Request line request) = happens (at line (line_event.request (request_of request)))
frame_step n201 (rust.TheVariants.Frame line frame) = happens (at line (line_event.hears (came n201 frame.now)))
frame_step n201 (rust.TheVariants.Failed line fault) = happens (at line (line_event.hears (dropped (cause_of fault))))
frame_step n201 (rust.TheVariants.Next line) = happens (at line line_event.next)
frame_step n201 other = falls_due

abbrev pub octet_step : rust.TimedEvent → Step octet.Event
octet_step (rust.TheVariants.Time moment) = time moment
octet_step (rust.TheVariants.Request line request) = happens (octet.at line (port.request (request_of request)))
octet_step (rust.TheVariants.Octet line value) = happens (octet.at line (port.octet value))
octet_step (rust.TheVariants.Pull line) = happens (octet.at line port.pull)
octet_step other = falls_due

abbrev pub frame_steps : TimedCard → List rust.TimedEvent → List (Step Event)
frame_steps c events = map (frame_step (config_of c.card).n201) events

abbrev pub octet_steps : List rust.TimedEvent → List (Step octet.Event)
octet_steps events = map octet_step events

-- An event is answered as by a card without timers of its own.
abbrev pub frames_say : Event → Card → Answer
frames_say e card = answered e.line (machine.answer e card)

abbrev pub octets_say : octet.Event → OctetCard → Answer
octets_say e m = by_port e.line (ports.answer e m)

-- Of octets the counters count what events mean.
abbrev pub octets_count : OctetCard → List octet.Event → List Moment
octets_count m events = moments m.card (meant_all m events)

-- The two kinds.
abbrev pub of_frames : DrivenKind Card Event
of_frames = record { kind = frames; sees = itself; Stand = FramesStand; says = frames_say; leads = after_all; counts = moments }

abbrev pub of_octets : DrivenKind OctetCard octet.Event
of_octets = record { kind = octets; sees = inside; Stand = OctetsStand; says = octets_say; leads = octets_run.after_all; counts = octets_count }

-- A list of events was run at a card, which stays of its kind and keeps its configuration. It stands for no machine of the other
-- kind, so of that nothing is said.
pub record HasRun {K : Type 0} (takes misses : K → ℕ → Answer → K → Type 0) (failures : K → ℕ) (old new : TimedCard) (events : List rust.TimedEvent) (before later : K)
    (result : Result ℕ SinkFault) : Type 0 where
  pub kind : kind_of new.card ≡ kind_of old.card
  pub config : config_of new.card ≡ config_of old.card
  pub frames : HasRunAs of_frames takes misses failures old new (frame_steps old events) before later result
  pub octets : HasRunAs of_octets takes misses failures old new (octet_steps events) before later result

-- All that is promised of a list of events at a card of octets, by the clauses of `drive`.
abbrev pub OctetsKeepLaws : AnyCard → List octet.Event → Type 0
OctetsKeepLaws (Octets card) events =
    KeepsLaws shelf_of card events × ((m : OctetCard) → OctetCardStands shelf_of card m → (Promises m.card (meant_all m events) × PromisesOfOctets m events))
OctetsKeepLaws (Frames card) events = ⊥

-- The laws that hold of each list of events at a card, for the timed machines for which it stood.
pub record TimedKeepLaws (card : TimedCard) (events : List rust.TimedEvent) : Type 0 where
  pub frames : KeepsTime of_frames
  pub octets : KeepsTime of_octets
  -- The timers that run are those that its lines run.
  pub timers_run_the_same : TimersRunTheSame
  pub octet_timers_run_the_same : OctetTimersRunTheSame
  -- What is noted of a link (`run`) is its state, and the moment of the last step by which this became another.
  pub changes_are_told : ChangesAreTold of_frames.kind of_frames.sees fresh
  pub octet_changes_are_told : ChangesAreTold of_octets.kind of_octets.sees octets_fresh
  -- All laws of lists of events hold of those that the steps mean, and all promises.
  pub frames_keep : (t : timed.TimedCard) → FramesStand card t → FramesKeepLaws shelf_of (frames_of card.card) (events_in of_frames.kind (frame_steps card events) t)
  pub octets_keep : (t : TimedOctetCard) → OctetsStand card t → OctetsKeepLaws card.card (events_in of_octets.kind (octet_steps events) t)
