-- What a call of a card comes to: one event of the machine of its kind, whose orders have been carried out at the moment of the card,
-- if it keeps its own timers. It keeps them if it did.
use Rattle.std.specs.Prelude.{◌≡◌, ◌≤◌, ◌<◌, ◌^◌, ℕ, Bool, true, None, is_some}
use Rattle.lapd_frame.specs.ShortLists.{listed}
use Rattle.lapd_frame.specs.declared.refusals.Refusal.{Refusal}
use Rattle.lapd_frame.specs.declared.timers.Timer.{Timer}
use Rattle.lapd_line.specs.Reports.{told_beside}
use Rattle.lapd_link_steps.specs.declared.report.BareReport.{BareReport}
use Rattle.model_link.specs.Told.{starts}
use Rattle.lapd_card.specs.Called.{AnyCalled}
use Rattle.lapd_card.specs.Kinds.{alone, answer, line_count, with_ports, AnyLeads, AnyStands, Machine}
use Rattle.lapd_card.specs.declared.kinds.AnyCard.{AnyCard}
use Rattle.model_card.specs.Card.{Card}
use Rattle.model_card.specs.Event as frame
use Rattle.model_card.specs.Machine as machine
use Rattle.model_card.specs.ports.Card as ports
use Rattle.model_card.specs.ports.Card.{OctetCard}
use Rattle.model_card.specs.ports.Event as octet
use Rattle.model_card.specs.ports.Port as port
use Rattle.model_line.specs.Event as line
use Rattle.model_timed.specs.Clock.{Clock, at_moment, due}
use Rattle.model_timed.specs.Frames as of_frames
use Rattle.model_timed.specs.Octets as of_octets
use Rattle.model_timed.specs.Timed.{happens, time}
use Rattle.lapd_timed.specs.Kinds.{LedByFrames, LedByOctets}
use Rattle.lapd_timed.specs.Stands.{moment_of, TimersStandIn}
use Rattle.lapd_timed.specs.TimedStands.{FramesMarked, FramesStand, OctetsMarked, OctetsStand, Steps}
use Rattle.lapd_timed.specs.declared.timed_card.TimedCard.{TimedCard}

abbrev pub keeps_timers : TimedCard → Bool
keeps_timers c = is_some c.timers

-- The arguments are this event at a line of a card of frames, and what the call answers and writes says this: it is the machine's
-- answer. The card is the machine after the event, and its clock is that of the timed machine then; and what is noted of the links
-- is so of those of that machine.
pub record CalledOfFrames (e : frame.Event) (answered : line.Answer) (old new : TimedCard) : Type 0 where
  pub answers : (m : Card) → AnyStands old.card (alone m) → answered ≡ machine.answer e m
  pub leads : LedByFrames e old.card new.card
  pub after : (t : of_frames.TimedCard) → FramesStand old t → FramesStand new (of_frames.after (happens e) t)
  pub marked : FramesMarked (happens e) old new
  pub timed : keeps_timers new ≡ keeps_timers old

-- The same of a card of octets,
pub record CalledOfOctets (e : octet.Event) (answered : port.Answer) (old new : TimedCard) : Type 0 where
  pub answers : (m : OctetCard) → AnyStands old.card (with_ports m) → answered ≡ ports.answer e m
  pub leads : LedByOctets e old.card new.card
  pub after : (t : of_octets.TimedOctetCard) → OctetsStand old t → OctetsStand new (of_octets.after (happens e) t)
  pub marked : OctetsMarked (happens e) old new
  pub timed : keeps_timers new ≡ keeps_timers old

-- and of a request at a card of either kind. If the machine refuses it, nothing has changed.
pub record CalledOfBoth (o : octet.Event) (e : frame.Event) (answered : line.Answer) (old new : TimedCard) : Type 0 where
  pub answers : (m : Machine) → AnyStands old.card m → answered ≡ answer e m
  pub unchanged : (why : Refusal) → answered ≡ line.refused why → new ≡ old
  pub leads : AnyLeads e old.card new.card
  pub after : Steps (happens o) (happens e) old new
  pub timed : keeps_timers new ≡ keeps_timers old

-- The time has come to this moment, if the card keeps its own timers, and the card inside is as it was.
pub record Went (moment : ℕ) (old new : TimedCard) : Type 0 where
  pub card : new.card ≡ old.card
  pub now : keeps_timers old ≡ true → moment_of new.timers ≡ moment
  pub after : Steps (time moment) (time moment) old new
  pub timed : keeps_timers new ≡ keeps_timers old

-- It keeps its own timers. The time has come to this moment, and nothing is due then.
pub record FindsNone (moment : ℕ) (old new : TimedCard) : Type 0 where
  pub timed : keeps_timers old ≡ true
  pub may : (moment_of old.timers ≤ moment) × (moment < 2 ^ 63)
  pub went : Went moment old new
  pub none : (m : Card) (c : Clock) → TimersStandIn old.timers m c → (c.now ≤ moment) × (moment < 2 ^ 63) × (due (at_moment moment c) ≡ None)

-- This timer of this line has fallen due: its expiry is a call of the card inside, which the report tells. It starts one timer
-- at most, so that what falls due at a moment comes to an end.
pub record Fell (named : ℕ × Timer) (report : BareReport) (old new : AnyCard) : Type 0 where
  pub within : named.0 < line_count old
  pub called : AnyCalled (frame.at named.0 (line.expiry named.1)) (line.told (told_beside None report)) old new
  pub starts_one : starts (listed report.orders) ≤ 1
