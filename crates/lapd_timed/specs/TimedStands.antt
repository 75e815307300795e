-- What a card with its timers stands for: a timed card of its kind. One that keeps none stands for no such card.
use Rattle.std.specs.Prelude.{Option}
use Rattle.lapd_card.specs.Kinds.{alone, with_ports, AnyStands}
use Rattle.lapd_card.specs.declared.kinds.AnyCard.{AnyCard}
use Rattle.model_card.specs.Event as frame
use Rattle.model_card.specs.ports.Event as octet
use Rattle.model_timed.specs.Changes.{Marks, marked, inside, itself}
use Rattle.model_timed.specs.Frames as frames
use Rattle.model_timed.specs.Octets as octets
use Rattle.model_timed.specs.Timed.{Step}
use Rattle.lapd_timed.specs.Stands.{ChangesStandIn, TimersStandIn}
use Rattle.lapd_timed.specs.declared.card_timers.CardTimers.{CardTimers}
use Rattle.lapd_timed.specs.declared.timed_card.TimedCard.{TimedCard}

-- Its card is one of octets, or one of frames, and stands for that of the machine; its timers stand for the clock beside.
pub record AreOctets (card : AnyCard) (timers : Option CardTimers) (t : octets.TimedOctetCard) : Type 0 where
  pub card_stands : AnyStands card (with_ports t.card)
  pub timers_stand : TimersStandIn timers t.card.card t.clock

pub record AreFrames (card : AnyCard) (timers : Option CardTimers) (t : frames.TimedCard) : Type 0 where
  pub card_stands : AnyStands card (alone t.card)
  pub timers_stand : TimersStandIn timers t.card t.clock

abbrev pub OctetsStand : TimedCard → octets.TimedOctetCard → Type 0
OctetsStand c t = AreOctets c.card c.timers t

abbrev pub FramesStand : TimedCard → frames.TimedCard → Type 0
FramesStand c t = AreFrames c.card c.timers t

-- What is noted of the links is so of those of the card after a step, too.
abbrev pub OctetsMarked : Step octet.Event → TimedCard → TimedCard → Type 0
OctetsMarked s old new =
    (t : octets.TimedOctetCard) (marks : Marks) → OctetsStand old t → ChangesStandIn old.timers t.card.card marks
    → ChangesStandIn new.timers (octets.after s t).card.card (marked inside (octets.after s t) marks)

abbrev pub FramesMarked : Step frame.Event → TimedCard → TimedCard → Type 0
FramesMarked s old new =
    (t : frames.TimedCard) (marks : Marks) → FramesStand old t → ChangesStandIn old.timers t.card marks
    → ChangesStandIn new.timers (frames.after s t).card (marked itself (frames.after s t) marks)

-- A step leads a card of either kind from one value to another.
pub record Steps (of_octets : Step octet.Event) (of_frames : Step frame.Event) (old new : TimedCard) : Type 0 where
  pub octets : (t : octets.TimedOctetCard) → OctetsStand old t → OctetsStand new (octets.after of_octets t)
  pub frames : (t : frames.TimedCard) → FramesStand old t → FramesStand new (frames.after of_frames t)
  pub octets_marked : OctetsMarked of_octets old new
  pub frames_marked : FramesMarked of_frames old new
