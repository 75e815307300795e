-- Laws of whole runs of octets. Each holds for every list of events, and so for every front of a list.
use Rattle.std.specs.Prelude.{◌≡◌, ℕ, List, map, length}
use Rattle.model_line.specs.declared.config.Config.{Config}
use Rattle.model_line.specs.Sound.{IsInRange}
use Rattle.model_card.specs.ports.Port.{Answer}
use Rattle.model_card.specs.ports.Card.{OctetCard, fresh}
use Rattle.model_card.specs.ports.Codec.{IsCodec}
use Rattle.model_card.specs.ports.Drops.{AreDropsWithoutCost, AreDropsWithoutEffect}
use Rattle.model_card.specs.ports.Event.{Event}
use Rattle.model_card.specs.ports.Promises.{IsWithinLimit, HasSixOctetsAFrame, HasSevenOctetsAReject, IsLinear, IsIsolated}
use Rattle.model_card.specs.ports.Run.{Moment, run, moments, after_all, AreAtLines}
use Rattle.model_card.specs.ports.Sound.{IsSoundOctetCard}

-- A run as one fold is its moments.
abbrev pub reply_of : Moment → ℕ × Answer
reply_of m = (m.event.line, m.answer)

pub record RunIsMoments : Type 0 where
  pub card : (m : OctetCard) (events : List Event) → (run m events).card ≡ after_all m events
  pub replies : (m : OctetCard) (events : List Event) → (run m events).replies ≡ map reply_of (moments m events)

-- The law of the codec.
abbrev pub OctetsAreACodec : Type 0
OctetsAreACodec = (m : OctetCard) (events : List Event) → length m.ports ≡ m.card.config.lines → IsCodec m events

-- A card of octets is sound as it begins, and stays so.
pub record CardsStaySound : Type 0 where
  pub begins : (c : Config) → IsInRange c → IsSoundOctetCard (fresh c)
  pub always : (m : OctetCard) (events : List Event) → IsSoundOctetCard m → AreAtLines m events → IsSoundOctetCard (after_all m events)

-- It never stores more octets than its limit.
abbrev pub StoredWithinLimit : Type 0
StoredWithinLimit = (m : OctetCard) (events : List Event) → IsSoundOctetCard m → AreAtLines m events → IsWithinLimit m events

-- What is dropped costs nothing, is all that is told, and changes nothing but the octets received.
pub record DropsAreWithoutEffect : Type 0 where
  pub cost : (m : OctetCard) (events : List Event) → IsSoundOctetCard m → AreAtLines m events → AreDropsWithoutCost m events
  pub effect : (m : OctetCard) (events : List Event) → AreDropsWithoutEffect m events

-- From a fresh card on a frame has six octets of its own at least, with its check and a flag, and an REJ seven; so the frames
-- sent are linear in the octets received, the accepted requests and the expiries.
pub record FramesLinear : Type 0 where
  pub frames : (c : Config) (events : List Event) → IsInRange c → AreAtLines (fresh c) events → HasSixOctetsAFrame c events
  pub rejects : (c : Config) (events : List Event) → IsInRange c → AreAtLines (fresh c) events → HasSevenOctetsAReject c events
  pub linear : (c : Config) (events : List Event) → IsInRange c → AreAtLines (fresh c) events → IsLinear c events

-- From a fresh card on, what a line answers except for a full pool is what it would answer on a card of its own, to the
-- events at it that did not find the pool full.
abbrev pub LinesIsolated : Type 0
LinesIsolated = (c : Config) (events : List Event) → IsInRange c → AreAtLines (fresh c) events → IsIsolated c events
