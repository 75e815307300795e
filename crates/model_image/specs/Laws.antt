-- What holds of images. Their sentences stand in `src/laws.rt`.
use Rattle.std.specs.List.{AllZip}
use Rattle.std.specs.Prelude.{◌≡◌, ◌<◌, ◌≤◌, Bool, List, length, None, Some, IfSome, is_some}
use Rattle.lapd_clock.specs.Timer.{Lengths, AreInRange}
use Rattle.model_bits.specs.StuffingLaws.{AreOctets}
use Rattle.model_link.specs.declared.terms.Terms.{Terms}
use Rattle.model_link.specs.Events.{Event}
use Rattle.model_link.specs.Link.{Link}
use Rattle.model_link.specs.Machine.{after, given, told}
use Rattle.model_link.specs.Sound as links
use Rattle.model_line.specs.declared.config.Config.{Config}
use Rattle.model_line.specs.Sound.{IsInRange}
use Rattle.model_card.specs.Card.{Card}
use Rattle.model_card.specs.Event.{Event as CardEvent}
use Rattle.model_card.specs.Run.{run, AreAtLines}
use Rattle.model_card.specs.Sound.{IsSound}
use Rattle.model_timed.specs.Clock.{stopped}
use Rattle.model_image.specs.Images.{Saved, begun, image_of}
use Rattle.model_line.specs.Most.{most_octets}
use Rattle.model_link.specs.Same.{IsSameLink}
use Rattle.model_line.specs.Same.{IsSameLine}
use Rattle.model_image.specs.Same.{IsSame}
use Rattle.model_image.specs.Sound.{IsSaved}

-- A card that has just begun is saved, whether it keeps its own timers or not.
pub record CardsBeginSaved : Type 0 where
  pub untimed : (of_octets : Bool) (c : Config) → IsInRange c → IfSome c.seed (λ n. n < 65536) → IsSaved (begun of_octets c None)
  pub timed : (of_octets : Bool) (c : Config) (lengths : Lengths) → IsInRange c → IfSome c.seed (λ n. n < 65536) → AreInRange lengths
      → IsSaved (begun of_octets c (Some (stopped lengths)))

abbrev pub ImagesAreRead : Type 0
ImagesAreRead = (s t : Saved) → IsSaved s → IsSaved t → image_of s ≡ image_of t → IsSame s t

-- What two links answer to an event, what they give next, and what they are after it.
pub record GoesOn (t : Terms) (e : Event) (l m : Link) : Type 0 where
  pub told : told t e l ≡ told t e m
  pub given : given t l ≡ given t m
  pub after : IsSameLink (after t e l) (after t e m)

abbrev pub LinksGoOn : Type 0
LinksGoOn = (t : Terms) (e : Event) (l m : Link) → links.IsSound t l → links.IsSound t m → IsSameLink l m → GoesOn t e l m

-- Two cards whose lines are the same, one by one; and what they answer to a list of events, and are after it.
pub record AreSameCards (card other : Card) : Type 0 where
  pub config : card.config ≡ other.config
  pub lines : AllZip (IsSameLine card.config) card.lines other.lines

pub record CardGoesOn (card other : Card) (events : List CardEvent) : Type 0 where
  pub replies : (run card events).replies ≡ (run other events).replies
  pub then_same : AreSameCards (run card events).card (run other events).card

abbrev pub CardsGoOn : Type 0
CardsGoOn = (card other : Card) (events : List CardEvent) → IsSound card → IsSound other → AreSameCards card other → AreAtLines card events → CardGoesOn card other events

abbrev pub ImagesTellNoMore : Type 0
ImagesTellNoMore = (s t : Saved) → IsSaved s → IsSaved t → IsSame s t → image_of s ≡ image_of t

abbrev pub ImagesAreOctets : Type 0
ImagesAreOctets = (s : Saved) → IsSaved s → AreOctets (image_of s)

abbrev pub ImagesFit : Type 0
ImagesFit = (s : Saved) → IsSaved s → length (image_of s) ≤ most_octets s.card.config (is_some s.clock)
