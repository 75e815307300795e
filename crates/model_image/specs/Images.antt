-- The image of a card: what is saved of it, and the octets that spell this.
use Rattle.std.specs.Prelude.{ℕ, Bool, false, replicate, List, [], ◌∷◌, ◌++◌, flat_map, Option, None, Some, is_some}
use Rattle.lapd_count.specs.Counters.{none_counted}
use Rattle.lapd_count.specs.declared.counters.Counters.{Counters}
use Rattle.model_bits.specs.Bits.{number_of}
use Rattle.model_line.specs.declared.config.Config.{Config}
use Rattle.model_line.specs.Line.{link_count}
use Rattle.model_card.specs.Card.{Card, fresh}
use Rattle.model_timed.specs.Clock.{Clock}
use Rattle.lapd_image.specs.Numbers.{number}
use Rattle.model_line.specs.ConfigImage.{config}
use Rattle.lapd_count.specs.Image.{counters}
use Rattle.model_line.specs.Image.{line}
use Rattle.model_image.specs.Clocks.{clock}

pub record Saved : Type 0 where
  -- it is a card of octets, whose ports begin anew once it is restored; otherwise one of frames
  pub of_octets : Bool
  pub card : Card
  -- what was counted of each line
  pub counted : List Counters
  -- for each line, whether each of its links waits for room, by their numbers
  pub waits : List (List Bool)
  -- the timers, if the card keeps its own
  pub clock : Option Clock
  -- and then for each line the moment at which the state of each of its links changed last, by their numbers
  pub changed : List (List ℕ)

-- No state has changed since the start: 0 for each link of a card that keeps its own timers (profile).
abbrev pub none_changed : Config → Option Clock → List (List ℕ)
none_changed c None = []
none_changed c (Some clock) = replicate c.lines (replicate (link_count c) 0)

-- A card as it begins.
abbrev pub begun : Bool → Config → Option Clock → Saved
begun of_octets c clock = record {
  of_octets = of_octets;
  card = fresh c;
  counted = replicate c.lines none_counted;
  waits = replicate c.lines (replicate (link_count c) false);
  clock = clock;
  changed = none_changed c clock;
}

-- Which links of a line wait, in two octets: from bit 1 on, by their numbers.
abbrev pub marks : List Bool → List ℕ
marks waits = number 2 (number_of waits)

-- The moments at which the states of the links of a line changed last, in eight octets each.
abbrev pub changes : List ℕ → List ℕ
changes moments = flat_map (number 8) moments

-- "LAPD" in ASCII; the version, 1; and the kind, bit 1 of a card of octets, and bit 2 of one that keeps its own timers.
abbrev pub head : Saved → List ℕ
head s = 76 ∷ 65 ∷ 80 ∷ 68 ∷ 1 ∷ number_of (s.of_octets ∷ is_some s.clock ∷ []) ∷ []

-- Then the configuration; all lines; the counters of all lines; the links that wait for room, line by line; the clock; and when
-- states changed, line by line.
abbrev pub image_of : Saved → List ℕ
image_of s =
    head s ++ (config s.card.config ++ (flat_map (line s.card.config) s.card.lines
    ++ (flat_map counters s.counted ++ (flat_map marks s.waits ++ (clock s.card s.clock ++ flat_map changes s.changed)))))
