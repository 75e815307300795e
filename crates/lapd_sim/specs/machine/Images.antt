-- The image of the card that a script is played on, and what a script shows of it.
use Rattle.std.specs.Prelude.{ℕ, Bool, true, false, List, map, replicate, Some}
use Rattle.std.specs.List.{range_with_len}
use Rattle.model_bits.specs.Bits.{bits, number_of}
use Rattle.model_bits.specs.Check.{check}
use Rattle.model_card.specs.declared.kinds.CardKind.{CardKind}
use Rattle.model_card.specs.declared.kinds.CardKind.TheVariants.{Octets, Frames}
use Rattle.model_image.specs.Images.{Saved, image_of}
use Rattle.model_line.specs.declared.config.Config.{Config}
use Rattle.model_line.specs.Line.{link_count}
use Rattle.model_timed.specs.Changes.{Marks}
use Rattle.lapd_sim.specs.machine.Setup.{Setup}

abbrev pub is_octets : CardKind → Bool
is_octets Octets = true
is_octets Frames = false

-- Since when the links of a line are in their states, by their numbers; and those of all lines.
abbrev pub moment_of : Marks → ℕ → ℕ → ℕ
moment_of marks line number = (marks line number).moment

abbrev pub moments_of : Config → Marks → ℕ → List ℕ
moments_of c marks line = map (moment_of marks line) (range_with_len 0 (link_count c))

abbrev pub changed : Config → Marks → List (List ℕ)
changed c marks = map (moments_of c marks) (range_with_len 0 c.lines)

-- What is saved of the card: nobody asked to be told of room, so no link waits for it.
abbrev pub saved : Setup → Saved
saved b =
    let c = b.board.card.card.config in
    record {
      of_octets = is_octets b.board.kind;
      card = b.board.card.card;
      counted = b.counters;
      waits = replicate c.lines (replicate (link_count c) false);
      clock = Some b.clock;
      changed = changed c b.marks;
    }

unfoldable pub image : Setup → List ℕ
image b = image_of (saved b)

-- The sum of octets is the check of a frame of them (Q.921 clause 2.7), as a number.
unfoldable pub sum_of : List ℕ → ℕ
sum_of octets = number_of (check (bits octets))
