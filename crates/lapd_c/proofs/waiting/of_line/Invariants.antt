-- The links from the last ones on are numbered.
use Rattle.std.proofs.Common.{◌≡◌, ◌-◌, ◌<◌, ◌^◌, map}
use Rattle.std.specs.List.{range_with_len}
use Rattle.lapd_card.specs.Kinds.{FrameCardStands}
use Rattle.model_bits.specs.Bits.{number_of}
use Rattle.model_card.specs.Card.{line_at, Card}
use Rattle.lapd_c.specs.Waiting.{is_waiting}
use Rattle.lapd_c.proofs.waiting.of_line.Given as goal

abbrev pub invariant-loop-behind : goal.invariant-loop-behind
invariant-loop-behind l = record {
  small : l.waits < 2 ^ l.behind;
  numbers : (m : Card) → FrameCardStands l.card m → l.waits ≡ number_of (map (is_waiting (line_at l.line m) l.links) (range_with_len (16 - l.behind) l.behind));
}
