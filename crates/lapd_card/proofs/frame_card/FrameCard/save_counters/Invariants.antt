-- The invariants of the loops of `FrameCard::save_counters`.
use Rattle.std.specs.Prelude.{All, flat_map, take}
use Rattle.lapd_card.specs.Counted.{counters_in}
use Rattle.lapd_count.specs.Image.{counters, IsCounted}
use Rattle.lapd_image.specs.Puts.{Puts}
use Rattle.lapd_card.proofs.frame_card.FrameCard.save_counters.Given as goal

-- those of the lines so far are put, and may be saved
abbrev pub invariant-loop-line : goal.invariant-loop-line
invariant-loop-line g l = record {
  puts : Puts (flat_map counters (take l.line-index (counters_in l.self.lines))) l.fn.at l.fn.out l.end l.out;
  saved : All IsCounted (take l.line-index (counters_in l.self.lines));
}
