-- When two saved cards are the same, as far as a card can tell.
use Rattle.std.specs.List.{AllZip}
use Rattle.std.specs.Prelude.{◌≡◌, ℕ, ◌<◌, Option, None, Some}
use Rattle.lapd_clock.specs.Moments.{moment_of}
use Rattle.lapd_clock.specs.Timer.{Timer}
use Rattle.model_line.specs.Same.{IsSameLine}
use Rattle.model_timed.specs.Clock.{Clock}
use Rattle.model_image.specs.Images.{Saved}

-- Two clocks: each timer of each line falls due at the same moment, or runs at neither.
pub record IsSameClock (lines : ℕ) (c d : Clock) : Type 0 where
  pub lengths : c.lengths ≡ d.lengths
  pub now : c.now ≡ d.now
  pub running : (line : ℕ) (timer : Timer) → line < lines → moment_of line timer c.running ≡ moment_of line timer d.running

abbrev pub AreSameClocks : ℕ → Option Clock → Option Clock → Type 0
AreSameClocks lines None None = Unit {0}
AreSameClocks lines None (Some d) = ⊥
AreSameClocks lines (Some c) None = ⊥
AreSameClocks lines (Some c) (Some d) = IsSameClock lines c d

pub record IsSame (s t : Saved) : Type 0 where
  pub kind : s.of_octets ≡ t.of_octets
  pub config : s.card.config ≡ t.card.config
  pub lines : AllZip (IsSameLine s.card.config) s.card.lines t.card.lines
  pub counted : s.counted ≡ t.counted
  pub waits : s.waits ≡ t.waits
  pub clock : AreSameClocks s.card.config.lines s.clock t.clock
  pub changed : s.changed ≡ t.changed
