-- The counters of a line in an image.
use Rattle.std.specs.Prelude.{◌≡◌, ◌≤◌, ℕ, List, length, flat_map, All}
use Rattle.lapd_count.specs.Counters.{count, most}
use Rattle.lapd_count.specs.declared.counters.Counters.{Counters}
use Rattle.lapd_image.specs.Numbers.{number}

-- The 79 counters in the order of their places, each in eight octets.
abbrev pub counters : Counters → List ℕ
counters c = flat_map (number 8) c.values

-- A line has 79 counters of 64 bits.
pub record IsCounted (counters : Counters) : Type 0 where
  pub whole : length counters.values ≡ count
  pub few : All (λ value. value ≤ most) counters.values
