-- A clock in an image.
use Rattle.std.specs.Prelude.{◌≡◌, ◌≤◌, ◌<◌, ℕ, ◌+◌, ◌*◌, ◌/◌, List, [], ◌∷◌, ◌++◌, length, flat_map, All}
use Rattle.lapd_image.specs.Numbers.{number, list_of}
use Rattle.lapd_clock.specs.Firsts.{never}
use Rattle.lapd_clock.specs.Places.{in_order, on_line, IsOfCard}
use Rattle.lapd_clock.specs.Sound.{IsSound}
use Rattle.lapd_clock.specs.Timer.{Lengths, kind_rank, service_rank, tei_rank}
use Rattle.lapd_clock.specs.Timers.{Expiry, Timers}
use Rattle.lapd_clock.specs.declared.held.Held.{Held}

-- A timer that runs. One octet each: which it is, 0 for T200, 1 for T203, 2 for T201 and 3 for T202; the TEI of its link; and 1
-- for packet mode. T201 and T202 have 0 there. Then, in eight octets, the moment at which it falls due.
abbrev pub timer : Held → List ℕ
timer h = kind_rank h.timer ∷ tei_rank h.timer ∷ service_rank h.timer ∷ number 8 h.moment

-- How long T200, T203, T201 and T202 run, in four octets each.
abbrev pub lengths : Lengths → List ℕ
lengths l = number 4 l.t200 ++ (number 4 l.t203 ++ (number 4 l.t201 ++ number 4 l.t202))

-- "LAPD" in ASCII; the version, 1; and the kind, bit 3 of a clock. Then how many lines it has, and terminals of each; how long
-- timers run; and line by line those that run, in whichever order.
abbrev pub image : Timers → List (List Held) → List ℕ
image c lines = 76 ∷ 65 ∷ 80 ∷ 68 ∷ 1 ∷ 4 ∷ c.lines ∷ c.places / 4 ∷ (lengths c.lengths ++ flat_map (list_of timer) lines)

-- So many octets it has at most.
abbrev pub most_octets : Timers → ℕ
most_octets c = 24 + c.lines * (1 + 11 * c.places)

-- These are the timers of a clock, line by line.
unfoldable pub from_lists : ℕ → List (List Held) → List Expiry
from_lists line [] = []
from_lists line (hs ∷ more) = on_line line hs ++ from_lists (line + 1) more

pub record AreItsTimers (c : Timers) (lines : List (List Held)) : Type 0 where
  pub each : length lines ≡ c.lines
  pub running : in_order (from_lists 0 lines) ≡ c.running

-- A clock that may be saved: its timers are of TEIs that a terminal may have, and fall due some time.
pub record IsSaved (c : Timers) : Type 0 where
  pub sound : IsSound c
  pub of_card : IsOfCard c.places c.lines
  pub teis : All (λ e. tei_rank e.timer ≤ 126) c.running
  pub moments : All (λ e. e.moment < never) c.running

-- These octets are the image of a clock; or that of none that may be saved.
pub record IsRead (octets : List ℕ) (c : Timers) : Type 0 where
  pub lines : List (List Held)
  pub saved : IsSaved c
  pub timers : AreItsTimers c lines
  pub octets_are : octets ≡ image c lines

abbrev pub IsNoImage : List ℕ → Type 0
IsNoImage octets = (c : Timers) (lines : List (List Held)) → IsSaved c → AreItsTimers c lines → octets ≡ image c lines → ⊥
