-- How a clock comes to its timers again as its image is read: one by one, line by line.
use Rattle.std.specs.Prelude.{◌≡◌, ℕ, ◌+◌, ◌<◌, ◌≤◌, false, List, [], ◌∷◌, ◌++◌, length, flat_map}
use Rattle.lapd_image.specs.Numbers.{list_of}
use Rattle.lapd_image.specs.Reads.{IsReadAs}
use Rattle.lapd_clock.specs.Firsts.{never}
use Rattle.lapd_clock.specs.Image.{lengths, timer}
use Rattle.lapd_clock.specs.Places.{expiry_on}
use Rattle.lapd_clock.specs.Timer.{Lengths, Timer, AreInRange, kind_rank, service_rank, tei_rank}
use Rattle.lapd_clock.specs.Timers.{Timers, count_on, is_held, with_expiry}
use Rattle.lapd_clock.specs.declared.held.Held.{Held}

-- One that a clock can hold.
pub record IsTimer (h : Held) : Type 0 where
  pub tei : tei_rank h.timer ≤ 126
  pub moment : h.moment < never

-- It does not run on the line, which has a place for it.
pub record IsFree (c : Timers) (line : ℕ) (h : Held) : Type 0 where
  pub timer : IsTimer h
  pub free : is_held line h.timer c.running ≡ false
  pub room : count_on line c.running < c.places

-- The clock with it, with the timers of a line, and with those of the lines from one on.
abbrev pub with_held : Timers → ℕ → Held → Timers
with_held c line h = record c { running = with_expiry (expiry_on line h) c.running }

abbrev pub with_line : Timers → ℕ → List Held → Timers
with_line c line [] = c
with_line c line (h ∷ hs) = with_line (with_held c line h) line hs

abbrev pub with_lines : Timers → ℕ → List (List Held) → Timers
with_lines c line [] = c
with_lines c line (hs ∷ more) = with_lines (with_line c line hs) (line + 1) more

-- Each of them is free as its turn comes.
abbrev pub AreFree : Timers → ℕ → List Held → Type 0
AreFree c line [] = Unit {0}
AreFree c line (h ∷ hs) = IsFree c line h × AreFree (with_held c line h) line hs

abbrev pub AreFreeLines : Timers → ℕ → List (List Held) → Type 0
AreFreeLines c line [] = Unit {0}
AreFreeLines c line (hs ∷ more) = AreFree c line hs × AreFreeLines (with_line c line hs) (line + 1) more

-- A timer of a line was read, and runs then; so the timers of a line, and those of all lines.
abbrev pub ReadsTimer : ℕ → List ℕ → List ℕ → Timers → Timers → Type 0
ReadsTimer line front rest old new = (h : Held) × IsReadAs timer (IsFree old line) h front rest × (new ≡ with_held old line h)

abbrev pub ReadsLine : ℕ → List ℕ → List ℕ → Timers → Timers → Type 0
ReadsLine line front rest old new = (hs : List Held) × IsReadAs (list_of timer) (AreFree old line) hs front rest × (new ≡ with_line old line hs)

abbrev pub ReadsLines : List ℕ → List ℕ → Timers → Timers → Type 0
ReadsLines front rest old new =
    (lines : List (List Held)) × (length lines ≡ old.lines) × IsReadAs (flat_map (list_of timer)) (AreFreeLines old 0) lines front rest × (new ≡ with_lines old 0 lines)

abbrev pub HasNoLines : List ℕ → Timers → Type 0
HasNoLines front old = (lines : List (List Held)) (rest : List ℕ) → length lines ≡ old.lines → AreFreeLines old 0 lines → front ≡ flat_map (list_of timer) lines ++ rest → ⊥

-- What stands before the lines, and its first octets.
abbrev pub word : List ℕ
word = 76 ∷ 65 ∷ 80 ∷ 68 ∷ 1 ∷ 4 ∷ []

abbrev pub head : ℕ → ℕ → Lengths → List ℕ
head lines terminals l = word ++ (lines ∷ terminals ∷ lengths l)

pub record IsHead (lines terminals : ℕ) (l : Lengths) (front rest : List ℕ) : Type 0 where
  pub lines_are : (1 ≤ lines) × (lines ≤ 64)
  pub terminals_are : (1 ≤ terminals) × (terminals ≤ 8)
  pub range : AreInRange l
  pub octets : front ≡ head lines terminals l ++ rest

abbrev pub HasNoHead : List ℕ → Type 0
HasNoHead front = (lines terminals : ℕ) (l : Lengths) (rest : List ℕ) → IsHead lines terminals l front rest → ⊥

-- The timer of these ranks.
pub record HasRanks (which tei service : ℕ) (t : Timer) : Type 0 where
  pub which_is : kind_rank t ≡ which
  pub tei_is : tei_rank t ≡ tei
  pub service_is : service_rank t ≡ service
  pub few : tei ≤ 126
