-- The invariant of the loop of `put_number`.
use Rattle.std.proofs.Common.{◌≡◌, ◌-◌, ◌++◌, List, ℕ}
use Rattle.lapd_image.specs.Numbers.{number}
use Rattle.lapd_image.specs.Puts.{Puts}
use Rattle.lapd_image.proofs.writing.put_number.Given as goal

-- the low octets are put, and what is left are those of the high part
abbrev pub invariant-loop : goal.invariant-loop
invariant-loop l =
    (low : List ℕ) × Puts low l.at l.fn.out l.place l.out × (number l.octets l.n ≡ low ++ number (l.octets - l.counter) l.high)
