-- What a framer's fields say is left to give, and a stuffed text as it is made. No clause of its surface names these.
use Rattle.std.specs.Prelude.{ℕ, ◌+◌, ◌*◌, Bool, List, ◌++◌, take, drop}
use Rattle.model_bits.specs.Bits.{low_bits, bits}
use Rattle.lapd_bits.specs.Stuffer.{last_ones}
use Rattle.lapd_bits.specs.declared.stuffed_text.StuffedText.{StuffedText}
use Rattle.lapd_bits.specs.declared.waiting.Waiting.{Waiting}

-- The bits that wait.
abbrev pub waits : Waiting → List Bool
waits waiting = low_bits waiting.count waiting.bits

-- What is left of octets in a buffer, from one place up to another, and of the bits after them.
abbrev pub to_give : List ℕ → ℕ → ℕ → Waiting → List Bool
to_give octets next end waiting = bits (drop next (take end octets)) ++ waits waiting

-- The text in a buffer up to now, and the bits after it.
abbrev pub made : StuffedText → List ℕ → List Bool
made text octets = bits (take text.end octets) ++ waits text.waiting

-- Five times the bits of it, and its last 1s. A bit adds at most six: itself, and a 0 for each five 1s.
abbrev pub fifths : StuffedText → ℕ
fifths text = 5 * (8 * text.end + text.waiting.count) + last_ones text.latest
