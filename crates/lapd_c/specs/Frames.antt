-- Whole frames in C.
use Rattle.std.specs.Prelude.{◌≡◌, ℕ, List, length, take, drop, Option}
use Rattle.model_bits.specs.Stream.{dropped}
use Rattle.model_line.specs.declared.faults.Fault.{Fault}
use Rattle.model_line.specs.Came.{came, cause_of}
use Rattle.model_line.specs.Event.{NextFrame, hears, next, given_in}
use Rattle.model_card.specs.Card.{Card}
use Rattle.model_card.specs.Event.{Event, at}
use Rattle.model_card.specs.Machine.{answer}

-- At a line of a card a frame comes; a fault is told in place of one; the next frame is called for.
abbrev pub frame_comes : ℕ → List ℕ → Card → Event
frame_comes line octets m = at line (hears (came m.config.n201 octets))

abbrev pub fails : ℕ → Fault → Event
fails line fault = at line (hears (dropped (cause_of fault)))

abbrev pub goes : ℕ → Event
goes line = at line next

-- The frame of a line that is next, if one waits.
abbrev pub next_at : ℕ → Card → Option NextFrame
next_at line m = given_in (answer (goes line) m)

-- It lies in front of the octets that it was written to, so long it is, and those behind it are as they were.
pub record IsGiven (next : NextFrame) (out out' : List ℕ) (count : ℕ) : Type 0 where
  pub whole : count ≡ length next.octets
  pub octets : take count out' ≡ next.octets
  pub rest : drop count out' ≡ drop count out
