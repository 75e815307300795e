-- What a receiver hears in the octets that a line's pulls give (Q.921 clauses 2.2 to 2.7 and 2.9).
use Rattle.std.specs.Prelude.{◌≡◌, ◌==◌, ◌≤◌, ◌<◌, ◌%◌, ℕ, List, [], ◌∷◌, ◌++◌, length, map, flat_map, Option, None, if◌then◌else◌}
use Rattle.model_bits.specs.Stream as stream
use Rattle.model_line.specs.declared.config.Config.{Config}
use Rattle.model_line.specs.Event as line
use Rattle.model_line.specs.Event.{NextFrame}
use Rattle.model_line.specs.Sound.{IsInRange}
use Rattle.model_card.specs.Run as runs
use Rattle.model_card.specs.ports.Card.{fresh}
use Rattle.model_card.specs.ports.Codec.{octets_pulled}
use Rattle.model_card.specs.Takes.{frames_given}
use Rattle.model_card.specs.ports.Event.{Event}
use Rattle.model_card.specs.ports.Promises.{moments_meant}
use Rattle.model_card.specs.ports.Run.{moments, AreAtLines}

-- Of a number an octet goes out: its eight low bits, so those of 0 to 255 as they are.
abbrev pub as_octets : List ℕ → List ℕ
as_octets numbers = map (λ n. n % 256) numbers

-- What a receiver hears in octets are these frames, in order, whole, each once; the last may be on its way.
pub record GoOut (n201 : ℕ) (octets : List ℕ) (frames : List (List ℕ)) : Type 0 where
  pub on_its_way : List (List ℕ)
  pub one : length on_its_way ≤ 1
  pub heard : map stream.frame frames ≡ stream.heard_in n201 octets ++ map stream.frame on_its_way

-- From a card as it begins: the octets that a line's pulls gave, and the frames that the card of frames gave there.
abbrev pub octets_given : Config → List Event → ℕ → List ℕ
octets_given c events number = octets_pulled number (moments (fresh c) events)

abbrev pub frames_to_hear : Config → List Event → ℕ → List (List ℕ)
frames_to_hear c events number = frames_given number (moments_meant c events)

abbrev pub GivenGoOut : Config → List Event → ℕ → Type 0
GivenGoOut c events number = GoOut c.n201 (octets_given c events number) (map as_octets (frames_to_hear c events number))

-- What the calls for the next frame of a line are answered with, in order.
abbrev pub answer_of_call : line.Answer → List (Option NextFrame)
answer_of_call (line.gave next) = next ∷ []
answer_of_call other = []

abbrev pub call_answered : ℕ → runs.Moment → List (Option NextFrame)
call_answered number m = if m.event.line == number then answer_of_call m.answer else []

abbrev pub calls_answered : ℕ → List runs.Moment → List (Option NextFrame)
calls_answered number ms = flat_map (call_answered number) ms

-- Where the latest call gave none, a flag stands behind each frame, and none is on its way.
abbrev pub AllGivenAreHeard : Config → List Event → ℕ → Type 0
AllGivenAreHeard c events number =
    (before : List (Option NextFrame)) → calls_answered number (moments_meant c events) ≡ before ++ None ∷ [] →
    map stream.frame (map as_octets (frames_to_hear c events number)) ≡ stream.heard_in c.n201 (octets_given c events number)

-- Of each line of a card, and every list of events.
abbrev pub OfEachLine : (Config → List Event → ℕ → Type 0) → Type 0
OfEachLine P = (c : Config) (events : List Event) (number : ℕ) → IsInRange c → AreAtLines (fresh c) events → number < c.lines → P c events number

pub record GivenFramesAreHeard : Type 0 where
  pub so_far : OfEachLine GivenGoOut
  pub all : OfEachLine AllGivenAreHeard
