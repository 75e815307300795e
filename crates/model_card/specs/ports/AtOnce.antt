-- When the pulls of a line take its next frame, and what goes out then (Q.921 clauses 2.2 to 2.7, and profile).
use Rattle.std.specs.Prelude.{◌≡◌, ℕ, ◌*◌, ◌<◌, Bool, nat_lt, List, [], ◌∷◌, ◌++◌, length, map, drop, Option, None, Some, if◌then◌else◌}
use Rattle.model_bits.specs.Bits.{bits}
use Rattle.model_bits.specs.Sent.{Item, idle, frame, line_text}
use Rattle.model_line.specs.declared.config.Config.{Config}
use Rattle.model_line.specs.Event.{NextFrame, next}
use Rattle.model_card.specs.Event as frames
use Rattle.model_card.specs.ports.Card.{fresh}
use Rattle.model_card.specs.ports.Event.{Event, at}
use Rattle.model_card.specs.ports.GoingOut.{octets_given, calls_answered}
use Rattle.model_card.specs.ports.Port.{pull}
use Rattle.model_card.specs.ports.Promises.{moments_meant}
use Rattle.model_card.specs.ports.Run.{meant_all}

-- The text of a line: one opening flag, and for each call for the next frame, in order, the frame that it gave, with its check
-- and a flag, or one flag where it gave none. Nothing else stands in it, so nothing before a frame.
abbrev pub item_given : Option NextFrame → Item
item_given None = idle
item_given (Some given) = frame given.octets

abbrev pub text_of_calls : Config → List Event → ℕ → List Bool
text_of_calls c events number = line_text (map item_given (calls_answered number (moments_meant c events)))

-- The bits of it that the octets pulled have not given.
abbrev pub left_to_give : Config → List Event → ℕ → List Bool
left_to_give c events number = drop (8 * length (octets_given c events number)) (text_of_calls c events number)

-- From a card as it begins, after any events: the octets pulled of a line are the text so far, but for what is left; and one more pull
-- of the line calls for its next frame where fewer than eight bits are left, and means nothing where there are more.
pub record FramesGoAtOnce : Type 0 where
  pub text : (c : Config) (events : List Event) (number : ℕ) → number < c.lines →
      text_of_calls c events number ≡ bits (octets_given c events number) ++ left_to_give c events number
  pub calls : (c : Config) (events : List Event) (number : ℕ) → number < c.lines →
      meant_all (fresh c) (events ++ at number pull ∷ [])
      ≡ meant_all (fresh c) events ++ (if nat_lt (length (left_to_give c events number)) 8 then frames.at number next ∷ [] else [])
