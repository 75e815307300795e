-- Calls for the next frame of one line among the events of a card, and the frames that they give.
use Rattle.std.specs.Prelude.{◌≡◌, ℕ, ◌+◌, ◌==◌, ◌&&◌, Bool, true, false, List, [], ◌∷◌, flat_map, All, option_map, option_to_list, if◌then◌else◌}
use Rattle.model_line.specs.Event as line
use Rattle.model_line.specs.Event.{NextFrame, next, given_in}
use Rattle.model_card.specs.Event.{Event}
use Rattle.model_card.specs.Run.{Moment}

-- What happens at a line are calls for its next frame; at the others anything may. And how many they are.
abbrev pub AreTakesAt : ℕ → List Event → Type 0
AreTakesAt number events = All (λ e. e.line ≡ number → e.what ≡ next) events

abbrev pub takes_at : ℕ → List Event → ℕ
takes_at number [] = 0
takes_at number (e ∷ events) = (if e.line == number then 1 else 0) + takes_at number events

-- Or anything happens at the line, too. How many of these events are calls for its next frame.
abbrev pub is_take : line.Event → Bool
is_take next = true
is_take other = false

abbrev pub takes_of : ℕ → List Event → ℕ
takes_of number [] = 0
takes_of number (e ∷ events) = (if e.line == number && is_take e.what then 1 else 0) + takes_of number events

-- The frames that are given at a line in some moments, in order.
abbrev pub octets_of : NextFrame → List ℕ
octets_of frame = frame.octets

abbrev pub given_of : ℕ → Moment → List (List ℕ)
given_of number m = if m.event.line == number then option_to_list (option_map octets_of (given_in m.answer)) else []

abbrev pub frames_given : ℕ → List Moment → List (List ℕ)
frames_given number ms = flat_map (given_of number) ms
