-- What layer 3 is granted at a line of a card of octets, by the card's answers alone.
use Rattle.std.specs.Prelude.{ℕ, ◌==◌, List, [], ◌∷◌, ◌++◌, map, flat_map, fold, if◌then◌else◌}
use Rattle.model_line.specs.declared.config.Config.{Config}
use Rattle.model_line.specs.Request.{Request}
use Rattle.laws_trace.specs.FramesAreRead.{contents_given}
use Rattle.laws_trace.specs.Units.{unit_asked, is_down}
use Rattle.model_card.specs.ports.Card.{fresh}
use Rattle.model_card.specs.ports.Event.{Event}
use Rattle.model_card.specs.ports.Port as port
use Rattle.model_card.specs.ports.Port.{Answer}
use Rattle.model_card.specs.ports.Run.{Moment, moments}

-- A request is granted where it is not refused.
abbrev pub if_granted : Request → Answer → List Request
if_granted r (port.told t) = r ∷ []
if_granted r other = []

abbrev pub request_granted : port.Event → Answer → List Request
request_granted (port.request r) answer = if_granted r answer
request_granted other answer = []

-- From a card as it begins: the requests that are granted at a line, in order,
abbrev pub requests_of : ℕ → Moment → List Request
requests_of number m = if m.event.line == number then request_granted m.event.what m.answer else []

abbrev pub requests_granted : Config → List Event → ℕ → List Request
requests_granted c events number = flat_map (requests_of number) (moments (fresh c) events)

-- the contents that these give to be sent,
abbrev pub contents_granted : Config → List Event → ℕ → List (List ℕ)
contents_granted c events number = map contents_given (requests_granted c events number)

-- and the UI commands that their unit data asks for: since the line was down last, and earlier, from each time that it was to the
-- next.
pub record Asked : Type 0 where
  pub earlier : List (List (List ℕ))
  pub since : List (List ℕ)

abbrev pub none_asked : Asked
none_asked = record { earlier = []; since = [] }

abbrev pub with_request : Config → Asked → Request → Asked
with_request c asked r =
    record {
      earlier = if is_down r then asked.earlier ++ asked.since ∷ [] else asked.earlier;
      since = if is_down r then [] else asked.since ++ unit_asked c r;
    }

abbrev pub units_to_hear : Config → List Event → ℕ → Asked
units_to_hear c events number = fold (with_request c) none_asked (requests_granted c events number)
