-- Links move as the procedures lead them.
use Rattle.std.specs.Prelude.{◌≡◌, ℕ, List, Some, None, if◌then◌else◌}
use Rattle.lapd_frame.specs.declared.services.Service.{Service}
use Rattle.model_line.specs.declared.config.Config.{Config}
use Rattle.model_card.specs.Card.{fresh, state}
use Rattle.model_card.specs.Event.{Event}
use Rattle.model_card.specs.Run.{after_all}
use Rattle.laws_trace.specs.Managing.{is_on}
use Rattle.laws_trace.specs.Observer.{view_of}

-- After every list of events `Card::state` tells the state of a link where the observer has it, and none where its TEI is
-- not on the line.
abbrev pub LinksMove : Config → List Event → ℕ → Type 0
LinksMove c events number =
    (service : Service) (tei : ℕ) → let v = view_of c service tei number events in
    state number service tei (after_all (fresh c) events) ≡ (if is_on tei v.teis then Some v.link.state else None)
