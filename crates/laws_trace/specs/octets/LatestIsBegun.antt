-- What a card of octets tells of the frame that a pull of a line began last.
use Rattle.std.specs.Prelude.{◌≡◌, ℕ, List, [], fold}
use Rattle.model_bits.specs.Heads.{head_of}
use Rattle.model_line.specs.declared.config.Config.{Config}
use Rattle.model_card.specs.ports.Begun.{head_begun_at}
use Rattle.model_card.specs.ports.Card.{fresh}
use Rattle.model_card.specs.ports.Event.{Event}
use Rattle.model_card.specs.ports.GoingOut.{frames_to_hear}
use Rattle.model_card.specs.ports.Run.{after_all}

-- The latest of some frames; no octets where there is none.
abbrev pub later_of : List ℕ → List ℕ → List ℕ
later_of frame later = later

abbrev pub last_among : List (List ℕ) → List ℕ
last_among frames = fold later_of [] frames

-- It is how the latest frame begins that the card of frames gave there, and nothing else that happens changes it (profile).
abbrev pub LatestIsBegun : Config → List Event → ℕ → Type 0
LatestIsBegun c events number = head_begun_at number (after_all (fresh c) events) ≡ head_of (last_among (frames_to_hear c events number))
