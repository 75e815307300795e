-- Which links a line is told to have, in words of their own.
use Rattle.std.specs.Prelude.{◌≡◌, ◌≤◌, ◌<◌, ◌+◌, ◌*◌, ℕ, [], ◌∷◌, Some, None}
use Rattle.lapd_frame.specs.declared.services.Service.{Service}
use Rattle.lapd_frame.specs.declared.services.Service.TheVariants.{Call, Packet}
use Rattle.lapd_frame.specs.Services.{sapi_of}
use Rattle.model_card.specs.Card.{Card, state}
use Rattle.lapd_c.specs.Links.{IsNext, NoneFrom}
use Rattle.lapd_c.specs.declared.plain.links.PlainLink.{PlainLink}

-- Links go by TEI, call control before packet.
abbrev pub turn : Service → ℕ → ℕ
turn Call tei = 2 * tei
turn Packet tei = 2 * tei + 1

-- There is no link from one turn on, up to another.
abbrev pub NoneBetween : ℕ → Card → ℕ → ℕ → Type 0
NoneBetween line m from to = (service : Service) (tei : ℕ) → from ≤ turn service tei → turn service tei < to → state line service tei m ≡ None

-- A link that is told is on the line, in its state; and it is the first of those left. What is for a later version is 0.
pub record IsTheFirst (line : ℕ) (m : Card) (from to : ℕ) (link : PlainLink) : Type 0 where
  pub service : Service
  pub of_service : link.service ≡ sapi_of service
  pub in_state : state line service link.tei m ≡ Some link.state
  pub left : from ≤ turn service link.tei
  pub before : NoneBetween line m from (turn service link.tei)
  pub next : to ≡ turn service link.tei + 1
  pub tail : link.reserved ≡ 0 ∷ 0 ∷ 0 ∷ 0 ∷ 0 ∷ []

-- If none is told, no link of a TEI that a terminal can have is left.
pub record LinksAreTold : Type 0 where
  pub told : (line from to : ℕ) (m : Card) (link : PlainLink) → IsNext line m from to link → IsTheFirst line m from to link
  pub none : (line from tei : ℕ) (m : Card) (service : Service) → NoneFrom line m from → tei ≤ 126 → from ≤ turn service tei → state line service tei m ≡ None
