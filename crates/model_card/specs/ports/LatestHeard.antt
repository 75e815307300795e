-- What a card of octets tells of the frame that a line of it heard last.
use Rattle.std.specs.Prelude.{◌≡◌, ℕ, ◌+◌, ◌<◌, false, List, ◌∷◌, ◌++◌, All, None, Some}
use Rattle.model_bits.specs.Heads.{head_of}
use Rattle.model_bits.specs.Stream.{Event, frame, overlong}
use Rattle.model_line.specs.Counts.{is_frame}
use Rattle.model_line.specs.declared.config.Config.{Config}
use Rattle.model_card.specs.ports.Card.{fresh}
use Rattle.model_card.specs.ports.Codec.{heard_at}
use Rattle.model_card.specs.ports.Event as octets
use Rattle.model_card.specs.ports.HeadHeard.{head_heard_at}
use Rattle.model_card.specs.ports.Run.{after_all, meant_all}

-- Nothing of this is a frame: each is what is dropped in place of one.
abbrev pub AreDropped : List Event → Type 0
AreDropped events = All (λ e. is_frame e ≡ false) events

-- Where what a line heard last is a frame, apart from what is dropped, its beginning is told; of one that is too long its first four
-- octets, and the least length that is too long; and where it heard none, nothing.
pub record IsLatest (c : Config) (events : List octets.Event) (number : ℕ) (heard : List Event) : Type 0 where
  pub whole : (earlier later : List Event) (octets : List ℕ) → heard ≡ earlier ++ frame octets ∷ later → AreDropped later
      → head_heard_at number (after_all (fresh c) events) ≡ head_of octets
  pub long : (earlier later : List Event) (head : List ℕ) → heard ≡ earlier ++ overlong head ∷ later → AreDropped later
      → head_heard_at number (after_all (fresh c) events) ≡ Some (record { octets = head; length = c.n201 + 5 })
  pub none : AreDropped heard → head_heard_at number (after_all (fresh c) events) ≡ None

-- From a card as it begins, after any events.
abbrev pub LatestHeardIsTold : Type 0
LatestHeardIsTold =
    (c : Config) (events : List octets.Event) (number : ℕ) → number < c.lines → IsLatest c events number (heard_at number (meant_all (fresh c) events))
