-- What becomes of a card that is restored.
use Rattle.std.specs.Prelude.{◌≡◌, ℕ, List, [], ◌∷◌, ◌++◌, IfSome, Option, option_map, get_or}
use Rattle.model_card.specs.Card.{Card, line_at}
use Rattle.model_card.specs.Event.{Event}
use Rattle.model_card.specs.Machine.{answer}
use Rattle.model_card.specs.Reached.{IsReached}
use Rattle.model_card.specs.Run.{run, AreAtLines}
use Rattle.model_card.specs.ports.Card as octets
use Rattle.model_card.specs.ports.Card.{OctetCard, with_fresh_ports}
use Rattle.model_card.specs.ports.Event.{Event as OctetEvent}
use Rattle.model_card.specs.ports.Reached as octets_reached
use Rattle.model_card.specs.ports.Run as octets_run
use Rattle.model_timed.specs.Changes.{Marks, standing, itself, inside, marks_after}
use Rattle.model_timed.specs.Clock.{Clock}
use Rattle.model_timed.specs.Frames.{frames as frames_kind, TimedCard}
use Rattle.model_timed.specs.Octets.{octets as octets_kind, TimedOctetCard}
use Rattle.model_timed.specs.RunTheSame.{Stands}
use Rattle.model_timed.specs.Timed.{Kind, Step, Timed, after, after_all, event_of, ArePrompt}
use Rattle.model_image.specs.Images.{Saved, image_of}
use Rattle.model_image.specs.Laws.{AreSameCards, CardGoesOn}
use Rattle.model_image.specs.Sound.{IsSaved}

-- A card is restored from an image where it is one that is saved, and this is its image. Its ports, if it has any, begin anew
-- (profile).
pub record IsRestored (image : List ℕ) (t : Saved) : Type 0 where
  pub saved : IsSaved t
  pub same : image_of t ≡ image

-- It is reached, by no event; so all that is promised of cards that are reached holds of it. And its clock stands beside it.
pub record BeginsAgain (t : Saved) : Type 0 where
  pub frames : IsReached t.card
  pub octets : octets_reached.IsReached (with_fresh_ports t.card)
  pub clock : IfSome t.clock (Stands t.card)

abbrev pub RestoredCardsAreReached : Type 0
RestoredCardsAreReached = (image : List ℕ) (t : Saved) → IsRestored image t → BeginsAgain t

-- Two cards of octets whose lines are the same, and their ports.
pub record AreSameOctetCards (m n : OctetCard) : Type 0 where
  pub cards : AreSameCards m.card n.card
  pub ports : m.ports ≡ n.ports

-- They answer the same to a list of events, and are the same after it.
pub record OctetCardGoesOn (m n : OctetCard) (events : List OctetEvent) : Type 0 where
  pub replies : (octets_run.run m events).replies ≡ (octets_run.run n events).replies
  pub then_same : AreSameOctetCards (octets_run.run m events).card (octets_run.run n events).card

-- What a timed card shows at each step: the event that happened, if one did, and its answer.
unfoldable pub shown : {C E A : Type 0} → Kind C E → (E → C → A) → List (Step E) → Timed C → List (Option (E × A))
shown k answer [] t = []
shown k answer (s ∷ steps) t = option_map (λ e. (e, answer e t.card)) (event_of k s t) ∷ shown k answer steps (after k s t)

-- Two timed cards show the same at each step, and then their clocks and their cards are the same.
abbrev pub TimedGoesOn : TimedCard → TimedCard → List (Step Event) → Type 0
TimedGoesOn t u steps =
    (shown frames_kind answer steps t ≡ shown frames_kind answer steps u) × ((after_all frames_kind steps t).clock ≡ (after_all frames_kind steps u).clock)
    × AreSameCards (after_all frames_kind steps t).card (after_all frames_kind steps u).card

abbrev pub TimedOctetsGoOn : TimedOctetCard → TimedOctetCard → List (Step OctetEvent) → Type 0
TimedOctetsGoOn t u steps =
    (shown octets_kind octets.answer steps t ≡ shown octets_kind octets.answer steps u) × ((after_all octets_kind steps t).clock ≡ (after_all octets_kind steps u).clock)
    × AreSameOctetCards (after_all octets_kind steps t).card (after_all octets_kind steps u).card

-- What is noted of each link of a card that is saved: its state, and the moment at which this became so.
abbrev pub noted_in : Saved → Marks
noted_in s line number = record { state = standing number (line_at line s.card); moment = get_or (get_or s.changed line []) number 0 }

-- A card beside a clock.
abbrev pub beside : {C : Type 0} → C → Clock → Timed C
beside card clock = record { card = card; clock = clock }

-- A card that is restored from the image of another answers as that one would: a card of frames to every list of events; one of
-- octets as one whose ports begin anew. Where they keep their own timers, the same fall due at the same steps, if these
-- are prompt to however many milliseconds. And if what is noted of a link is what was saved of it, then after these steps
-- the restored card notes the same. An observer sees one run: from any card on, over the save and the restore (`observed`).
pub record GoesOnAs (s t : Saved) : Type 0 where
  pub frames : (events : List Event) → AreAtLines s.card events → CardGoesOn s.card t.card events
  pub octets : (events : List OctetEvent) → octets_run.AreAtLines (with_fresh_ports s.card) events → OctetCardGoesOn (with_fresh_ports s.card) (with_fresh_ports t.card) events
  pub observed : (first : Card) (before events : List Event) → (run first before).card ≡ s.card → AreAtLines s.card events
      → (run first (before ++ events)).replies ≡ (run first before).replies ++ (run t.card events).replies
  pub clock : t.clock ≡ s.clock
  pub timed : (c : Clock) (late : ℕ) (steps : List (Step Event)) → Stands s.card c → ArePrompt frames_kind late steps (beside s.card c)
      → TimedGoesOn (beside s.card c) (beside t.card c) steps
  pub timed_octets : (c : Clock) (late : ℕ) (steps : List (Step OctetEvent)) → Stands s.card c → ArePrompt octets_kind late steps (beside (with_fresh_ports s.card) c)
      → TimedOctetsGoOn (beside (with_fresh_ports s.card) c) (beside (with_fresh_ports t.card) c) steps
  pub noted : (c : Clock) (late : ℕ) (steps : List (Step Event)) (marks : Marks) → Stands s.card c → ArePrompt frames_kind late steps (beside s.card c)
      → (line number : ℕ) → marks line number ≡ noted_in s line number
      → marks_after frames_kind itself steps (beside s.card c) marks line number ≡ marks_after frames_kind itself steps (beside t.card c) (noted_in t) line number
  pub noted_octets : (c : Clock) (late : ℕ) (steps : List (Step OctetEvent)) (marks : Marks) → Stands s.card c → ArePrompt octets_kind late steps (beside (with_fresh_ports s.card) c)
      → (line number : ℕ) → marks line number ≡ noted_in s line number
      → marks_after octets_kind inside steps (beside (with_fresh_ports s.card) c) marks line number
      ≡ marks_after octets_kind inside steps (beside (with_fresh_ports t.card) c) (noted_in t) line number

abbrev pub ARestoredCardGoesOn : Type 0
ARestoredCardGoesOn = (s t : Saved) → IsSaved s → IsRestored (image_of s) t → GoesOnAs s t
