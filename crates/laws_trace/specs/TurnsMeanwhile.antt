-- Links take turns, whatever else happens meanwhile.
use Rattle.std.specs.Prelude.{◌≡◌, ◌≢◌, ℕ, true, false, List, [], ◌∷◌, ◌++◌}
use Rattle.std.specs.List.{list_any}
use Rattle.lapd_frame.specs.declared.services.Service.{Service}
use Rattle.model_line.specs.declared.config.Config.{Config}
use Rattle.model_card.specs.Card.{fresh}
use Rattle.model_card.specs.Event.{Event}
use Rattle.model_card.specs.Run.{moments, after_all}
use Rattle.model_card.specs.Takes.{frames_given}
use Rattle.laws_trace.specs.FramesAreDue.{offers}
use Rattle.laws_trace.specs.LinkFrames.{is_frame_of}
use Rattle.laws_trace.specs.Managing.{is_on, managed_after}
use Rattle.laws_trace.specs.Outgoing.{outgoing_of}
use Rattle.laws_trace.specs.Trace.{is_own}

-- The TEIs of both links are on the line, and the other link offers a frame, as whoever watches the line has this.
pub record IsKeptWaiting (c : Config) (number tei : ℕ) (other : Service) (its : ℕ) (events : List Event) : Type 0 where
  pub stays : is_on tei (managed_after c number events) ≡ true
  pub on_line : is_on its (managed_after c number events) ≡ true
  pub offers_one : offers c other its (outgoing_of c other its number events) ≢ []

-- While this is so before each event, between two frames that begin for the one link begins one of the other, whatever else
-- happens at the line, and before it (profile).
abbrev pub LinksTakeTurnsMeanwhile : Config → List Event → ℕ → Type 0
LinksTakeTurnsMeanwhile c events number =
    (before meanwhile : List Event) (one other : Service) (tei its : ℕ) → events ≡ before ++ meanwhile → is_own one tei other its ≡ false →
    ((so_far : List Event) (e : Event) (behind : List Event) → meanwhile ≡ so_far ++ e ∷ behind → IsKeptWaiting c number tei other its (before ++ so_far)) →
    (front between behind : List (List ℕ)) (a b : List ℕ) → is_frame_of c one tei a ≡ true → is_frame_of c one tei b ≡ true →
    frames_given number (moments (after_all (fresh c) before) meanwhile) ≡ front ++ a ∷ (between ++ b ∷ behind) →
    list_any (is_frame_of c other its) between ≡ true
