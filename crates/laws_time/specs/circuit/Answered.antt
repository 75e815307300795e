-- Commands are answered in time: an enquiry, SABME and DISC.
use Rattle.std.specs.Prelude.{◌≡◌, ◌<◌, ◌≤◌, ℕ, ◌/◌, List, [], ◌∷◌, ◌++◌, length, sum_by, All, Option, Some, None, ◌⊎◌}
use Rattle.lapd_clock.specs.Timer.{T200}
use Rattle.lapd_clock.specs.Timers.{Expiry}
use Rattle.model_line.specs.Event.{LineTold}
use Rattle.model_card.specs.Card.{state}
use Rattle.model_timed.specs.Clock.{due}
use Rattle.laws_time.specs.circuit.Clocked.{TimedEndpoint, Clocked, Beat, beat, after, fall_due}
use Rattle.laws_time.specs.circuit.LongEnough.{Line, IsFit, IsTalk, AreClear, answered_in, asked, begins}

-- A beat without noise.
abbrev pub IsClean : Beat → Type 0
IsClean b = (b.near_noise ≡ None) × (b.far_noise ≡ None)

-- The state of the link at an end; and how many frames found no place to wait there, as it was told.
abbrev pub state_at : Line → TimedEndpoint → Option ℕ
state_at l s = state s.at.line l.service l.tei s.at.card.card

abbrev pub lost_at : TimedEndpoint → ℕ
lost_at s = sum_by (λ (t : LineTold). t.lost) s.at.told

-- After each of these beats the near end is in state 8, and the far end is up: in state 7 or 8.
unfoldable pub Enquires : Line → List Beat → Clocked → Type 0
Enquires l [] w = Unit {0}
Enquires l (b ∷ bs) w =
    let u = beat l.rate w b in (state_at l u.near ≡ Some 8) × ((state_at l u.far ≡ Some 7) ⊎ (state_at l u.far ≡ Some 8)) × Enquires l bs u

-- Anything happens, and from some beat on there is no noise: in one beat, and in more, in which no frame finds no place to wait.
abbrev pub begun : Line → List Beat → Beat → Clocked
begun l bs b = after l.rate (bs ++ b ∷ []) (begins l)

pub record IsUndisturbed (l : Line) (bs : List Beat) (b : Beat) (more : List Beat) : Type 0 where
  pub fit : IsFit l
  pub talk : All (IsTalk l) (bs ++ b ∷ more)
  pub clear : AreClear l (bs ++ b ∷ more) (begins l)
  pub clean : All IsClean (b ∷ more)
  pub near_kept : lost_at (after l.rate more (begun l bs b)).near ≡ lost_at (begun l bs b).near
  pub far_kept : lost_at (after l.rate more (begun l bs b)).far ≡ lost_at (begun l bs b).far

-- The near end, which is any of the two, comes to state 8 after the first of these beats, and the far end is up meanwhile: so it is
-- there for less time than an answer takes at most.
abbrev pub ComesToEnquire : Line → List Beat → Beat → List Beat → Type 0
ComesToEnquire l bs b more = IsUndisturbed l bs b more × (state_at l (begun l bs b).near ≡ Some 7) × Enquires l more (begun l bs b)

abbrev pub AnEnquiryIsAnswered : Type 0
AnEnquiryIsAnswered =
    (l : Line) (bs : List Beat) (b : Beat) (more : List Beat) → ComesToEnquire l bs b more → length more < answered_in l.near l.far l.way

-- And T200 does not fall due there in the next beat, at whatever time: one enquiry is enough.
abbrev pub OneEnquiryIsEnough : Type 0
OneEnquiryIsEnough =
    (l : Line) (bs : List Beat) (b : Beat) (more : List Beat) (c : Beat) (k : ℕ) (x : Expiry) → ComesToEnquire l bs b more → IsTalk l c →
    let u = after l.rate more (begun l bs b) in let s = fall_due k (asked (u.beats / l.rate) c.near_asks u.near) in
    due s.clock ≡ Some x → x.timer ≡ T200 l.service l.tei → state_at l s ≡ Some 8 → ⊥

-- After each of these beats the near end is in this state.
unfoldable pub WaitsIn : Line → ℕ → List Beat → Clocked → Type 0
WaitsIn l n [] w = Unit {0}
WaitsIn l n (b ∷ bs) w = let u = beat l.rate w b in (state_at l u.near ≡ Some n) × WaitsIn l n bs u

-- It comes to state 5 or 6, in which it waits for the answer to SABME or DISC: so it is then, whatever state the far end is in.
abbrev pub CommandsAreAnswered : Type 0
CommandsAreAnswered =
    (l : Line) (n : ℕ) (bs : List Beat) (b : Beat) (more : List Beat) → IsUndisturbed l bs b more → (n ≡ 5) ⊎ (n ≡ 6) →
    (state_at l (begun l bs b).near ≡ Some n → ⊥) → WaitsIn l n more (begun l bs b) → length more ≤ answered_in l.near l.far l.way

-- Where there is no noise from the start on, none makes a frame.
abbrev pub NoNoiseIsClear : Type 0
NoNoiseIsClear = (l : Line) (bs : List Beat) → IsFit l → All (IsTalk l) bs → All IsClean bs → AreClear l bs (begins l)
