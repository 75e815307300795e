-- A call that ends: where both ends rest, layer 3 of one of them releases the link.
use Rattle.std.specs.Prelude.{◌≡◌, ℕ, false, List, [], ◌∷◌, ◌++◌, All, ◌⊎◌}
use Rattle.lapd_frame.specs.declared.notes.Note.TheVariants.{ReleaseConfirm, ReleaseIndication}
use Rattle.lapd_frame.specs.declared.services.Service.{Service}
use Rattle.model_line.specs.declared.config.Config.{Config}
use Rattle.model_line.specs.Event.{LineTold, nothing}
use Rattle.model_line.specs.Request.{Release}
use Rattle.laws_wire.specs.Wire.{Wire, requests, expires, acting, turned, StepAt, at_near, at_far, doing, doing_all, IsStill}
use Rattle.laws_wire.specs.Call.{calling, CanCall}
use Rattle.laws_wire.specs.Losing.{IsOfLink, heard_in}
use Rattle.laws_wire.specs.Timely.{IsTimelyOf}
use Rattle.laws_wire.specs.Arriving.{runs_t200}
use Rattle.laws_wire.specs.Answering.{IsFullTalk, StayPatient, IsAtRest}

-- Then nothing more is asked for. Each end gives frames and takes them, or loses them, and timers of the end that releases expire.
abbrev pub IsLeaving : Service → ℕ → StepAt → Type 0
IsLeaving service tei (at_near (requests r)) = ⊥
IsLeaving service tei (at_near (expires timer)) = IsOfLink service tei timer
IsLeaving service tei (at_near other) = Unit {0}
IsLeaving service tei (at_far (requests r)) = ⊥
IsLeaving service tei (at_far (expires timer)) = ⊥
IsLeaving service tei (at_far other) = Unit {0}

-- T200 is long enough there, and N200 is not used up.
abbrev pub IsTimelyThere : StepAt → Wire → Type 0
IsTimelyThere (at_near act) w = IsTimelyOf act w
IsTimelyThere (at_far act) w = Unit {0}

unfoldable pub StayTimelyThere : List StepAt → Wire → Type 0
StayTimelyThere [] w = Unit {0}
StayTimelyThere (d ∷ ds) w = IsTimelyThere d w × StayTimelyThere ds (doing d w)

-- The end that releases is told of it by a confirmation, the other by an indication.
abbrev pub release_confirmed : Service → ℕ → LineTold
release_confirmed service tei = record nothing { notes = ReleaseConfirm service tei ∷ [] }

abbrev pub release_indicated : Service → ℕ → LineTold
release_indicated service tei = record nothing { notes = ReleaseIndication service tei ∷ [] }

-- Each is told so not yet, or once and behind all else; and in the end, where no turn is left and T200 runs no more, each is told.
abbrev pub HasEnded : Service → ℕ → Wire → Type 0
HasEnded service tei w = IsStill w × (runs_t200 service tei w.near ≡ false)

abbrev pub IsToldOnce : Type 0 → LineTold → List LineTold → List LineTold → Type 0
IsToldOnce in_the_end note before then =
    ((then ≡ before) ⊎ (then ≡ before ++ note ∷ [])) × (in_the_end → then ≡ before ++ note ∷ [])

pub record EndsSo (service : Service) (tei : ℕ) (w last : Wire) : Type 0 where
  pub near : IsToldOnce (HasEnded service tei last) (release_confirmed service tei) (heard_in w.near) (heard_in last.near)
  pub far : IsToldOnce (HasEnded service tei last) (release_indicated service tei) (heard_in w.far) (heard_in last.far)

-- So it is behind a call as `Answering` has it, of whichever end releases: v is its wire, or the same as the other end sees it.
abbrev pub CallsEnd : Type 0
CallsEnd =
    (service : Service) (c d : Config) (line other tei : ℕ) (before after : List StepAt) (v : Wire) → CanCall c line d other tei →
    All (IsFullTalk service tei) before → All (IsLeaving service tei) after →
    let begun = calling service tei c line d other in let w = doing_all before begun in StayPatient before begun →
    IsAtRest service tei w → (v ≡ w) ⊎ (v ≡ turned w) → let released = acting (requests (Release service tei)) v in
    StayTimelyThere after released → EndsSo service tei v (doing_all after released)
