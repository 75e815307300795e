-- A call in which frames are lost, UA too, and either end may be busy: what is told then.
use Rattle.std.specs.Prelude.{◌≡◌, ℕ, ◌==◌, Bool, false, ◌&&◌, ◌||◌, List, [], ◌∷◌, ◌++◌, length, map, drop, All, Some, Ok, if◌then◌else◌}
use Rattle.lapd_frame.specs.declared.notes.ErrorCode.TheVariants.{F}
use Rattle.lapd_frame.specs.declared.notes.Note.TheVariants.{Error, EstablishIndication}
use Rattle.lapd_frame.specs.declared.services.Service.{Service}
use Rattle.model_link.specs.declared.rooms.Room.{Room}
use Rattle.model_link.specs.Sound.{is_information}
use Rattle.model_line.specs.declared.config.Config.{Config}
use Rattle.model_line.specs.Event.{LineTold, nothing}
use Rattle.model_line.specs.Line.{state_of}
use Rattle.model_line.specs.Request.{Request, Data, SetBusy, ClearBusy}
use Rattle.model_card.specs.Room.{room}
use Rattle.laws_wire.specs.Wire.{Endpoint, Wire, Step, requests, expires, sends, receives, turned, StepAt, at_near, at_far, doing, doing_all, is_any, IsStill}
use Rattle.laws_wire.specs.Call.{calling, CanCall, confirmed, indicated, data_told, IsBeginningOf, ToldInOrder}
use Rattle.laws_wire.specs.Losing.{IsOfLink, heard_in}
use Rattle.laws_wire.specs.Facing.{line_of}
use Rattle.laws_wire.specs.Timely.{gives_one, IsTimelyOf}
use Rattle.laws_wire.specs.Arriving.{runs_t200}

-- What is done: as in `Losing`, and layer 3 also says that its end is busy, or ready again (Q.921 clause 5.6.6).
abbrev pub IsAsked : Service → ℕ → Request → Type 0
IsAsked service tei (Data s t contents) = (s ≡ service) × (t ≡ tei)
IsAsked service tei (SetBusy s t) = (s ≡ service) × (t ≡ tei)
IsAsked service tei (ClearBusy s t) = (s ≡ service) × (t ≡ tei)
IsAsked service tei other = ⊥

abbrev pub IsFullTalkOf : Service → ℕ → Step → Type 0
IsFullTalkOf service tei (requests r) = IsAsked service tei r
IsFullTalkOf service tei (expires timer) = IsOfLink service tei timer
IsFullTalkOf service tei other = Unit {0}

abbrev pub IsFullTalk : Service → ℕ → StepAt → Type 0
IsFullTalk service tei (at_near act) = IsFullTalkOf service tei act
IsFullTalk service tei (at_far act) = IsFullTalkOf service tei act

-- T200 is long enough at both ends, and N200 is not used up.
abbrev pub IsPatient : StepAt → Wire → Type 0
IsPatient (at_near act) w = IsTimelyOf act w
IsPatient (at_far act) w = IsTimelyOf act (turned w)

unfoldable pub StayPatient : List StepAt → Wire → Type 0
StayPatient [] w = Unit {0}
StayPatient (d ∷ ds) w = IsPatient d w × StayPatient ds (doing d w)

-- What is seen of the end that is called: what it is told of each SABME that it takes, whether an I-frame of it went since the
-- latest, and how many of the contents that it was granted are given up.
pub record Called : Type 0 where
  pub told : List LineTold
  pub sent : Bool
  pub given_up : ℕ

abbrev pub uncalled : Called
uncalled = record { told = []; sent = false; given_up = 0 }

-- The first SABME is told as an establishment. Each further one comes as UA was lost, and is told as error F; where an I-frame went
-- since the one before, with an establishment, and what was granted up to then is given up (Q.921 clauses 5.5.1.2, 5.5.1.3 and 5.7,
-- appendix II).
abbrev pub error_f : Service → ℕ → LineTold
error_f service tei = record nothing { notes = Error service tei F ∷ [] }

abbrev pub renewed : Service → ℕ → LineTold
renewed service tei = record nothing { notes = Error service tei F ∷ EstablishIndication service tei ∷ [] }

abbrev pub told_of_sabme : Service → ℕ → Called → LineTold
told_of_sabme service tei x =
    if length x.told == 0 then indicated service tei else if x.sent then renewed service tei else error_f service tei

abbrev pub with_sabme : Service → ℕ → ℕ → Called → Called
with_sabme service tei granted x =
    record { told = x.told ++ told_of_sabme service tei x ∷ []; sent = false; given_up = if x.sent then granted else x.given_up }

-- It takes SABME where it takes a frame before the other was told anything.
abbrev pub takes_sabme : Wire → Bool
takes_sabme w = is_any w.near.way && length (heard_in w.near) == 0

abbrev pub gives_information : Endpoint → Bool
gives_information s = gives_one is_information s

abbrev pub seeing : Service → ℕ → StepAt → Wire → Called → Called
seeing service tei (at_far receives) w x = if takes_sabme w then with_sabme service tei (length w.far.granted) x else x
seeing service tei (at_far sends) w x = record x { sent = x.sent || gives_information w.far }
seeing service tei other w x = x

unfoldable pub seen : Service → ℕ → List StepAt → Wire → Called → Called
seen service tei [] w x = x
seen service tei (d ∷ ds) w x = seen service tei ds (doing d w) (seeing service tei d w x)

-- A link is in state 7, and no place of its queue is taken, as all was acknowledged.
abbrev pub Rests : Service → ℕ → Endpoint → Type 0
Rests service tei s =
    (state : state_of service tei (line_of s) ≡ Some 7)
    × (left : Room) × (room s.line service tei s.card ≡ Ok left) × (left.queue ≡ s.card.config.queue)

-- No turn is left, and T200 runs at neither end.
abbrev pub IsAtRest : Service → ℕ → Wire → Type 0
IsAtRest service tei w = IsStill w × (runs_t200 service tei w.near ≡ false) × (runs_t200 service tei w.far ≡ false)

-- Each SABME is told at once. Then each is told the data of the other that is not given up, in order, each once, and nothing else: all
-- of it where the call is at rest; and then both links rest.
abbrev pub all_kept : Service → ℕ → Called → Endpoint → List LineTold
all_kept service tei x far = confirmed service tei ∷ map (data_told service tei) (drop x.given_up far.granted)

abbrev pub all_of_calls : Service → ℕ → Called → Endpoint → List LineTold
all_of_calls service tei x near = x.told ++ map (data_told service tei) near.granted

pub record ToldSo (service : Service) (tei : ℕ) (x : Called) (w : Wire) : Type 0 where
  pub far_at_once : IsBeginningOf (heard_in w.far) x.told
  pub near : ToldInOrder (IsAtRest service tei w) (all_kept service tei x w.far) (heard_in w.near)
  pub far : ToldInOrder (IsAtRest service tei w) (all_of_calls service tei x w.near) (heard_in w.far)
  pub rest : IsAtRest service tei w → Rests service tei w.near × Rests service tei w.far

abbrev pub LossyCallsComeThrough : Type 0
LossyCallsComeThrough =
    (service : Service) (c d : Config) (line other tei : ℕ) (ds : List StepAt) → CanCall c line d other tei → All (IsFullTalk service tei) ds →
    let begun = calling service tei c line d other in StayPatient ds begun →
    ToldSo service tei (seen service tei ds begun uncalled) (doing_all ds begun)
