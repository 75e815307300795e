-- A call in which frames are lost and timers expire, at any time.
use Rattle.std.specs.Prelude.{◌≡◌, ℕ, ◌==◌, Bool, true, false, ◌&&◌, not, List, [], ◌∷◌, length, flat_map, All, is_some, if◌then◌else◌}
use Rattle.std.specs.List.{list_any}
use Rattle.lapd_frame.specs.declared.notes.Note.{Note}
use Rattle.lapd_frame.specs.declared.notes.Note.TheVariants.{Error}
use Rattle.lapd_frame.specs.declared.services.Service.{Service}
use Rattle.lapd_frame.specs.declared.timers.Timer.{Timer}
use Rattle.lapd_frame.specs.declared.timers.Timer.TheVariants.{T200, T203, T201, T202}
use Rattle.model_line.specs.declared.config.Config.{Config}
use Rattle.model_line.specs.Event.{LineTold, nothing}
use Rattle.laws_wire.specs.Wire.{Endpoint, Wire, Step, requests, expires, StepAt, at_near, at_far, doing_all}
use Rattle.laws_wire.specs.Call.{calling, CanCall, IsData, confirmed, indicated, all_told, IsBeginningOf}

-- What is done: data is asked for, the link's T200 or T203 expires, and each end gives frames and takes them, or loses them.
abbrev pub IsOfLink : Service → ℕ → Timer → Type 0
IsOfLink service tei (T200 s t) = (s ≡ service) × (t ≡ tei)
IsOfLink service tei (T203 s t) = (s ≡ service) × (t ≡ tei)
IsOfLink service tei T201 = ⊥
IsOfLink service tei T202 = ⊥

abbrev pub IsRoughTalkOf : Service → ℕ → Step → Type 0
IsRoughTalkOf service tei (requests r) = IsData service tei r
IsRoughTalkOf service tei (expires timer) = IsOfLink service tei timer
IsRoughTalkOf service tei other = Unit {0}

abbrev pub IsRoughTalk : Service → ℕ → StepAt → Type 0
IsRoughTalk service tei (at_near act) = IsRoughTalkOf service tei act
IsRoughTalk service tei (at_far act) = IsRoughTalkOf service tei act

-- What layer 3 is told: notes and contents, and not which frames the card did not serve or had no room for.
abbrev pub for_layer_3 : LineTold → List LineTold
for_layer_3 t = if length t.notes == 0 && not (is_some t.contents) then [] else record nothing { notes = t.notes; contents = t.contents } ∷ []

abbrev pub heard_in : Endpoint → List LineTold
heard_in s = flat_map for_layer_3 s.told

-- No error of any link was told, so no establishment but the first was begun.
abbrev pub is_error : Note → Bool
is_error (Error service tei code) = true
is_error other = false

abbrev pub TellNoError : List LineTold → Type 0
TellNoError ts = All (λ (t : LineTold). list_any is_error t.notes ≡ false) ts

abbrev pub HasNoError : Endpoint → Type 0
HasNoError s = TellNoError s.told

-- What layer 3 of each is to be told: one establishment, and then the data that the other was granted to send.
abbrev pub due_near : Service → ℕ → Wire → List LineTold
due_near service tei w = all_told service tei (confirmed service tei) w.far

abbrev pub due_far : Service → ℕ → Wire → List LineTold
due_far service tei w = all_told service tei (indicated service tei) w.near

-- As long as it is so at both ends, whatever was lost and whichever timers expired, layer 3 of each was told a
-- beginning of that, in order, each once, and nothing else.
abbrev pub CallsAreToldInOrder : Type 0
CallsAreToldInOrder =
    (service : Service) (c d : Config) (line other tei : ℕ) (ds : List StepAt) → CanCall c line d other tei → All (IsRoughTalk service tei) ds →
    let w = doing_all ds (calling service tei c line d other) in HasNoError w.near → HasNoError w.far →
    IsBeginningOf (due_near service tei w) (heard_in w.near) × IsBeginningOf (due_far service tei w) (heard_in w.far)
