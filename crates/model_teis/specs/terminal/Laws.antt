-- What holds of TEI management of a terminal, beside what its rows say.
use Rattle.std.specs.Prelude.{◌≡◌, ℕ, ◌+◌, ◌≤◌, ◌<◌, ◌⊎◌, Bool, true, false, is_some, List, [], ◌∷◌, length, max, get_or, All, Option, Some, None}
use Rattle.std.specs.List.{count_by}
use Rattle.lapd_frame.specs.declared.timers.Order.{Order}
use Rattle.lapd_frame.specs.declared.timers.Order.TheVariants.{Start, Stop}
use Rattle.lapd_frame.specs.declared.timers.Timer.TheVariants.{T202}
use Rattle.lapd_frame.specs.declared.readings.Reading.{Reading}
use Rattle.model_teis.specs.Changes.{Moves}
use Rattle.model_teis.specs.declared.changes.Change.{Change}
use Rattle.model_teis.specs.declared.changes.Change.TheVariants.{Gained, Left}
use Rattle.model_teis.specs.terminal.Messages.{Message, IdentityRequest, IdentityCheckResponse, IdentityVerify, IdentityAssigned, heard_in}
use Rattle.model_teis.specs.terminal.Numbers.{number_after}
use Rattle.model_teis.specs.terminal.Machine.{Terminal, Asking, fresh, nothing}
use Rattle.model_teis.specs.terminal.Events.{Event, message, expiry, ask, verify, assign, remove, down, after, told, after_offer}
use Rattle.model_teis.specs.Table.{IsAt}
use Rattle.model_teis.specs.terminal.Sound.{IsSound}
use Rattle.model_teis.specs.terminal.Words.{stop_of}

-- A request to put a TEI on the line names one that a terminal can have.
abbrev pub IsInRange : Event → Type 0
IsInRange (message octets) = Unit {0}
IsInRange expiry = Unit {0}
IsInRange ask = Unit {0}
IsInRange (verify tei) = Unit {0}
IsInRange (assign tei) = tei ≤ 126
IsInRange (remove tei) = Unit {0}
IsInRange down = Unit {0}

-- Events and pulls, in any order.
pub data Act : Type 0 where
  event : Event → Act
  pull : Act

abbrev pub IsActInRange : Act → Type 0
IsActInRange (event e) = IsInRange e
IsActInRange pull = Unit {0}

abbrev pub AreInRange : List Act → Type 0
AreInRange [] = Unit {0}
AreInRange (act ∷ acts) = IsActInRange act × AreInRange acts

abbrev pub after_act : Act → Terminal → Terminal
after_act (event e) m = after e m
after_act pull m = after_offer m

abbrev pub after_acts : List Act → Terminal → Terminal
after_acts [] m = m
after_acts (act ∷ acts) m = after_acts acts (after_act act m)

-- From a fresh line on, things are sound at all times,
abbrev pub IsSoundThroughout : Type 0
IsSoundThroughout = (r : Reading) (terminals seed : ℕ) (acts : List Act) → terminals ≤ 8 → seed < 65536 → AreInRange acts → IsSound (after_acts acts (fresh r terminals seed))

-- and a place more than the line may have TEIs is enough for the messages that wait.
abbrev pub RoomIsEnough : Type 0
RoomIsEnough = (r : Reading) (terminals seed : ℕ) (acts : List Act) → terminals ≤ 8 → seed < 65536 → AreInRange acts
    → length (after_acts acts (fresh r terminals seed)).waiting ≤ terminals + 1

-- So none is told as lost.
abbrev pub NoneIsLost : Type 0
NoneIsLost = (e : Event) (m : Terminal) → (told e m).lost ≡ 0

-- An event lets one message more wait at most; a check of all TEIs, one for each.
abbrev pub more_most : Event → Terminal → ℕ
more_most (message octets) m = max 1 (length m.places)
more_most other m = 1

abbrev pub FewMoreWait : Type 0
FewMoreWait = (e : Event) (m : Terminal) → length (after e m).waiting ≤ length m.waiting + more_most e m

-- The change that is told of an event is the change of the table: a TEI that was not on the line has taken the lowest
-- free place, or a TEI has left its place free.
abbrev pub ChangesAreTold : Type 0
ChangesAreTold = (e : Event) (m : Terminal) → IsInRange e → IsSound m → Moves m.places (told e m).change (after e m).places

-- No TEI is taken by itself: it comes by a request, or by an assignment with the reference number that is outstanding.
abbrev pub IsGiven : Event → Terminal → Option Change → Type 0
IsGiven e m None = Unit {0}
IsGiven e m (Some (Left tei place)) = Unit {0}
IsGiven e m (Some (Gained tei place)) =
    (e ≡ assign tei)
    ⊎ ((octets : List ℕ) × (ri : ℕ) × (attempts : ℕ) × (e ≡ message octets) × (heard_in m.reading octets ≡ Some (IdentityAssigned ri tei)) × (m.procedure ≡ Some (Asking ri attempts)))

abbrev pub NoneIsTaken : Type 0
NoneIsTaken = (e : Event) (m : Terminal) → IsGiven e m (told e m).change

-- So each TEI at a place of a line was given in the run that led there, from a fresh line on.
abbrev pub Gives : Act → Terminal → ℕ → ℕ → Type 0
Gives (event e) m tei place = IsGiven e m (Some (Gained tei place))
Gives pull m tei place = ⊥

abbrev pub WasGiven : List Act → Terminal → ℕ → ℕ → Type 0
WasGiven [] m tei place = ⊥
WasGiven (act ∷ acts) m tei place = Gives act m tei place ⊎ WasGiven acts (after_act act m) tei place

abbrev pub EachWasGiven : Type 0
EachWasGiven = (r : Reading) (terminals seed : ℕ) (acts : List Act) (tei place : ℕ) → terminals ≤ 8 → seed < 65536 → AreInRange acts
    → IsAt (after_acts acts (fresh r terminals seed)).places place tei → WasGiven acts (fresh r terminals seed) tei place

-- T202 runs while a procedure does, and orders say so to a caller: after a Start one runs, after a Stop none does, and
-- without an order one runs if it ran before. No other timer is ordered, and none twice.
abbrev pub Follows : Bool → List Order → Bool → Type 0
Follows before [] after = after ≡ before
Follows before (Start T202 ∷ []) after = after ≡ true
Follows before (Stop T202 ∷ []) after = after ≡ false
Follows before others after = ⊥

abbrev pub T202Follows : Type 0
T202Follows = (e : Event) (m : Terminal) → Follows (is_some m.procedure) (told e m).orders (is_some (after e m).procedure)

-- After its own expiry, too, when the caller's runs no more when the event begins.
abbrev pub ExpiredT202Follows : Type 0
ExpiredT202Follows = (m : Terminal) → Follows false (told expiry m).orders (is_some (after expiry m).procedure)

-- The reference number of a message that has one of its own.
abbrev pub ri_of : Message → Option ℕ
ri_of (IdentityRequest ri) = Some ri
ri_of (IdentityCheckResponse ri tei) = Some ri
ri_of (IdentityVerify tei) = None

abbrev pub has_number : Message → Bool
has_number one = is_some (ri_of one)

-- The reference number goes on along its sequence, once for each message that is made. A message that waits after an
-- event waited before it, or has one of the numbers that the event took; and no more are new than it took numbers.
abbrev pub IsKnown : Terminal → ℕ → Message → Type 0
IsKnown old count one =
    ((k : ℕ) × (k < length old.waiting) × (get_or old.waiting k one ≡ one))
    ⊎ (((i : ℕ) × (i < count) × (ri_of one ≡ Some (number_after i old.number))) ⊎ (ri_of one ≡ None))

pub record GoesOn (count : ℕ) (old new : Terminal) : Type 0 where
  pub number : new.number ≡ number_after count old.number
  pub messages : All (IsKnown old count) new.waiting
  pub each : count_by has_number new.waiting ≤ count_by has_number old.waiting + count

-- It takes a few numbers at most. That no two of the new messages have the same, `teis_are_managed` of `laws_trace` says.
abbrev pub NumbersGoOn : Type 0
NumbersGoOn = (e : Event) (m : Terminal) → (count : ℕ) × (count ≤ length m.places + 1) × GoesOn count m (after e m)

-- The reading stays what it was.
abbrev pub ReadingStays : Type 0
ReadingStays = (e : Event) (m : Terminal) → (after e m).reading ≡ m.reading

-- A message that is not served changes nothing, and nothing else is told of it.
abbrev pub UnservedChangesNothing : Type 0
UnservedChangesNothing = (e : Event) (m : Terminal) → (told e m).unserved ≡ true → (after e m ≡ m) × (told e m ≡ record nothing { unserved = true })

-- If the line is down, no message waits and no procedure runs, all else stays, and all that is told is that T202 stops,
-- if it ran.
pub record IsGivenUp (m : Terminal) : Type 0 where
  pub after : after down m ≡ record m { procedure = None; waiting = [] }
  pub told : told down m ≡ record nothing { orders = stop_of m.procedure }

abbrev pub DownGivesUp : Type 0
DownGivesUp = (m : Terminal) → IsGivenUp m
