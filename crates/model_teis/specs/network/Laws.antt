-- What holds of the table of TEI management, beside what its rows say.
use Rattle.std.specs.Prelude.{◌≡◌, ℕ, ◌+◌, ◌≤◌, ◌<◌, Bool, true, false, is_some, List, [], ◌∷◌, ◌++◌, length, replicate, Option, Some, None, IsSome}
use Rattle.std.specs.List.{list_any}
use Rattle.lapd_frame.specs.declared.addresses.Side.{Side}
use Rattle.lapd_frame.specs.declared.timers.Order.{Order}
use Rattle.lapd_frame.specs.declared.timers.Order.TheVariants.{Start, Stop}
use Rattle.lapd_frame.specs.declared.timers.Timer.TheVariants.{T201}
use Rattle.lapd_frame.specs.declared.readings.Reading.{Reading}
use Rattle.lapd_frame.specs.declared.readings.Reading.TheVariants.{AnnexB}
use Rattle.lapd_frame.specs.Readings.{by_reading}
use Rattle.model_teis.specs.Table.{Places, is_on, free_place, free_tei}
use Rattle.model_teis.specs.Changes.{Moves}
use Rattle.model_teis.specs.network.Messages.{IdentityAssigned, IdentityRemove, IdentityRequest, heard_in}
use Rattle.model_teis.specs.network.Machine.{Management, Check, empty, may_send, messages_limit, nothing, Change, Gained, Left}
use Rattle.model_teis.specs.network.Rows.{remembered_in, assigns_for}
use Rattle.model_teis.specs.network.Events.{Event, refusal, message, expiry, assign, remove, check, disown, down, after, told, offered, after_offer}
use Rattle.model_teis.specs.network.Sound.{IsSound}

-- A request names a TEI that a terminal can have, or all TEIs where these are disowned.
abbrev pub IsInRange : Event → Type 0
IsInRange (message octets) = Unit {0}
IsInRange expiry = Unit {0}
IsInRange (assign tei) = tei ≤ 126
IsInRange (remove tei) = tei ≤ 126
IsInRange (check tei) = tei ≤ 126
IsInRange (disown tei) = tei ≤ 127
IsInRange down = Unit {0}

-- Events and pulls, in any order.
pub data Act : Type 0 where
  event : Event → Act
  pull : Act

abbrev pub IsActInRange : Act → Type 0
IsActInRange (event e) = IsInRange e
IsActInRange pull = Unit {0}

abbrev pub AreInRange : List Act → Type 0
AreInRange [] = Unit {0}
AreInRange (act ∷ acts) = IsActInRange act × AreInRange acts

abbrev pub after_act : Act → Management → Management
after_act (event e) m = after e m
after_act pull m = after_offer m

abbrev pub after_acts : List Act → Management → Management
after_acts [] m = m
after_acts (act ∷ acts) m = after_acts acts (after_act act m)

-- From the empty table on, things are sound at all times.
abbrev pub IsSoundThroughout : Type 0
IsSoundThroughout = (r : Reading) (terminals : ℕ) (acts : List Act) → AreInRange acts → IsSound (after_acts acts (empty r terminals))

abbrev pub ChangesAreTold : Type 0
ChangesAreTold = (e : Event) (m : Management) → IsInRange e → IsSound m → Moves m.places (told e m).change (after e m).places

-- The TEI that a terminal is assigned is the lowest of 64 to 126: it is not on the line, and each lower one is.
pub record IsLowestFree (places : Places) (tei : ℕ) : Type 0 where
  pub least : 64 ≤ tei
  pub most : tei ≤ 126
  pub off : is_on tei places ≡ false
  pub lower : (other : ℕ) → 64 ≤ other → other < tei → is_on other places ≡ true

abbrev pub AssignsLowest : Places → Option Change → Type 0
AssignsLowest places None = Unit {0}
AssignsLowest places (Some (Gained tei place)) = IsLowestFree places tei
AssignsLowest places (Some (Left tei place)) = Unit {0}

abbrev pub LowestIsAssigned : Type 0
LowestIsAssigned = (octets : List ℕ) (m : Management) → AssignsLowest m.places (told (message octets) m).change

-- A terminal asks for a TEI: its Ri is not remembered and, by annex B, no TEI for it waits to be sent; there is room for an
-- answer, and a place and a TEI are free.
pub record MayBeAssigned (octets : List ℕ) (m : Management) (ri place tei : ℕ) : Type 0 where
  pub asks : heard_in m.reading octets ≡ Some (IdentityRequest ri)
  pub is_new : remembered_in ri m.remembered ≡ None
  pub unanswered : m.reading ≡ AnnexB → list_any (assigns_for ri) m.waiting ≡ false
  pub room : length m.waiting < messages_limit
  pub place_is : free_place m.places ≡ Some place
  pub tei_is : free_tei m.places ≡ Some tei

-- It gets that TEI at that place, and its answer waits behind the others.
pub record IsAssigned (octets : List ℕ) (m : Management) (ri place tei : ℕ) : Type 0 where
  pub change : (told (message octets) m).change ≡ Some (Gained tei place)
  pub answer : (after (message octets) m).waiting ≡ m.waiting ++ IdentityAssigned ri tei ∷ []

abbrev pub NewIsAssigned : Type 0
NewIsAssigned = (octets : List ℕ) (m : Management) (ri place tei : ℕ) → MayBeAssigned octets m ri place tei → IsAssigned octets m ri place tei

-- In a table of fewer than 63 places one of these is always free.
abbrev pub OneIsFree : Type 0
OneIsFree = (places : Places) → length places < 63 → IsSome (free_tei places)

-- An event lets at most one message more wait, and loses at most one; by annex B a message that is heard lets two wait, one of
-- them with a check that is due. A pull lets one fewer wait, or finds none.
abbrev pub most_heard : Event → ℕ
most_heard (message octets) = 2
most_heard other = 1

abbrev pub FewMoreWait : Type 0
FewMoreWait = (e : Event) (m : Management) → may_send (after e m) ≤ may_send m + by_reading m.reading 1 (most_heard e)

abbrev pub FewAreLost : Type 0
FewAreLost = (e : Event) (m : Management) → (told e m).lost ≤ 1

abbrev pub taken : Option (List ℕ) → ℕ
taken None = 0
taken (Some octets) = 1

abbrev pub OneFewerWaits : Type 0
OneFewerWaits = (side : Side) (m : Management) → may_send (after_offer m) + taken (offered side m) ≡ may_send m

-- The reading stays what it was.
abbrev pub ReadingStays : Type 0
ReadingStays = (e : Event) (m : Management) → (after e m).reading ≡ m.reading

-- A message that is not served changes nothing, and nothing else is told of it.
abbrev pub UnservedChangesNothing : Type 0
UnservedChangesNothing = (e : Event) (m : Management) → (told e m).unserved ≡ true → (after e m ≡ m) × (told e m ≡ record nothing { unserved = true })

-- T201 runs while a TEI is under check, and orders say so to a caller: the one order of an event is a Start of T201
-- after which a check runs, or a Stop after which none does; without an order T201 runs where it ran. No other timer is
-- ordered.
abbrev pub Follows : Bool → List Order → Bool → Type 0
Follows before [] after = after ≡ before
Follows before (Start T201 ∷ []) after = after ≡ true
Follows before (Stop T201 ∷ []) after = after ≡ false
Follows before others after = ⊥

abbrev pub T201Follows : Type 0
T201Follows = (e : Event) (m : Management) → Follows (is_some m.check) (told e m).orders (is_some (after e m).check)

-- After its own expiry, too, where the caller's runs no more when the event begins.
abbrev pub ExpiredT201Follows : Type 0
ExpiredT201Follows = (m : Management) → Follows false (told expiry m).orders (is_some (after expiry m).check)

-- Where the line is down no message waits and no check runs, all else stays, and all that is told is that T201 stops, if it
-- ran.
abbrev pub stop_of : Option Check → List Order
stop_of None = []
stop_of (Some own) = Stop T201 ∷ []

pub record IsGivenUp (m : Management) : Type 0 where
  pub after : after down m ≡ record m { check = None; to_check = replicate (length m.to_check) false; waiting = [] }
  pub told : told down m ≡ record nothing { orders = stop_of m.check }

abbrev pub DownGivesUp : Type 0
DownGivesUp = (m : Management) → IsGivenUp m

-- A TEI that is not in use is disowned: an identity remove of it waits behind the other messages, nothing else changes, and
-- nothing is told. One that is in use never is.
pub record IsDisowned (tei : ℕ) (m : Management) : Type 0 where
  pub after : after (disown tei) m ≡ record m { waiting = m.waiting ++ IdentityRemove tei ∷ [] }
  pub told : told (disown tei) m ≡ nothing

abbrev pub DisownSendsRemove : Type 0
DisownSendsRemove = (tei : ℕ) (m : Management) → refusal (disown tei) m ≡ None → IsDisowned tei m

abbrev pub DisownSpares : Type 0
DisownSpares = (tei : ℕ) (m : Management) → is_on tei m.places ≡ true → IsSome (refusal (disown tei) m)

abbrev pub DisownAllSpares : Type 0
DisownAllSpares = (tei : ℕ) (m : Management) → is_on tei m.places ≡ true → IsSome (refusal (disown 127) m)
