-- What a call for the next frame takes, of what waits.
use Rattle.std.specs.Prelude.{◌≡◌, ◌⊎◌, ℕ, ◌+◌, ◌<◌, Bool, true, false, List, [], ◌∷◌, ◌++◌, drop, take, slice_get, All, Option, Some, None, if◌then◌else◌}
use Rattle.std.specs.List.{range_with_len}
use Rattle.std.specs.Option.{unwrap_or}
use Rattle.lapd_frame.specs.declared.controls.Control.{Control}
use Rattle.lapd_frame.specs.declared.controls.Control.TheVariants.{Ui}
use Rattle.lapd_frame.specs.Senders.{spelling}
use Rattle.lapd_frame.specs.Services.{sapi_of}
use Rattle.model_link.specs.declared.terms.Terms.{Terms}
use Rattle.model_link.specs.Link.{Link}
use Rattle.model_link.specs.Sound.{is_information}
use Rattle.laws_link.specs.InOrder.{IsInOrder}
use Rattle.laws_link.specs.Sending.{MayGo}
use Rattle.model_teis.specs.declared.network.messages.Message.{Message}
use Rattle.model_teis.specs.network.Messages.{frame_of}
use Rattle.model_teis.specs.declared.terminal.messages.Message as own
use Rattle.model_teis.specs.terminal.Messages as own_messages
use Rattle.model_line.specs.declared.config.Config.{Config}
use Rattle.model_line.specs.Line.{Line, is_terminal, UnitData, link_count, service_at, place_at, tei_at, terms, link_at, with_link}
use Rattle.model_line.specs.Machine.{after}
use Rattle.model_line.specs.Event.{Event, hears, expiry, request, next, Answer}
use Rattle.model_line.specs.Request.{Request, Down}
use Rattle.laws_line.specs.Share.{is_granted}
use Rattle.model_line.specs.Taken.{taken, own_side}

-- What is taken is the message of TEI management that has waited longest, which waits no more, and all else stays;
pub record IsMessage (c : Config) (before after : Line) (frame : List ℕ) : Type 0 where
  pub message : Message
  pub oldest : slice_get before.management.waiting 0 ≡ Some message
  pub spelled : frame ≡ frame_of c.side message
  pub line : after ≡ record before { management = record before.management { waiting = drop 1 before.management.waiting } }

-- or of TEI management of a terminal (of which the line has one or the other);
pub record IsOwnMessage (c : Config) (before after : Line) (frame : List ℕ) : Type 0 where
  pub terminal : is_terminal c ≡ true
  pub message : own.Message
  pub oldest : slice_get before.own.waiting 0 ≡ Some message
  pub spelled : frame ≡ own_messages.frame_of message
  pub line : after ≡ record before { own = record before.own { waiting = drop 1 before.own.waiting } }

-- No message waits,
pub record HasNoMessage (l : Line) : Type 0 where
  pub management : l.management.waiting ≡ []
  pub own : l.own.waiting ≡ []

-- or, where no message waits, the unit data that has waited longest, whole, with its service and its TEI, in a UI command
-- with P=0, which waits no more (Q.921 clauses 3.6.5 and 5.2.2);
pub record IsUnit (c : Config) (before after : Line) (frame : List ℕ) : Type 0 where
  pub no_message : HasNoMessage before
  pub unit : UnitData
  pub oldest : slice_get before.units 0 ≡ Some unit
  pub spelled : frame ≡ spelling (own_side c) (record {
    address = record { sapi = sapi_of unit.service; command = true; tei = unit.tei };
    control = Ui false;
    info = unit.contents;
  })
  pub line : after ≡ record before { units = drop 1 before.units }

-- or, where neither waits, a frame of a link. The links are asked one after the other, from the one whose turn it is on,
-- and then from link 0 on; those that are asked before it have nothing to send; and the next turn is that of the link
-- after it (profile).
abbrev pub in_turn : Config → Line → List ℕ
in_turn c l = drop l.turn (range_with_len 0 (link_count c)) ++ take l.turn (range_with_len 0 (link_count c))

-- A link has nothing to send where no control frame waits, no I-frame may go, and no acknowledgement is owed.
pub record IsSilent (t : Terms) (l : Link) : Type 0 where
  pub waiting : l.waiting ≡ []
  pub information : MayGo t l → ⊥
  pub pending : l.pending ≡ false

abbrev pub IsSilentAt : Config → Line → ℕ → Type 0
IsSilentAt c l number =
    (tei : ℕ) → tei_at (place_at number) l ≡ Some tei → IsSilent (terms c (service_at number) tei) (link_at number l)

pub record IsItsTurn (c : Config) (l : Line) (number : ℕ) : Type 0 where
  pub no_message : HasNoMessage l
  pub no_unit : l.units ≡ []
  pub passed : List ℕ
  pub behind : List ℕ
  pub place : in_turn c l ≡ passed ++ number ∷ behind
  pub all_silent : All (IsSilentAt c l) passed

-- The link is of a TEI on the line, and the frame has the SAPI of its service and its TEI. It is what the link gives in its
-- order: the control frame that has waited longest, an I-frame that may go, or the acknowledgement that is owed. If it is
-- an I-frame, it carries the link's contents number V(S), and V(S) counts it. All else of the line stays.
pub record IsOfLink (c : Config) (contents : ℕ → List (List ℕ)) (before after : Line) (frame : List ℕ) : Type 0 where
  pub number : ℕ
  pub few : number < link_count c
  pub its_turn : IsItsTurn c before number
  pub tei : ℕ
  pub on_line : tei_at (place_at number) before ≡ Some tei
  pub command : Bool
  pub control : Control
  pub information : Option (List ℕ)
  pub spelled : frame ≡ spelling (own_side c) (record {
    address = record { sapi = sapi_of (service_at number); command = command; tei = tei };
    control = control;
    info = unwrap_or information [];
  })
  pub in_order : IsInOrder (terms c (service_at number) tei) (link_at number before) (link_at number after) (record { command = command; control = control })
  pub carried : information ≡ (if is_information control then slice_get (contents number) (link_at number before).s else None)
  pub counted : (link_at number after).s ≡ (link_at number before).s + (if is_information control then 1 else 0)
  pub line : after ≡ record (with_link number (link_at number after) before) { turn = number + 1 }

abbrev pub IsOwed : Config → (ℕ → List (List ℕ)) → Line → Line → List ℕ → Type 0
IsOwed c contents before after frame = IsMessage c before after frame ⊎ IsOwnMessage c before after frame ⊎ IsUnit c before after frame ⊎ IsOfLink c contents before after frame

-- No message waits, no unit data, and no link has anything to send.
pub record HasNothing (c : Config) (l : Line) : Type 0 where
  pub messages : HasNoMessage l
  pub units : l.units ≡ []
  pub links : (number : ℕ) → number < link_count c → IsSilentAt c l number

-- None is taken only where nothing waits to be sent; and then the line stays.
pub record IsIdle (c : Config) (before after : Line) : Type 0 where
  pub nothing : HasNothing c before
  pub line : after ≡ before

abbrev pub contents_of_link : Line → ℕ → List (List ℕ)
contents_of_link l number = (link_at number l).contents

abbrev pub IsServed : Config → (ℕ → List (List ℕ)) → Line → Type 0
IsServed c contents l =
    elim (taken c l) as (λ o. Type 0) [ None ↦ IsIdle c l (after c next l) | Some t ↦ IsOwed c contents l (after c next l) t.frame ]

-- Unit data waits at the end of what waits, where its request was granted: whole, once, with its service and its TEI. Where the
-- line is down, what waits is given up. No other event but a call for the next frame changes what waits.
abbrev pub unit_asked : Request → List UnitData
unit_asked (Request.Unit service tei contents) = record { service = service; tei = tei; contents = contents } ∷ []
unit_asked other = []

abbrev pub units_asked : Event → Answer → List UnitData
units_asked (request r) answer = if is_granted answer then unit_asked r else []
units_asked other answer = []

abbrev pub units_behind : Request → List UnitData → List UnitData
units_behind Down units = []
units_behind other units = units

abbrev pub units_left : Request → Answer → List UnitData → List UnitData
units_left r answer units = if is_granted answer then units_behind r units else units

abbrev pub UnitsWait : Event → Line → Line → Answer → Type 0
UnitsWait next before after answer = Unit {0}
UnitsWait (hears e) before after answer = after.units ≡ before.units
UnitsWait (expiry timer) before after answer = after.units ≡ before.units
UnitsWait (request r) before after answer = after.units ≡ units_left r answer before.units ++ units_asked (request r) answer

-- No other event changes whose turn it is.
abbrev pub TurnStays : Event → Line → Line → Type 0
TurnStays next before after = Unit {0}
TurnStays (hears e) before after = after.turn ≡ before.turn
TurnStays (expiry timer) before after = after.turn ≡ before.turn
TurnStays (request r) before after = after.turn ≡ before.turn
