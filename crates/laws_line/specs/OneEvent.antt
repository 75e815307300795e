-- One part of a line has an event, and all else of the line is as it was.
use Rattle.std.specs.Prelude.{◌≡◌, ◌≢◌, ◌⊎◌, ℕ, ◌<◌, true, false, List, [], ◌∷◌, ◌++◌, Option, Some}
use Rattle.lapd_frame.specs.declared.notes.Note.{Note}
use Rattle.lapd_frame.specs.declared.services.Service.{Service}
use Rattle.lapd_frame.specs.declared.services.Service.TheVariants.{Call, Packet}
use Rattle.lapd_frame.specs.Grammar.{Parts}
use Rattle.model_teis.specs.network.Events as teis
use Rattle.model_teis.specs.terminal.Events as terminals
use Rattle.model_teis.specs.declared.changes.Change.{Change}
use Rattle.model_teis.specs.declared.changes.Change.TheVariants.{Left}
use Rattle.model_link.specs.Events as link
use Rattle.model_link.specs.Link.{fresh}
use Rattle.model_link.specs.Machine as links
use Rattle.model_line.specs.declared.config.Config.{Config}
use Rattle.model_line.specs.Event.{Event, request, next, Answer, told, refused, gave, nothing}
use Rattle.model_line.specs.Line.{Line, is_terminal, terminal_in, with_terminal, UnitData, link_number, link_count, place_at, tei_at, place_in, link_in, link_at, with_link, terms}
use Rattle.model_line.specs.Machine as lines
use Rattle.model_line.specs.Request.{Request, Down}
use Rattle.model_line.specs.Sides.{IsToGroup}
use Rattle.laws_link.specs.History.{given_up_of}
use Rattle.laws_line.specs.Frames.{given_up_in, lost_in}
use Rattle.laws_line.specs.GoesDown.{GivesUp}
use Rattle.laws_line.specs.Heard.{AnswerTells, notes_of}
use Rattle.laws_line.specs.Loss.{IsMoved}
use Rattle.laws_line.specs.Share.{is_granted}
use Rattle.laws_line.specs.Steady.{HearsFrame, IsOf, IsOfManagement, IsOfTerminal}

-- One link has this event, and nothing else changes; the line answers what the link tells.
pub record IsAlone (c : Config) (before after : Line) (answer : Answer) (service : Service) (tei place : ℕ) (event : link.Event) : Type 0 where
  pub line : after ≡ with_link (link_number place service) (links.after (terms c service tei) event (link_in before service place)) before
  pub answer_is : AnswerTells (links.told (terms c service tei) event (link_in before service place)) answer

-- TEI management has this event, and nothing else changes, but that the links of a TEI that comes or leaves are as ones that
-- begin. Behind what it notes is noted what the links of a TEI that leaves tell as they end, that of call control first.
abbrev pub noted_ending : Config → Line → Service → ℕ → ℕ → List Note
noted_ending c l service tei place = (links.told (terms c service tei) link.cleared (link_in l service place)).notes

abbrev pub noted_behind : Config → Line → Option Change → List Note
noted_behind c l (Some (Left tei place)) = noted_ending c l Call tei place ++ noted_ending c l Packet tei place
noted_behind c l other = []

-- A link of a TEI that leaves gives up what it keeps; else nothing is given up.
abbrev pub given_up_behind : Config → Line → Service → Option Change → ℕ
given_up_behind c l service (Some (Left tei place)) = given_up_of service (links.told (terms c service tei) link.cleared (link_in l service place))
given_up_behind c l service other = 0

pub record IsManaged (c : Config) (before after : Line) (answer : Answer) (event : teis.Event) : Type 0 where
  pub line : after ≡ record before { management = teis.after event before.management; links = after.links }
  pub stay : (number : ℕ) → number < link_count c → tei_at (place_at number) after ≡ tei_at (place_at number) before → link_at number after ≡ link_at number before
  pub begin : (number : ℕ) → number < link_count c → IsMoved number before after → link_at number after ≡ fresh
  pub notes : notes_of answer
      ≡ (teis.told event before.management).notes ++ noted_behind c before (teis.told event before.management).change
  pub lost : lost_in answer ≡ (teis.told event before.management).lost
  pub given_up : (service : Service) → given_up_in service answer ≡ given_up_behind c before service (teis.told event before.management).change

-- The same of TEI management of a terminal, which loses no message.
pub record IsManagedThere (c : Config) (before after : Line) (answer : Answer) (event : terminals.Event) : Type 0 where
  pub line : after ≡ record (with_terminal (terminals.after event (terminal_in before)) before) { links = after.links }
  pub stay : (number : ℕ) → number < link_count c → tei_at (place_at number) after ≡ tei_at (place_at number) before → link_at number after ≡ link_at number before
  pub begin : (number : ℕ) → number < link_count c → IsMoved number before after → link_at number after ≡ fresh
  pub notes : notes_of answer
      ≡ (terminals.told event (terminal_in before)).notes ++ noted_behind c before (terminals.told event (terminal_in before)).change
  pub lost : lost_in answer ≡ 0
  pub given_up : (service : Service) → given_up_in service answer ≡ given_up_behind c before service (terminals.told event (terminal_in before)).change

-- Unit data is granted.
pub record IsGranted (e : Event) (answer : Answer) (unit : UnitData) : Type 0 where
  pub by : e ≡ request (Request.Unit unit.service unit.tei unit.contents)
  pub granted : is_granted answer ≡ true

-- Whatever happens on a line is an event of a link of a TEI on it, of TEI management, unit data that is granted, unit
-- data to the group that is heard on the user's side (`Heard` has what comes of it), that the line is down, or a call for the
-- next frame;
pub data IsOfPart (c : Config) (l : Line) (e : Event) (answer : Answer) : Type 0 where
  of_link : (service : Service) (tei place : ℕ) (event : link.Event) → place_in l tei ≡ Some place → IsOf c e answer service tei event → IsOfPart c l e answer
  of_management : (event : teis.Event) → is_terminal c ≡ false → IsOfManagement c e answer event → IsOfPart c l e answer
  of_terminal : (event : terminals.Event) → is_terminal c ≡ true → IsOfTerminal c e answer event → IsOfPart c l e answer
  of_units : (unit : UnitData) → IsGranted e answer unit → IsOfPart c l e answer
  of_group : (parts : Parts) (service : Service) → HearsFrame c e parts → IsToGroup c parts service → IsOfPart c l e answer
  of_down : e ≡ request Down → IsOfPart c l e answer
  of_next : e ≡ next → IsOfPart c l e answer

-- or nothing changes, and the answer says nothing, but why.
abbrev pub SaysNothing : Answer → Type 0
SaysNothing (told t) = t ≡ record nothing { cause = t.cause }
SaysNothing (refused why) = Unit {0}
SaysNothing (gave frame) = ⊥

-- What becomes of it: an event of one part is this event of the part, and nothing else changes. Unit data waits whole, behind
-- what waits; where the line is down, what waits and is of no link is given up, and the links stay; and a call for the next
-- frame is one of the line's machine.
pub record IsOneEvent (c : Config) (e : Event) (before after : Line) (answer : Answer) : Type 0 where
  pub link : (service : Service) (tei place : ℕ) (event : link.Event) → e ≢ next → place_in before tei ≡ Some place → IsOf c e answer service tei event
      → IsAlone c before after answer service tei place event
  pub management : (event : teis.Event) → is_terminal c ≡ false → IsOfManagement c e answer event → IsManaged c before after answer event
  pub terminal : (event : terminals.Event) → is_terminal c ≡ true → IsOfTerminal c e answer event → IsManagedThere c before after answer event
  pub units : (unit : UnitData) → IsGranted e answer unit → (after ≡ record before { units = before.units ++ unit ∷ [] }) × (answer ≡ told nothing)
  pub down : e ≡ request Down → GivesUp before after answer
  pub takes : e ≡ next → (after ≡ lines.after c next before) × (answer ≡ lines.answer c next before)
  pub none : IsOfPart c before e answer ⊎ ((after ≡ before) × SaysNothing answer)
