-- Unit data goes out.
use Rattle.std.specs.Prelude.{◌≡◌, ℕ, ◌==◌, ◌&&◌, not, true, false, Bool, List, [], ◌∷◌, ◌++◌, length, drop, filter, fold, if◌then◌else◌}
use Rattle.std.specs.List.{list_any}
use Rattle.lapd_frame.specs.declared.controls.Control.TheVariants.{Ui}
use Rattle.lapd_frame.specs.declared.senders.Sender.{Sender}
use Rattle.lapd_frame.specs.Grammar.{Parts}
use Rattle.model_line.specs.declared.config.Config.{Config}
use Rattle.model_line.specs.Event as line_event
use Rattle.model_line.specs.Event.{request, next, Answer}
use Rattle.model_line.specs.Request as asked
use Rattle.model_line.specs.Request.{Down}
use Rattle.model_line.specs.Taken.{own_side}
use Rattle.model_card.specs.Card.{fresh}
use Rattle.model_card.specs.Event.{Event}
use Rattle.model_card.specs.Run.{Moment, moments}
use Rattle.laws_line.specs.Share.{is_granted}
use Rattle.laws_trace.specs.FramesAreDue.{text}
use Rattle.laws_trace.specs.LinkFrames.{reads}
use Rattle.laws_trace.specs.Observer.{moment_of}
use Rattle.laws_trace.specs.Trace.{frame_in, IsFront}
use Rattle.laws_trace.specs.Units.{is_ui}

-- A UI, except those of TEI management, which have SAPI 63 (Q.921 clauses 3.6.5 and 5.3.6).
abbrev pub is_unit : Sender → List ℕ → Bool
is_unit sender = reads sender (λ (f : Parts). is_ui f.control && not (f.address.sapi == 63))

-- The frame of unit data is a UI command with P=0, with its service and its TEI, and the contents whole (clauses 3.6.5 and 5.2.2).
-- Those of the unit data that waits, oldest first: from when it is granted until it begins, or the line is down, when what
-- waits is given up (annex B, persistent deactivation).
abbrev pub waits : Config → line_event.Event → Answer → List (List ℕ) → List (List ℕ)
waits c (request (asked.Unit service tei contents)) a units = if is_granted a then units ++ text c service tei true (Ui false) contents ∷ [] else units
waits c (request Down) a units = if is_granted a then [] else units
waits c next a units = drop (length (filter (is_unit (own_side c)) (frame_in a))) units
waits c other a units = units

abbrev pub units_of : Config → List Event → ℕ → List (List ℕ)
units_of c events number = fold (λ units (m : Moment). if m.event.line == number then waits c m.event.what m.answer units else units) [] (moments (fresh c) events)

-- The UI frame that a call for the next frame gives, except those of TEI management, is the first of these.
abbrev pub UnitsGoOut : Config → List Event → ℕ → Type 0
UnitsGoOut c events number = IsFront (filter (is_unit (own_side c)) (frame_in (moment_of c events number next).answer)) (units_of c events number)

-- And where a call gives no UI, none waits: so unit data goes before frames of links (profile).
abbrev pub AllUnitsGoOut : Config → List Event → ℕ → Type 0
AllUnitsGoOut c events number =
    list_any (reads (own_side c) (λ (f : Parts). is_ui f.control)) (frame_in (moment_of c events number next).answer) ≡ false → units_of c events number ≡ []
