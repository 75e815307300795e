-- Why a request is refused.
use Rattle.std.specs.Prelude.{ℕ, ◌==◌, ◌&&◌, ◌||◌, not, true, false, nat_le, nat_lt, Bool, List, [], ◌∷◌, length, Option, is_some, if◌then◌else◌}
use Rattle.lapd_frame.specs.declared.refusals.Refusal.{Refusal}
use Rattle.lapd_frame.specs.declared.refusals.Refusal.TheVariants.{BadTei, NoLink, WrongState, TooLong, QueueFull, PoolFull, WrongSide, TeiTaken, TableFull, CheckRunning, ControlFull}
use Rattle.lapd_frame.specs.declared.services.Service.{Service}
use Rattle.lapd_frame.specs.Readings.{by_reading}
use Rattle.model_line.specs.declared.config.Config.{Config}
use Rattle.model_line.specs.Event as line_event
use Rattle.model_line.specs.Event.{request}
use Rattle.model_line.specs.Line.{is_terminal}
use Rattle.model_line.specs.Request.{Establish, Release, Data, Unit, Assign, Remove, Check, Disown, AskTei, VerifyTei, SetBusy, ClearBusy, Deactivate}
use Rattle.model_card.specs.Event.{Event}
use Rattle.laws_trace.specs.Configurations.{first_of}
use Rattle.laws_trace.specs.Managing.{Managed, is_on, is_in_use, is_full, manages, managed_after, own_of}
use Rattle.laws_trace.specs.NoSlotIsLost.{slots_taken}
use Rattle.laws_trace.specs.Observer.{Observed, view_of}
use Rattle.laws_trace.specs.Outgoing.{outgoing_of}
use Rattle.laws_trace.specs.Trace.{is_up}
use Rattle.laws_trace.specs.UnitsGoOut.{units_of}

-- What is asked of a TEI is refused if no terminal may have it, or if it is not on the line; and for others (profile).
abbrev pub of_tei : ℕ → Managed → List (Bool × Refusal) → List (Bool × Refusal)
of_tei tei w others = (nat_lt 126 tei, BadTei) ∷ (not (is_on tei w), NoLink) ∷ others

-- By its state a link is established in state 4, and released in states 4, 7 and 8 (Q.921 clauses 5.5.1.1 and 5.5.3.1). By annex B it
-- is in state 5, too; but it is not released there while a release is owed.
abbrev pub may_establish : Config → Observed → Bool
may_establish c o = o.state == 4 || (o.state == 5 && by_reading c.reading false true)

abbrev pub may_release : Config → Observed → Bool
may_release c o = is_up o.state || o.state == 4 || (o.state == 5 && by_reading c.reading false (not o.owed))

-- The reasons in order (profile). In states 7 and 8 a link has data sent, and layer 3 is busy, or is so no more (clauses 5.6.1 and
-- 5.6.6). Contents have at most N201 octets, and for them a place is left, and a slot (clause 5.9.3 and profile). Unit data is
-- also, from the network's side, for the group, TEI 127 (clause 5.2.2).
--
-- What management asks for is of a terminal's TEI. A trunk's end removes none; the network's side alone checks and disowns one, and a
-- terminal alone asks for one, or has it verified. The TEI is on the line, or to be assigned or disowned it is not; a place is left for
-- it; no check runs, and no procedure of a terminal; and the network's side owes fewer than four messages. A terminal refuses nothing for
-- want of room for a message. That the line is down is refused for no reason, and no other event is.
abbrev pub reasons : Config → List Event → ℕ → Managed → (Service → ℕ → Observed) → line_event.Event → List (Bool × Refusal)
reasons c events number w links (request (Establish service tei)) = of_tei tei w ((not (may_establish c (links service tei)), WrongState) ∷ [])
reasons c events number w links (request (Release service tei)) = of_tei tei w ((not (may_release c (links service tei)), WrongState) ∷ [])
reasons c events number w links (request (Data service tei contents)) =
    of_tei tei w ((not (is_up (links service tei).state), WrongState) ∷ (nat_lt c.n201 (length contents), TooLong)
    ∷ (nat_le c.queue (length (outgoing_of c service tei number events).kept), QueueFull) ∷ (nat_le c.slots (slots_taken c events), PoolFull) ∷ [])
reasons c events number w links (request (SetBusy service tei)) = of_tei tei w ((not (is_up (links service tei).state), WrongState) ∷ [])
reasons c events number w links (request (ClearBusy service tei)) = of_tei tei w ((not (is_up (links service tei).state), WrongState) ∷ [])
reasons c events number w links (request (Deactivate service tei)) = of_tei tei w []
reasons c events number w links (request (Unit service tei contents)) =
    (nat_lt (if manages c.side then 127 else 126) tei, BadTei) ∷ (not (tei == 127) && not (is_on tei w), NoLink) ∷ (nat_lt c.n201 (length contents), TooLong)
    ∷ (nat_le c.unit_queue (length (units_of c events number)), QueueFull) ∷ (nat_le c.slots (slots_taken c events), PoolFull) ∷ []
reasons c events number w links (request (Assign tei)) = (nat_lt 126 tei, BadTei) ∷ (is_on tei w, TeiTaken) ∷ (not (nat_lt (length w.on) c.terminals), TableFull) ∷ []
reasons c events number w links (request (Remove tei)) =
    (not (manages c.side || is_terminal c), WrongSide) ∷ of_tei tei w ((not (is_terminal c) && is_full w, ControlFull) ∷ [])
reasons c events number w links (request (Check tei)) =
    (not (manages c.side), WrongSide) ∷ of_tei tei w ((is_some w.check, CheckRunning) ∷ (is_full w, ControlFull) ∷ [])
reasons c events number w links (request (Disown tei)) =
    (not (manages c.side), WrongSide) ∷ (nat_lt 127 tei, BadTei) ∷ (is_in_use tei w, TeiTaken) ∷ (is_full w, ControlFull) ∷ []
reasons c events number w links (request AskTei) =
    (not (is_terminal c), WrongSide) ∷ (not (nat_lt (length w.on) c.terminals), TableFull) ∷ (is_some (own_of c w).procedure, CheckRunning) ∷ []
reasons c events number w links (request (VerifyTei tei)) = (not (is_terminal c), WrongSide) ∷ of_tei tei w ((is_some (own_of c w).procedure, CheckRunning) ∷ [])
reasons c events number w links other = []

-- The first that holds, to an observer, after whatever happened to the card.
abbrev pub refusal_due : Config → List Event → ℕ → line_event.Event → Option Refusal
refusal_due c events number what =
    first_of (reasons c events number (managed_after c number events) (λ service tei. (view_of c service tei number events).link) what)
