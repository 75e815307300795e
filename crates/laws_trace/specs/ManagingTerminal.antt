-- What an observer of a terminal's line knows of its TEIs, by the procedures of Q.921 clause 5.3, and what is due by them: by
-- what the network says, what management asks for, and T202.
use Rattle.std.specs.Prelude.{ℕ, ◌==◌, ◌&&◌, not, nat_lt, nat_le, Bool, true, false, List, [], ◌∷◌, ◌++◌, ◌+◌, ◌*◌, ◌/◌, ◌%◌, length, map, replicate, take, drop, filter, fold, Option, Some, None, is_some, if◌then◌else◌}
use Rattle.std.specs.List.{list_any, filter_map}
use Rattle.std.specs.Option.{option_and_then, option_map_or, unwrap_or}
use Rattle.lapd_frame.specs.declared.notes.Note.{Note}
use Rattle.lapd_frame.specs.declared.notes.Note.TheVariants.{Assigned, Removed, Denied, Unassigned, RemoveAll}
use Rattle.lapd_frame.specs.declared.timers.Order.{Order}
use Rattle.lapd_frame.specs.declared.timers.Order.TheVariants.{Start, Stop}
use Rattle.lapd_frame.specs.declared.timers.Timer.TheVariants.{T202}
use Rattle.lapd_frame.specs.Grammar.{Parts}
use Rattle.lapd_frame.specs.Readings.{by_reading}
use Rattle.model_teis.specs.declared.terminal.messages.Message.{Message}
use Rattle.model_teis.specs.declared.terminal.messages.Message.TheVariants.{IdentityRequest, IdentityCheckResponse, IdentityVerify}
use Rattle.model_teis.specs.declared.terminal.procedure.Procedure.{Procedure}
use Rattle.model_teis.specs.declared.terminal.procedure.Procedure.TheVariants.{Asking, Verifying}
use Rattle.model_line.specs.declared.config.Config.{Config}
use Rattle.model_line.specs.Event.{Event, hears, expiry, request, next}
use Rattle.model_line.specs.Request.{Request, Assign, Remove, Check, Disown, AskTei, VerifyTei, Down}
use Rattle.laws_trace.specs.LinkFrames.{frame_of}
use Rattle.laws_trace.specs.Units.{is_ui}

-- The TEIs at their places; the reference number that goes next; the procedure that runs, by which a TEI is asked for or verified;
-- and the messages that are owed to the network and have not begun, the oldest first. And what is due by the latest event.
pub record OfTerminal : Type 0 where
  pub places : List (Option ℕ)
  pub number : ℕ
  pub procedure : Option Procedure
  pub owed : List Message
  pub notes : List Note
  pub orders : List Order
  pub begins : List Message
  pub granted : Option Bool

-- As a line begins. The first reference number is the seed (profile).
abbrev pub own_on : Config → OfTerminal
own_on c =
    record { places = replicate c.terminals None; number = unwrap_or c.seed 0 % 65536; procedure = None; owed = []; notes = []; orders = []; begins = []; granted = None }

-- The TEIs on the line, by place; and those of them that an Ai names: each by 127, or this one (clause 5.3.6, table 8).
abbrev pub teis_of : List (Option ℕ) → List ℕ
teis_of places = filter_map (λ place. place) places

abbrev pub is_on : ℕ → OfTerminal → Bool
is_on tei t = list_any (λ on. on == tei) (teis_of t.places)

abbrev pub named : ℕ → OfTerminal → List ℕ
named action t = if action == 127 then teis_of t.places else if is_on action t then action ∷ [] else []

-- A TEI comes to the lowest place that is free, and leaves it free again (profile).
abbrev pub is_free : Option ℕ → Bool
is_free place = not (is_some place)

abbrev pub with_tei : ℕ → List (Option ℕ) → List (Option ℕ)
with_tei tei [] = []
with_tei tei (None ∷ places) = Some tei ∷ places
with_tei tei (Some on ∷ places) = Some on ∷ with_tei tei places

abbrev pub without_tei : ℕ → List (Option ℕ) → List (Option ℕ)
without_tei tei places = map (λ place. if option_map_or (λ on. on == tei) place false then None else place) places

-- No message is owed twice (profile): a newer identity request takes the place of an older one, and one verify, and one check
-- response for a TEI, is enough.
abbrev pub with_request : ℕ → List Message → List Message
with_request ri [] = IdentityRequest ri ∷ []
with_request ri (IdentityRequest old ∷ owed) = IdentityRequest ri ∷ owed
with_request ri (other ∷ owed) = other ∷ with_request ri owed

abbrev pub with_verify : ℕ → List Message → List Message
with_verify tei [] = IdentityVerify tei ∷ []
with_verify tei (IdentityVerify on ∷ owed) = IdentityVerify on ∷ owed
with_verify tei (other ∷ owed) = other ∷ with_verify tei owed

abbrev pub is_response : Message → Bool
is_response (IdentityCheckResponse ri tei) = true
is_response other = false

abbrev pub is_response_for : ℕ → Message → Bool
is_response_for tei (IdentityCheckResponse ri on) = on == tei
is_response_for tei other = false

-- Each message with an Ri of its own has the next number (at random by clause 5.3.2; which one is profile).
abbrev pub next_number : ℕ → ℕ
next_number number = (25173 * number + 13849) % 65536

-- A TEI is asked for, with a new Ri each time (clauses 5.3.2 and 5.3.2.1), or verified (clause 5.3.5), and T202 runs.
abbrev pub asks : ℕ → OfTerminal → OfTerminal
asks attempts t =
    record t { number = next_number t.number; procedure = Some (Asking t.number attempts); owed = with_request t.number t.owed; orders = Start T202 ∷ [] }

abbrev pub verifies : ℕ → ℕ → OfTerminal → OfTerminal
verifies tei attempts t = record t { procedure = Some (Verifying tei attempts); owed = with_verify tei t.owed; orders = Start T202 ∷ [] }

-- A procedure is over, and T202 with it; its message, if it is owed still, is withdrawn (profile).
abbrev pub over : OfTerminal → OfTerminal
over t = record t { procedure = None; owed = filter is_response t.owed; orders = Stop T202 ∷ [] }

abbrev pub is_verified : ℕ → Option Procedure → Bool
is_verified tei (Some (Verifying on attempts)) = on == tei
is_verified tei other = false

abbrev pub verified : ℕ → OfTerminal → OfTerminal
verified tei t = if is_verified tei t.procedure then over t else t

-- A TEI leaves the line (clause 5.3.4): verifying of it is over, and a check response for it is withdrawn (profile).
abbrev pub leaves : ℕ → OfTerminal → OfTerminal
leaves tei t =
    let on = verified tei t in record on { places = without_tei tei on.places; owed = filter (λ message. not (is_response_for tei message)) on.owed }

abbrev pub removed : ℕ → OfTerminal → OfTerminal
removed tei t = record (leaves tei t) { notes = Removed tei ∷ [] }

-- A TEI is assigned (clause 5.3.2). It comes to the line if the terminal asks for one by this Ri, it is one that the network assigns
-- (64 to 126, clause 3.3.4.2), by annex B any of 0 to 126, it is not on the line, and a place is free. One that is on the line was
-- assigned to another terminal: verifying it begins, unless a procedure runs (clause 5.3.4.2 and profile).
abbrev pub by_assigned : Config → ℕ → ℕ → Option Procedure → OfTerminal → Option OfTerminal
by_assigned c ri tei None t = if is_on tei t then Some (verifies tei 1 t) else None
by_assigned c ri tei (Some (Asking own attempts)) t =
    if own == ri && (nat_le (by_reading c.reading 64 0) tei && nat_le tei 126 && not (is_on tei t) && list_any is_free t.places)
    then Some (record (over t) { places = with_tei tei t.places; notes = Assigned tei ∷ [] })
    else None
by_assigned c ri tei (Some (Verifying on attempts)) t = None

-- It is denied one (clause 5.3.2). Management is told, and the terminal goes on asking (profile).
abbrev pub by_denied : ℕ → Option Procedure → OfTerminal → Option OfTerminal
by_denied ri (Some (Asking own attempts)) t = if own == ri then Some (record t { notes = Denied ∷ [] }) else None
by_denied ri other t = None

-- A check of TEIs on the line is answered, each in a message of its own; and the check is what a verify asks for (clauses 5.3.3.2
-- and 5.3.5, and profile).
abbrev pub responds : OfTerminal → ℕ → OfTerminal
responds t tei = if list_any (is_response_for tei) t.owed then t else record t { number = next_number t.number; owed = t.owed ++ IdentityCheckResponse t.number tei ∷ [] }

abbrev pub by_check : List ℕ → OfTerminal → Option OfTerminal
by_check [] t = None
by_check (tei ∷ teis) t = Some (fold (λ t tei. responds (verified tei t) tei) t (tei ∷ teis))

-- A TEI on the line is removed (clause 5.3.4). If more than one is, management is told, and takes them off (profile).
abbrev pub by_remove : List ℕ → OfTerminal → Option OfTerminal
by_remove [] t = None
by_remove (tei ∷ []) t = Some (removed tei t)
by_remove (tei ∷ more) t = Some (record t { notes = RemoveAll ∷ [] })

-- What the network says, in octets as in `octets_of`: by type (clause 5.3.6, table 8). None is a message that is not served. By annex B
-- more octets may follow these five, and are not looked at.
abbrev pub by_five : Config → List ℕ → OfTerminal → Option OfTerminal
by_five c (entity ∷ high ∷ low ∷ type ∷ last ∷ []) t =
    if not (entity == 0x0F && last % 2 == 1) then None
    else if type == 2 then by_assigned c (256 * high + low) (last / 2) t.procedure t
    else if type == 3 && last / 2 == 127 then by_denied (256 * high + low) t.procedure t
    else if type == 4 then by_check (named (last / 2) t) t
    else if type == 6 then by_remove (named (last / 2) t) t
    else None
by_five c other t = None

abbrev pub by_message : Config → List ℕ → OfTerminal → Option OfTerminal
by_message c octets t = by_five c (by_reading c.reading octets (take 5 octets)) t

-- It says so in UI commands to the group, with SAPI 63, of at most N201 octets (clause 5.9.3).
abbrev pub is_message : Config → Parts → Bool
is_message c f = ((f.address.sapi == 63 && f.address.tei == 127) && is_ui f.control) && nat_le (length f.info) c.n201

abbrev pub by_frame : Config → OfTerminal → Parts → Option OfTerminal
by_frame c t f = if is_message c f && f.address.command then by_message c f.info t else None

-- T202 runs out (clauses 5.3.2.1 and 5.3.5). A TEI is asked for three times (N202, clause 5.9.4; constant by profile), and verified
-- twice; and then it is not assigned, or it leaves.
abbrev pub ran_out : Option Procedure → OfTerminal → OfTerminal
ran_out None t = t
ran_out (Some (Asking ri attempts)) t = if nat_lt attempts 3 then asks (attempts + 1) t else record (over t) { notes = Unassigned ∷ [] }
ran_out (Some (Verifying tei attempts)) t = if nat_lt attempts 2 then verifies tei (attempts + 1) t else removed tei t

-- What management asks for, and whether it is granted (clauses 4.1.1.5, 5.3.2, 5.3.4 and 5.3.5). If the line is down, no message is
-- owed any more, and a procedure is over without a result (annex B, persistent deactivation).
abbrev pub grants : Bool → OfTerminal → OfTerminal → Option OfTerminal
grants so after t = Some (record (if so then after else t) { granted = Some so })

abbrev pub by_request : Request → OfTerminal → Option OfTerminal
by_request AskTei t = grants (list_any is_free t.places && not (is_some t.procedure)) (asks 1 t) t
by_request (VerifyTei tei) t = grants (is_on tei t && not (is_some t.procedure)) (verifies tei 1 t) t
by_request (Assign tei) t = grants (nat_le tei 126 && not (is_on tei t) && list_any is_free t.places) (record t { places = with_tei tei t.places }) t
by_request (Remove tei) t = grants (is_on tei t) (leaves tei t) t
by_request (Check tei) t = grants false t t
by_request (Disown tei) t = grants false t t
by_request Down t = Some (record t { procedure = None; owed = []; orders = if is_some t.procedure then Stop T202 ∷ [] else []; granted = Some true })
by_request other t = None

-- What is due by an event of the line, and known after it. None is an event at which nothing is due, and all stays.
abbrev pub by_event : Config → Event → OfTerminal → Option OfTerminal
by_event c (hears e) t = option_and_then (by_frame c t) (frame_of c e)
by_event c (expiry T202) t = Some (ran_out t.procedure t)
by_event c (request r) t = by_request r t
by_event c next t = Some (record t { owed = drop 1 t.owed; begins = take 1 t.owed })
by_event c other t = None

-- A message in octets: 0F, Ri with its high octet first, the type, and Ai with 1 as its extension bit; a request has Ai 127, and a
-- verify Ri 0 (clause 5.3.6, its figure and table 8).
abbrev pub octets_of : Message → List ℕ
octets_of (IdentityRequest ri) = 0x0F ∷ (ri / 256) ∷ (ri % 256) ∷ 1 ∷ 0xFF ∷ []
octets_of (IdentityCheckResponse ri tei) = 0x0F ∷ (ri / 256) ∷ (ri % 256) ∷ 5 ∷ (2 * tei + 1) ∷ []
octets_of (IdentityVerify tei) = 0x0F ∷ 0 ∷ 0 ∷ 7 ∷ (2 * tei + 1) ∷ []
