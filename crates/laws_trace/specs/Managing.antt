-- What an observer of a line knows of its TEIs, by the procedures of Q.921 clause 5.3, and what is due by them: by what
-- terminals say, what management asks for, and T201. Of a terminal's line it is what `OfTerminal` says.
use Rattle.std.specs.Prelude.{ℕ, ◌==◌, ◌&&◌, ◌||◌, not, nat_lt, nat_le, Bool, true, false, List, [], ◌∷◌, ◌++◌, ◌+◌, ◌-◌, ◌*◌, ◌/◌, ◌%◌, length, map, take, drop, filter, fold, Option, Some, None, is_some, if◌then◌else◌}
use Rattle.std.specs.List.{list_any, find, position, range_with_len}
use Rattle.std.specs.Option.{option_and_then, option_map_or, unwrap_or}
use Rattle.lapd_frame.specs.declared.addresses.Side.{Side}
use Rattle.lapd_frame.specs.declared.addresses.Side.TheVariants.{Network, User}
use Rattle.lapd_frame.specs.declared.notes.Note.{Note}
use Rattle.lapd_frame.specs.declared.notes.Note.TheVariants.{Assigned, Removed, Doubled}
use Rattle.lapd_frame.specs.declared.timers.Order.{Order}
use Rattle.lapd_frame.specs.declared.timers.Order.TheVariants.{Start, Stop}
use Rattle.lapd_frame.specs.declared.timers.Timer.TheVariants.{T201}
use Rattle.lapd_frame.specs.Grammar.{Parts}
use Rattle.lapd_frame.specs.Readings.{by_reading}
use Rattle.model_teis.specs.declared.network.remembered.Remembered.{Remembered}
use Rattle.model_teis.specs.declared.network.messages.Message.{Message}
use Rattle.model_teis.specs.declared.network.messages.Message.TheVariants.{IdentityAssigned, IdentityDenied, IdentityCheckRequest, IdentityRemove}
use Rattle.model_line.specs.declared.config.Config.{Config}
use Rattle.model_line.specs.Event.{Event, hears, expiry, request, next}
use Rattle.model_line.specs.Line.{is_terminal}
use Rattle.model_line.specs.Request.{Request, Assign, Remove, Check, Disown, AskTei, VerifyTei, Down}
use Rattle.model_card.specs.Event as card
use Rattle.laws_trace.specs.LinkFrames.{frame_of}
use Rattle.laws_trace.specs.ManagingTerminal as terminal
use Rattle.laws_trace.specs.ManagingTerminal.{OfTerminal, own_on, teis_of, with_tei, without_tei, is_message}

-- A check of a TEI: whether it settles, and its terminals are not asked yet; whether one of them has answered since they were
-- asked; and, once they were asked again, whether one had before (clause 5.3.3.2).
pub record Checked : Type 0 where
  pub tei : ℕ
  pub settles : Bool
  pub answered : Bool
  pub before : Option Bool

-- The TEIs on the line, and their places; the latest four assignments that hold (profile; by annex B none); the check that runs,
-- and the TEIs that are to be checked later; and the messages that are owed to terminals and have not begun, the oldest first. Of
-- a terminal's line, what is known after an event of it. And what is due by the latest event: what is told of TEIs, what is
-- ordered of T201 or T202, how many messages are lost, which begins, in octets, and whether what management asked for is granted.
pub record Managed : Type 0 where
  pub on : List ℕ
  pub places : List (Option ℕ)
  pub held : List Remembered
  pub check : Option Checked
  pub later : List ℕ
  pub owed : List Message
  pub own : Option OfTerminal
  pub notes : List Note
  pub orders : List Order
  pub lost : ℕ
  pub begins : List (List ℕ)
  pub granted : Option Bool

abbrev pub none_on : Managed
none_on = record { on = []; places = []; held = []; check = None; later = []; owed = []; own = None; notes = []; orders = []; lost = 0; begins = []; granted = None }

abbrev pub nothing_due : Managed → Managed
nothing_due w = record w { notes = []; orders = []; lost = 0; begins = []; granted = None }

abbrev pub is_on : ℕ → Managed → Bool
is_on tei w = list_any (λ on. on == tei) w.on

-- A TEI is in use while it is on the line; 127, which means all TEIs, while any is (clause 5.3.4).
abbrev pub is_in_use : ℕ → Managed → Bool
is_in_use tei w = list_any (λ on. tei == 127 || on == tei) w.on

-- One that comes takes the lowest place that is free (profile).
abbrev pub comes : ℕ → Managed → Managed
comes tei w = record w { on = tei ∷ w.on; places = with_tei tei (w.places ++ None ∷ []) }

-- A message is owed, or it is lost where four are (profile).
abbrev pub is_full : Managed → Bool
is_full w = nat_le 4 (length w.owed)

abbrev pub owes : Message → Managed → Managed
owes message w = record w { owed = if is_full w then w.owed else w.owed ++ message ∷ []; lost = if is_full w then w.lost + 1 else w.lost }

-- A terminal asks for a TEI (clause 5.3.2). It gets the one that was assigned to its Ri, if that is held (profile); else the
-- lowest from 64 to 126 that is not on the line, while that has fewer than the configuration has terminals, and there is room
-- for the answer (profile); else it is denied one.
abbrev pub free_tei : Config → Managed → Option ℕ
free_tei c w = if nat_lt (length w.on) c.terminals && not (is_full w) then find (λ tei. not (is_on tei w)) (range_with_len 64 63) else None

abbrev pub gives : Config → ℕ → Option Remembered → Option ℕ → Managed → Managed
gives c ri (Some r) free w = owes (IdentityAssigned ri r.tei) w
gives c ri None (Some tei) w =
    let held = drop (length w.held - 3) (w.held ++ record { ri = ri; tei = tei } ∷ []) in
    owes (IdentityAssigned ri tei) (record (comes tei w) { held = by_reading c.reading held w.held; notes = Assigned tei ∷ [] })
gives c ri None None w = owes (IdentityDenied ri 127) w

abbrev pub asks : Config → ℕ → Managed → Managed
asks c ri w = gives c ri (find (λ (r : Remembered). r.ri == ri) w.held) (free_tei c w) w

-- It asks for any TEI by Ai 127. By annex B that is not served while it is owed one by this Ri, and a request for one of those
-- that are assigned is denied, as others are not served (profile).
abbrev pub is_given : ℕ → Message → Bool
is_given ri (IdentityAssigned own tei) = own == ri
is_given ri other = false

abbrev pub requested : Config → ℕ → ℕ → Managed → Option Managed
requested c ri tei w =
    if tei == 127 then by_reading c.reading (Some (asks c ri w)) (if list_any (is_given ri) w.owed then None else Some (asks c ri w))
    else if nat_le 64 tei && nat_le tei 126 then by_reading c.reading None (Some (owes (IdentityDenied ri tei) w))
    else None

-- The terminals with a TEI are asked whether they are there, and T201 runs (clause 5.3.3.2): where management asks for it, of
-- a TEI on the line, while no check runs (clause 5.3.3), or a terminal; and once more.
abbrev pub may_check : ℕ → Managed → Bool
may_check tei w = is_on tei w && not (is_some w.check)

abbrev pub checks : ℕ → Option Bool → Managed → Managed
checks tei before w =
    record (owes (IdentityCheckRequest tei) w) { check = Some (record { tei = tei; settles = false; answered = false; before = before }); orders = Start T201 ∷ [] }

-- A terminal asks for a check of a TEI on the line (clause 5.3.5). By annex B it is asked at once while another is checked,
-- unless that is owed, and the TEI is to be checked later; in the profile that is not served.
abbrev pub is_asked : ℕ → Message → Bool
is_asked tei (IdentityCheckRequest own) = own == tei
is_asked tei other = false

abbrev pub defers : ℕ → Managed → Managed
defers tei w = record (if list_any (is_asked tei) w.owed then w else owes (IdentityCheckRequest tei) w) { later = tei ∷ w.later }

abbrev pub verified : Config → ℕ → Managed → Option Managed
verified c tei w =
    if not (is_on tei w) then None
    else option_map_or (λ (check : Checked). if check.tei == tei then None else by_reading c.reading None (Some (defers tei w))) w.check (Some (checks tei None w))

-- A check is over. Of the TEIs to be checked later the one at the lowest place is checked next, which settles first: T201 runs,
-- and nothing is asked, so that an answer to what was asked before is not taken for one (profile). If none is, T201 is over, too.
abbrev pub settling : ℕ → Managed → Managed
settling tei w = record w { check = Some (record { tei = tei; settles = true; answered = false; before = None }); orders = Start T201 ∷ [] }

abbrev pub others : ℕ → List ℕ → List ℕ
others tei teis = filter (λ other. not (other == tei)) teis

abbrev pub over : Managed → Managed
over w =
    let next = find (λ tei. list_any (λ later. later == tei) w.later) (teis_of w.places) in
    option_map_or (λ tei. settling tei (record w { later = others tei w.later })) next (record w { check = None; orders = Stop T201 ∷ [] })

-- A TEI that leaves takes its assignment and its checks with it (clause 5.3.4).
abbrev pub leaves : ℕ → Managed → Managed
leaves tei w =
    let left = if option_map_or (λ (check : Checked). check.tei == tei) w.check false then over w else w in
    let held = filter (λ (r : Remembered). not (r.tei == tei)) w.held in
    record left { on = others tei w.on; places = without_tei tei w.places; held = held; later = others tei left.later }

-- It is removed, and its terminals are told so.
abbrev pub removes : ℕ → Managed → Managed
removes tei w = leaves tei (owes (IdentityRemove tei) w)

-- A second answer says that two terminals have the TEI, which is removed (clauses 5.3.3.2 and 5.3.4). One that comes while the
-- check settles says nothing.
abbrev pub responded : ℕ → Managed → Checked → Option Managed
responded tei w check =
    if not (check.tei == tei) then None
    else if check.settles then Some w
    else if check.answered then Some (record (removes tei w) { notes = Doubled tei ∷ [] })
    else Some (record w { check = Some (record check { answered = true }) })

-- By annex B one may answer for several TEIs, 64 at most, in an octet for each, whose bit 1 is 1 in the last alone (clauses 5.3.3.2
-- and 5.3.6). What follows the last is not looked at. In the profile that is not served.
abbrev pub named_by : Managed → List ℕ → Option Managed
named_by w teis =
    option_and_then (λ (check : Checked). if list_any (λ octet. octet / 2 == check.tei) teis then responded check.tei w check else None) w.check

abbrev pub several : Managed → List ℕ → Option Managed
several w octets =
    option_and_then (λ place. if nat_lt place 64 then named_by w (take (place + 1) octets) else None) (position (λ octet. octet % 2 == 1) octets)

-- As T201 runs out, they are asked once more; and then the check is over, and where none answered, the TEI leaves, of
-- which no terminal is told in the profile (clauses 5.3.3.2 and 5.3.4.2). Once a check has settled they are asked.
abbrev pub ran_out : Config → Managed → Checked → Managed
ran_out c w check =
    if check.settles then checks check.tei None w
    else option_map_or (λ before. if before || check.answered then over w else record (by_reading c.reading (leaves check.tei w) (removes check.tei w)) { notes = Removed check.tei ∷ [] })
    check.before (checks check.tei (Some check.answered) w)

-- What a terminal says, in the information of a UI frame to the group, with SAPI 63 (`is_message`): in octets 0F, Ri with its high octet
-- first, the type, and Ai with 1 as its extension bit (clause 5.3.6, its figure and table 8). It asks for a TEI; it answers that
-- it has one; or it asks for a check of one. None is a message that is not served.
abbrev pub by_type : Config → Managed → ℕ → ℕ → ℕ → Option Managed
by_type c w type ri tei =
    if type == 1 then requested c ri tei w
    else if type == 5 then option_and_then (responded tei w) w.check
    else if type == 7 then verified c tei w
    else None

-- These are five octets. By annex B more may follow, and are not looked at; and in an answer for several TEIs bit 1 of the fifth is 0.
abbrev pub ends : List ℕ → Bool
ends [] = true
ends (octet ∷ more) = false

abbrev pub is_one : Config → ℕ → List ℕ → Bool
is_one c action more = by_reading c.reading (ends more) true && action % 2 == 1

abbrev pub by_message : Config → Managed → List ℕ → Option Managed
by_message c w (entity ∷ high ∷ low ∷ type ∷ action ∷ more) =
    if not (entity == 0x0F) then None
    else if is_one c action more then by_type c w type (256 * high + low) (action / 2)
    else if type == 5 then by_reading c.reading None (several w (action ∷ more))
    else None
by_message c w other = None

-- A trunk's end manages no TEI: it serves no message, and removes, checks and disowns none (profile).
abbrev pub manages : Side → Bool
manages Network = true
manages User = false

abbrev pub by_frame : Config → Managed → Parts → Managed
by_frame c w f = if manages c.side && is_message c f then unwrap_or (by_message c w f.info) w else w

-- What management asks for, and whether it is granted (clauses 4.1.1.5, 5.3.3 and 5.3.4). A trunk's end neither removes a TEI, nor
-- checks one, nor disowns one (profile), and only a terminal asks for one or has it verified. A TEI that is disowned is not on the
-- line, and terminals that use it are to give it up (clause 5.3.4). That the line is down is always granted: no message is owed any more, and a check that runs
-- ends without a result (annex B, persistent deactivation).
abbrev pub grants : Bool → Managed → Managed → Managed
grants so after w = record (if so then after else w) { granted = Some so }

abbrev pub by_request : Config → Request → Managed → Managed
by_request c (Assign tei) w = grants (nat_le tei 126 && not (is_on tei w) && nat_lt (length w.on) c.terminals) (comes tei w) w
by_request c (Remove tei) w = grants (manages c.side && is_on tei w && not (is_full w)) (removes tei w) w
by_request c (Check tei) w = grants (manages c.side && may_check tei w && not (is_full w)) (checks tei None w) w
by_request c (Disown tei) w = grants (manages c.side && nat_le tei 127 && not (is_in_use tei w) && not (is_full w)) (owes (IdentityRemove tei) w) w
by_request c AskTei w = grants false w w
by_request c (VerifyTei tei) w = grants false w w
by_request c Down w = record w { check = None; later = []; owed = []; orders = if is_some w.check then Stop T201 ∷ [] else []; granted = Some true }
by_request c other w = w

-- A message in octets: 0F, Ri with its high octet first, the type, and Ai with 1 as its extension bit; a check
-- request and a removal have Ri 0 (clause 5.3.6, its figure and table 8).
abbrev pub octets_of : Message → List ℕ
octets_of (IdentityAssigned ri tei) = 0x0F ∷ (ri / 256) ∷ (ri % 256) ∷ 2 ∷ (2 * tei + 1) ∷ []
octets_of (IdentityDenied ri tei) = 0x0F ∷ (ri / 256) ∷ (ri % 256) ∷ 3 ∷ (2 * tei + 1) ∷ []
octets_of (IdentityCheckRequest tei) = 0x0F ∷ 0 ∷ 0 ∷ 4 ∷ (2 * tei + 1) ∷ []
octets_of (IdentityRemove tei) = 0x0F ∷ 0 ∷ 0 ∷ 6 ∷ (2 * tei + 1) ∷ []

-- What is due by an event of the line, and known behind it. As the line is called for its next frame, the oldest message begins.
abbrev pub by_event : Config → Event → Managed → Managed
by_event c (hears e) w = option_map_or (by_frame c w) (frame_of c e) w
by_event c (expiry T201) w = option_map_or (ran_out c w) w.check w
by_event c (request r) w = by_request c r w
by_event c next w = record w { owed = drop 1 w.owed; begins = map octets_of (take 1 w.owed) }
by_event c other w = w

-- The same of a terminal's line, all of whose TEIs are at its places.
abbrev pub of_terminal : Managed → OfTerminal → Managed
of_terminal w t =
    record w { on = teis_of t.places; own = Some t; notes = t.notes; orders = t.orders; begins = map terminal.octets_of t.begins; granted = t.granted }

abbrev pub own_of : Config → Managed → OfTerminal
own_of c w = record (unwrap_or w.own (own_on c)) { notes = []; orders = []; begins = []; granted = None }

abbrev pub at_terminal : Config → Event → Managed → Managed
at_terminal c e w = option_map_or (of_terminal w) (terminal.by_event c e (own_of c w)) w

abbrev pub due : Config → Event → Managed → Managed
due c e w = if is_terminal c then at_terminal c e (nothing_due w) else by_event c e (nothing_due w)

-- What is known of a line of a card behind an event, and behind a list of them.
abbrev pub led : Config → ℕ → Managed → card.Event → Managed
led c number w e = if e.line == number then due c e.what w else w

abbrev pub managed_after : Config → ℕ → List card.Event → Managed
managed_after c number events = fold (led c number) none_on events
