-- Whether layer 3 asked, and whether I-frames are outstanding: a part of what an observer knows; and by it the news.
use Rattle.laws_trace.proofs.Vocabulary.{◌≡◌, ℕ, ◌==◌, ◌&&◌, ◌||◌, not, Bool, true, false, List, [], ◌∷◌, ◌++◌, fold, map, filter, Option, Some, None, option_map_or, is_own, is_granted, Answer, Request, Establish, Release, request, if◌then◌else◌, list_any, ErrorCode, Note, EstablishIndication, EstablishConfirm, ReleaseIndication, ReleaseConfirm, Error, Service, Config, notes_of, at, moments}
use Rattle.laws_trace.proofs.Vocabulary.{unwrap_or, NoteXid as Xid, fresh, CardEvent as Event}
use Rattle.laws_trace.proofs.Vocabulary.{card_answer as answer, Moment, after_all, is_news, is_sabme, is_xid, releases, wrong, seen_in}
use Rattle.lapd_frame.specs.Readings.{by_reading}
use Rattle.model_line.specs.Event as line_event
use Rattle.laws_trace.proofs.TimersWatched.{Known, nothing_yet, watch, brings}
use Rattle.laws_trace.proofs.States.{is_state, state_before, state_after, differ}

-- Whether it was asked for the establishment that a link in state 5 awaits, as it is from state 4, or this side began it
-- (clauses 5.5.1.1, 5.5.4 and 5.7.2); and whether a release is owed.
pub record Wanted : Type 0 where
  pub asked : Bool
  pub owed : Bool

abbrev pub none_wanted : Wanted
none_wanted = record { asked = false; owed = false }

-- By annex B layer 3 decides in state 5, for the establishment, which the bit says, or for the release.
abbrev pub wish_in : Config → Service → ℕ → Request → Option Bool
wish_in c service tei (Establish of by) = if is_own service tei of by then by_reading c.reading None (Some true) else None
wish_in c service tei (Release of by) = if is_own service tei of by then by_reading c.reading None (Some false) else None
wish_in c service tei other = None

abbrev pub wish_of : Config → Service → ℕ → line_event.Event → Answer → Option Bool
wish_of c service tei (request r) a = if is_granted a then wish_in c service tei r else None
wish_of c service tei other a = None

abbrev pub with_wish : Option Bool → Wanted → Wanted
with_wish wish w = record { asked = unwrap_or wish w.asked; owed = option_map_or not wish w.owed }

abbrev pub newly : Bool → Wanted
newly b = record { asked = b; owed = false }

abbrev pub then_wanted : Option ℕ → Option ℕ → Option Bool → Wanted → Wanted
then_wanted from to wish w = if is_state 5 to && differ from to then newly (is_state 4 from) else with_wish wish w

abbrev pub asked : Service → ℕ → ℕ → Wanted → Moment → Wanted
asked service tei number was m =
    if m.event.line == number then then_wanted (state_before service tei number m) (state_after service tei number m) (wish_of m.card.config service tei m.event.what m.answer) was
    else was

-- And whether an I-frame is outstanding: in state 5, as it was where the link came there, and none once layer 3 decides.
pub record Owing : Type 0 where
  pub known : Known
  pub outstanding : Bool

abbrev pub none_owed : Owing
none_owed = record { known = nothing_yet; outstanding = false }

abbrev pub none_left : Bool → Bool
none_left b = false

abbrev pub then_owes : Option ℕ → Option ℕ → Option Bool → Bool → Bool → Bool
then_owes from to wish was rests = if is_state 5 to then (if differ from to then was else option_map_or none_left wish was) else rests

abbrev pub owing : Config → Service → ℕ → ℕ → Owing → Moment → Owing
owing c service tei number w m =
    let k = watch c service tei number w.known m in
    let wish = if m.event.line == number then wish_of c service tei m.event.what m.answer else None in
    record { known = k; outstanding = then_owes (state_before service tei number m) (state_after service tei number m) wish w.outstanding (not (k.next == k.acknowledged)) }

-- What is due as a link comes from one state to another, or stays in it. Where it comes to state 7 from state 4, the
-- terminal established it, which is an indication; from state 5 a confirm, if layer 3 asked for it; and if not, or if
-- the terminal establishes a link anew by SABME, an indication where I-frames are outstanding, or nothing (clauses
-- 5.5.1.2 and 5.7). Where it comes to state 4 from state 6, or while a release is owed, and where layer 3 releases a link in state 4, that is a
-- confirm, and from other states an indication (clauses 5.5.1.2, 5.5.1.3, 5.5.3.2 and 5.5.3.3). XID is told, and moves
-- nothing (profile). Errors go first.
abbrev pub due : Service → ℕ → List ErrorCode → Wanted → Bool → Bool → Bool → Bool → ℕ → ℕ → List Note
due service tei errors was xid sabme released outstanding from to =
    map (Error service tei) errors ++ (if xid then Xid service tei ∷ []
    else if to == 7 then
    (if from == 4 then EstablishIndication service tei ∷ [] else if from == 5 && was.asked then EstablishConfirm service tei ∷ []
    else if (from == 5 || sabme) && outstanding then EstablishIndication service tei ∷ [] else [])
    else if to == 4 then
    (if from == 6 || (from == 5 && was.owed) || (from == 4 && released) then ReleaseConfirm service tei ∷ [] else if from == 4 then [] else ReleaseIndication service tei ∷ [])
    else [])

-- So the notes of a link, of these kinds, in the answer to an event at the line are exactly what is due, where its TEI
-- is on the line before it. A link whose TEI leaves comes to state 4 (clause 5.3.4).
abbrev pub NewsIsTold : Config → List Event → ℕ → Type 0
NewsIsTold c events number =
    (service : Service) (tei : ℕ) (before : List Event) (what : line_event.Event) (behind : List Event) →
    events ≡ before ++ at number what ∷ behind →
    let card = after_all (fresh c) before in
    let m : Moment = record { card = card; event = at number what; answer = answer (at number what) card } in
    let was_asked = fold (asked service tei number) none_wanted (moments (fresh c) before) in
    let w = fold (owing c service tei number) none_owed (moments (fresh c) before) in
    (from : ℕ) → state_before service tei number m ≡ Some from →
    let now = seen_in number m in
    filter (is_news service tei) (notes_of m.answer)
    ≡ due service tei (wrong c service tei what from (unwrap_or (state_after service tei number m) 1)) was_asked (list_any (brings is_xid c service tei) now) (list_any (brings is_sabme c service tei) now) (releases service tei what m.answer)
    w.outstanding from (unwrap_or (state_after service tei number m) 4)
