-- What layer 3 asks of a link is refused, or it takes effect.
use Rattle.std.specs.Prelude.{◌≡◌, ℕ, ◌==◌, not, nat_le, nat_lt, Bool, true, false, List, [], ◌∷◌, ◌++◌, length, take, filter, Some, Result, Ok, Err, if◌then◌else◌}
use Rattle.lapd_frame.specs.declared.controls.Control.TheVariants.{Sabme, Disc}
use Rattle.lapd_frame.specs.declared.notes.Note.{Note}
use Rattle.lapd_frame.specs.declared.notes.Note.TheVariants.{ReleaseIndication, ReleaseConfirm}
use Rattle.lapd_frame.specs.declared.refusals.Refusal.{Refusal}
use Rattle.lapd_frame.specs.declared.refusals.Refusal.TheVariants.{BadTei, NoLink, WrongState, TooLong, QueueFull, PoolFull}
use Rattle.lapd_frame.specs.declared.services.Service.{Service}
use Rattle.model_link.specs.declared.frames.ControlFrame.{ControlFrame}
use Rattle.model_link.specs.Events as link
use Rattle.model_line.specs.declared.config.Config.{Config}
use Rattle.model_line.specs.Event.{refused, request}
use Rattle.model_line.specs.Request.{Request, Deactivate}
use Rattle.laws_link.specs.Waiting.{as_command}
use Rattle.laws_line.specs.Heard.{notes_of}
use Rattle.laws_line.specs.Requests.{of_link}
use Rattle.laws_line.specs.Share.{is_granted}
use Rattle.model_card.specs.Card.{fresh, state}
use Rattle.model_card.specs.Event.{Event, at}
use Rattle.model_card.specs.Run.{after_all}
use Rattle.laws_trace.specs.ControlFrames.{changed}
use Rattle.laws_trace.specs.Managing.{is_on}
use Rattle.laws_trace.specs.News.{awaits_release, is_news}
use Rattle.laws_trace.specs.NoSlotIsLost.{slots_taken}
use Rattle.laws_trace.specs.Observer.{Observed, decides, in_state, moment_of}
use Rattle.laws_trace.specs.Outgoing.{Outgoing, outgoing_of}
use Rattle.laws_trace.specs.Reasons.{may_establish, may_release}
use Rattle.laws_trace.specs.Trace.{is_up}

-- What follows: how the link stands; the control frames that wait, and the contents that it keeps, oldest first; and the news
-- of it that is told at once.
pub record Effect : Type 0 where
  pub link : Observed
  pub waiting : List ControlFrame
  pub kept : List (List ℕ)
  pub told : List Note

-- Nothing does, but that control frames come behind those that wait, as far as there are places (profile).
abbrev pub puts : Config → List ControlFrame → Outgoing → Effect
puts c frames o = record { link = o.view.link; waiting = take c.control (o.waiting ++ frames); kept = o.kept; told = [] }

-- In states 7 and 8 layer 3 comes to be busy, or is so no more.
abbrev pub turns : Config → Bool → Outgoing → Result Effect Refusal
turns c busy o =
    let now = record o.view.link { own_busy = busy } in
    if is_up now.state then Ok (record (puts c (changed o.view.link now) o) { link = now }) else Err WrongState

-- In state 5, by annex B: a confirm of the establishment is due, or of the release, and nothing is kept.
abbrev pub decided : Config → Bool → Outgoing → Effect
decided c establish o = record (puts c [] o) { link = decides c establish o.view.link; kept = [] }

-- By the state of the link what layer 3 asks is refused, or has this effect; the bit says that no slot of the pool is free.
abbrev pub effect : Config → Bool → Service → ℕ → Outgoing → link.Request → Result Effect Refusal
-- SABME waits, and a confirm is due as it is answered (clause 5.5.1.1);
effect c full service tei o link.Establish =
    if o.view.link.state == 4 then Ok (record (puts c (as_command (Sabme true)) o) { link = record (in_state 5) { asked = true } })
    else if may_establish c o.view.link then Ok (decided c true o) else Err WrongState
-- DISC waits, and a confirm is due as it is answered; or that is told of a link that is down (clauses 5.5.3.1 and 5.5.3.2, annex B);
effect c full service tei o link.Release =
    if is_up o.view.link.state then Ok (record (puts c (as_command (Disc true)) o) { link = in_state 6; kept = [] })
    else if o.view.link.state == 4 then Ok (record (puts c [] o) { kept = []; told = ReleaseConfirm service tei ∷ [] })
    else if may_release c o.view.link then Ok (decided c false o) else Err WrongState
-- the contents come behind those that are kept (clause 5.6.1 and profile);
effect c full service tei o (link.Data contents) =
    if not (is_up o.view.link.state) then Err WrongState else if nat_lt c.n201 (length contents) then Err TooLong
    else if nat_le c.queue (length o.kept) then Err QueueFull else if full then Err PoolFull
    else Ok (record (puts c [] o) { kept = o.kept ++ contents ∷ [] })
-- layer 3 is busy, which RNR says, or is so no more, which RR says, unless it was so before (clause 5.6.6).
effect c full service tei o link.SetBusy = turns c true o
effect c full service tei o link.ClearBusy = turns c false o

-- A link that is deactivated is in state 4, has nothing to send, and tells its end (annex B).
abbrev pub deactivated : Service → ℕ → Observed → Effect
deactivated service tei l =
    let told = if l.state == 4 then [] else if awaits_release l then ReleaseConfirm service tei ∷ [] else ReleaseIndication service tei ∷ [] in
    record { link = in_state 4; waiting = []; kept = []; told = told }

-- All of it is refused for a TEI that no terminal has, and for one that is not on the line (profile).
abbrev pub of_tei : ℕ → Outgoing → Result Effect Refusal → Result Effect Refusal
of_tei tei o effect = if nat_lt 126 tei then Err BadTei else if not (is_on tei o.view.teis) then Err NoLink else effect

-- It is granted and takes effect: by the state that `Card::state` tells then, by what is known of the link then, and by the answer.
abbrev pub IsAnswered : Config → List Event → ℕ → Service → ℕ → Request → Result Effect Refusal → Type 0
IsAnswered c events number service tei r (Err why) = (moment_of c events number (request r)).answer ≡ refused why
IsAnswered c events number service tei r (Ok e) =
    let a = (moment_of c events number (request r)).answer in let longer = events ++ at number (request r) ∷ [] in
    let now = outgoing_of c service tei number longer in
    (is_granted a ≡ true) × (state number service tei (after_all (fresh c) longer) ≡ Some e.link.state)
    × (record { link = now.view.link; waiting = now.waiting; kept = now.kept; told = filter (is_news service tei) (notes_of a) } ≡ e)

-- So it is of each request of a link, after whatever happened to the card.
abbrev pub RequestsTakeEffect : Config → List Event → ℕ → Type 0
RequestsTakeEffect c events number =
    (service : Service) (tei : ℕ) → let o = outgoing_of c service tei number events in
    ((asked : link.Request) → IsAnswered c events number service tei (of_link service tei asked) (of_tei tei o (effect c (nat_le c.slots (slots_taken c events)) service tei o asked)))
    × IsAnswered c events number service tei (Deactivate service tei) (of_tei tei o (Ok (deactivated service tei o.view.link)))
