-- The cause of each drop is told, and no other: the law.
use Rattle.laws_trace.proofs.Vocabulary.{◌≡◌, ℕ, ◌<◌, ◌==◌, ◌&&◌, ◌||◌, Bool, true, false, or-true, cond, List, Option, Some, None, Ok, Err, Result, refl, sym, ap, ◌∙◌, subst, arith, leb-true, eqb-true, and_parts, nat_le, length, is_some, option_map_or, PoolFull, ReadFault, BadExtension, Address, Side, Service, Long, Parts, reading, service_of}
use Rattle.laws_trace.proofs.Vocabulary.{Terms, Link, state_number, State, Received, received, frame, undefined, wrong_size, overlong, LinkEvent, link_told, begun, Config, hears, expiry, request, next, Answer, refused, Line, state_of, state_in, place_in, terms, link_in, at_link, at_management, at_none, of_aim, LinkRequest, requested, expired, cleared, at_requested}
use Rattle.laws_trace.proofs.Vocabulary.{at_deactivated, at_timer, aim_of_expiry, aim_of_request}
use Rattle.laws_trace.proofs.Vocabulary.{unless_refused, unless_refused_told, refusal, Refusal, Request, Timer, TimerT200, TimerT203, T201, LinkTimer, T200, T203, Aim, addressed, aim_of_reading, aim_of_long, heard_side, message_of, at_side, IsToGroup, group-read, IsSound as IsSoundLine, Card, line_at, is_full, at, always_sound, fresh_is_sound, has_lines, by_room, config-stays, fresh}
use Rattle.laws_trace.proofs.Vocabulary.{CardEvent as Event, card_answer}
use Rattle.laws_trace.proofs.Vocabulary.{after_all, IsAtLine, CardIsSound as IsSound, line_sound as sound-at, stream_frame, Managed, managed_after, view_of, is_unit_taken, IfSome, Always, is_ui, is_up, not, tei_message, tei_assign, tei_remove, tei_check, tei_disown}
use Rattle.laws_trace.proofs.Vocabulary.{told, dropped, none-some, Assign, Checking, ClearBusy, Data, Deactivate, Disown, Down, Establish, Release, Remove, SetBusy, LinkClearBusy, LinkData, LinkEstablish, LinkRelease, LinkSetBusy}
use Rattle.lapd_frame.specs.declared.controls.Control.{Control}
use Rattle.lapd_frame.specs.declared.timers.Timer.TheVariants.{T202}
use Rattle.model_teis.specs.network.Events.{expiry as tei_expiry}
use Rattle.model_teis.specs.terminal.Events as terminals
use Rattle.model_bits.specs.declared.heard.Cause.{Cause}
use Rattle.model_bits.specs.declared.heard.Cause.TheVariants.{Sapi, Tei, Unserved}
use Rattle.lapd_frame.specs.declared.faults.ReadFault.TheVariants.{Undefined, WrongSize, Short}
use Rattle.lapd_frame.specs.declared.overlong.Long.TheVariants as long
use Rattle.model_line.specs.Event as line_event
use Rattle.model_line.specs.Request as asked
use Rattle.model_line.specs.Effect.{unserved_cause}
use Rattle.model_line.specs.Heard.{aim_of_unnumbered, drop_for, at_place, to_service, unless_at_link}
use Rattle.model_line.specs.Laws.{cause_in}
use Rattle.model_line.specs.Line.{is_terminal}
use Rattle.model_line.specs.Machine as lines
use Rattle.model_line.specs.Sides.{managed_at}
use Rattle.model_line.proofs.Drops.{heard_leaves}
use Rattle.model_link.specs.Requests.{release_in}
use Rattle.model_link.specs.Machine.{told_of_clearing}
use Rattle.laws_trace.specs.CausesAreTold.{CausesAreTold, by_address, by_fault, by_frame, by_long, cause_due, serves, serves_information, unless}
use Rattle.lapd_frame.specs.Readings.{by_reading}
use Rattle.lapd_frame.specs.declared.readings.Reading.{Reading}
use Rattle.lapd_frame.specs.declared.readings.Reading.TheVariants.{Profile, AnnexB}
use Rattle.laws_trace.specs.LinkFrames.{is_annex_b, is_too_long}
use Rattle.laws_trace.specs.News.{minds}
use Rattle.laws_trace.specs.Managing.{is_on, manages}
use Rattle.laws_trace.proofs.CausesOfSide.{Serves, down-quiet, managed-quiet, named, own-quiet, serves-known}
use Rattle.laws_trace.proofs.Known.{knows-now}
use Rattle.laws_trace.proofs.ObservedLaws.{moved-so}
use Rattle.laws_trace.proofs.ObservedRun.{is-told}
use Rattle.laws_trace.proofs.LineAtEnd.{line-at-end}

-- What a link serves of what it receives.
abbrev served_by : Config → Received → ℕ → Bool
served_by c (frame f) state = cond (is_ui f.control) (nat_le (length f.info) c.n201 || is_annex_b c) (serves c (is_too_long c f) f.control state)
served_by c other state = minds c state

module _ (c : Config) (service : Service) (tei : ℕ) (l : Link) where
  abbrev ServesAsSeen : Received → Type 0
  ServesAsSeen r = (link_told (terms c service tei) (received r) l).unserved ≡ not (served_by c r (state_number l.state))

  frame-serves : (address : Address) (control : Control) (info : List ℕ) → ServesAsSeen (frame (record { address = address; control = control; info = info }))
  frame-serves address control info = grind arith

  received-serves : (r : Received) → ServesAsSeen r
  received-serves other = grind (arith, frame-serves)

named-unless : (b : Bool) → unserved_cause (not b) ≡ unless b
named-unless b = grind arith

-- Nothing else is left unserved.
abbrev is_received : LinkEvent → Bool
is_received (received r) = true
is_received other = false

releases : (t : Terms) (here : State) (l : Link) → (release_in here t (begun l)).unserved ≡ false
releases t here l = grind arith

clears : (t : Terms) (here : State) (l : Link) → (told_of_clearing here t (begun l)).unserved ≡ false
clears t here l = grind arith

others-serve : (t : Terms) (e : LinkEvent) (l : Link) → is_received e ≡ false → (link_told t e l).unserved ≡ false
others-serve t e l none = grind (arith, releases, clears)

-- The user's side serves UI of a service to the group.
abbrev is_for_group : Config → Parts → Bool
is_for_group c f =
    not (manages c.side) && (f.address.tei == 127 && is_some (service_of f.address.sapi)) && (is_ui f.control && nat_le (length f.info) c.n201)

group-told : (c : Config) (f : Parts) (w : Managed) → is_for_group c f ≡ true → (is_some (service_of f.address.sapi) && is_unit_taken c f.address.tei w f) ≡ true
group-told c f w for = grind arith

group-to : (c : Config) (f : Parts) → is_for_group c f ≡ true → (o : Option Service) → service_of f.address.sapi ≡ o → (service : Service) × IsToGroup c f service
group-to c f for o is = grind (arith, is_some, eqb-true, leb-true)

-- What an answer says of a cause that is due.
abbrev Names : Option Cause → Answer → Type 0
Names due a = (cause_in a ≡ due) × IfSome due (λ cause. a ≡ told (dropped cause))

-- A link is, to an observer, as it stands on the line.
abbrev Agree : Line → Managed → (Service → ℕ → ℕ) → Type 0
Agree l w states = (service : Service) (tei : ℕ) → state_of service tei l ≡ cond (is_on tei w) (Some (states service tei)) None

-- What is for a link is for one on the line, in its state.
module _ (c : Config) (l : Line) (w : Managed) (states : Service → ℕ → ℕ) (agree : Agree l w states) where
  module _ (seen : Aim → Option Cause) (served : ℕ → Bool) (what : Received) (drops : (cause : Cause) → seen (drop_for cause) ≡ Some cause)
      (links : (service : Service) (tei place : ℕ) → seen (at_link service tei place (received what)) ≡ unless (served (state_in l service place))) where
    there : (service : Service) (tei : ℕ) (o : Option ℕ) → place_in l tei ≡ o
        → seen (at_place service tei what o) ≡ cond (is_on tei w) (unless (served (states service tei))) (Some Tei)
    there service tei o is = grind (arith, agree, drops, links)

    to-services : (tei : ℕ) (o : Option Service)
        → seen (to_service l tei what o) ≡ option_map_or (λ service. cond (is_on tei w) (unless (served (states service tei))) (Some Tei)) o (Some Sapi)
    to-services tei o = grind (arith, there)

    addresseds : (a : Address) (m : Aim) (b : Bool) → seen m ≡ unless b → seen (addressed l a what m) ≡ by_address w states served b a
    addresseds a m b is = grind (arith, drops, to-services)

  -- A link's own.
  links-named : (what : Received) (service : Service) (tei place : ℕ) → named c l (at_link service tei place (received what)) ≡ unless (served_by c what (state_in l service place))
  links-named what service tei place = ap unserved_cause (received-serves c service tei (link_in l service place) what) ∙ named-unless (served_by c what (state_in l service place))

  abbrev malformed : Address → Option Cause
  malformed = by_address w states (minds c) false

  faults : (fault : ReadFault) → named c l (aim_of_reading c l (Err fault)) ≡ by_fault malformed fault
  faults BadExtension = refl
  faults (Undefined a) = addresseds (named c l) (minds c) undefined (λ cause. refl) (links-named undefined) a (drop_for Unserved) false refl
  faults (WrongSize a) = addresseds (named c l) (minds c) wrong_size (λ cause. refl) (links-named wrong_size) a (drop_for Unserved) false refl
  faults Short = refl

  long-units : (ui : Bool) (a : Address) (q : Reading) → c.reading ≡ q
      → named c l (aim_of_unnumbered q ui (addressed l a overlong (drop_for Unserved))) ≡ by_address w states (λ state. ui && by_reading q false true) false a
  long-units false a q is = addresseds (λ aim. named c l (unless_at_link aim)) (λ state. false) overlong (λ cause. refl) (λ service tei place. refl) a (drop_for Unserved) false refl
  long-units true a Profile is = addresseds (λ aim. named c l (unless_at_link aim)) (λ state. false) overlong (λ cause. refl) (λ service tei place. refl) a (drop_for Unserved) false refl
  long-units true a AnnexB is =
      addresseds (named c l) (λ state. true) overlong (λ cause. refl)
      (λ service tei place. let state = state_in l service place in links-named overlong service tei place ∙ ap (λ q. unless (is_up state || by_reading q false true)) is ∙ ap unless (or-true (is_up state)))
      a (drop_for Unserved) false refl

  longs : (ui : Bool) (r : Result Long ReadFault) → named c l (aim_of_long c.reading ui l r) ≡ by_long c ui w states r
  longs ui (Ok (long.Information a)) = addresseds (named c l) (minds c) overlong (λ cause. refl) (links-named overlong) a (drop_for Unserved) false refl
  longs ui (Ok (long.Unnumbered a)) = long-units ui a c.reading refl
  longs ui (Err BadExtension) = refl
  longs ui (Err (Undefined a)) = addresseds (named c l) (minds c) undefined (λ cause. refl) (links-named undefined) a (drop_for Unserved) false refl
  longs ui (Err (WrongSize a)) = addresseds (named c l) (minds c) wrong_size (λ cause. refl) (links-named wrong_size) a (drop_for Unserved) false refl
  longs ui (Err Short) = refl

  -- A frame that the grammar has, by the side; but for unit data that is told.
  module _ (served : Serves c l w) (f : Parts) where
    abbrev is_told : Bool
    is_told = is_some (service_of f.address.sapi) && is_unit_taken c f.address.tei w f

    abbrev its_message : Bool
    its_message = (is_ui f.control && nat_le (length f.info) c.n201 && (manages c.side || (is_terminal c && f.address.command))) && serves_information c w f.info

    -- where the frame is of no unit data for the group
    module _ (alone : is_for_group c f ≡ false) where
      drops-so : (cause : Cause) → named c l (at_side c f (drop_for cause)) ≡ Some cause
      drops-so cause = grind arith

      -- a message is that of the side
      by-user : (b : Bool) (info : List ℕ) → named c l (cond b (at_management (tei_message info)) (at_none (dropped Unserved))) ≡ unless (b && serves_information c w info)
      by-user b info = grind arith

      by-side : (side : Side) (info : List ℕ)
          → named c l (managed_at c f side (tei_message info)) ≡ unless ((manages side || (is_terminal c && f.address.command)) && serves_information c w info)
      by-side side info = grind (arith, by-user)

      -- and none is too long
      by-size : (b : Bool) (info : List ℕ) → named c l (cond b (managed_at c f c.side (tei_message info)) (at_none (dropped Unserved)))
          ≡ unless ((b && (manages c.side || (is_terminal c && f.address.command))) && serves_information c w info)
      by-size b info = grind (arith, by-side)

      message-so : named c l (at_side c f (message_of f.control f.info)) ≡ unless its_message
      message-so = grind (arith, by-size, drops-so)

      frames : named c l (aim_of_reading c l (Ok f)) ≡ by_address w states (served_by c (frame f)) its_message f.address
      frames =
          addresseds (λ aim. named c l (at_side c f aim)) (served_by c (frame f)) (frame f) drops-so (links-named (frame f)) f.address
          (message_of f.control f.info) its_message message-so

    -- Unit data of a TEI on the line is told, and any other UI is not served.
    abbrev by_served : (ℕ → Bool) → Option Service → Option Cause
    by_served served o = option_map_or (λ service. cond (is_on f.address.tei w) (unless (served (states service f.address.tei))) (Some Tei)) o (Some Sapi)

    as-due : is_for_group c f ≡ false → (o : Option Service) → service_of f.address.sapi ≡ o
        → by_served (served_by c (frame f)) o ≡ cond (is_some o && is_unit_taken c f.address.tei w f) None (by_served (serves c (is_too_long c f) f.control) o)
    as-due alone o is = grind arith

    abbrev managing : Option Cause
    managing = cond (f.address.tei == 127) (unless its_message) (Some Tei)

    by-due : is_for_group c f ≡ false
        → by_address w states (served_by c (frame f)) its_message f.address ≡ cond is_told None (by_address w states (serves c (is_too_long c f) f.control) its_message f.address)
    by-due alone = go (f.address.sapi == 63) refl (as-due alone (service_of f.address.sapi) refl)
      where
        go : (b : Bool) → (f.address.sapi == 63) ≡ b
            → by_served (served_by c (frame f)) (service_of f.address.sapi) ≡ cond is_told None (by_served (serves c (is_too_long c f) f.control) (service_of f.address.sapi))
            → cond b managing (by_served (served_by c (frame f)) (service_of f.address.sapi)) ≡ cond is_told None (cond b managing (by_served (serves c (is_too_long c f) f.control) (service_of f.address.sapi)))
        go true is same = ap (λ o. cond (is_some o && is_unit_taken c f.address.tei w f) None managing) (sym (ap service_of (eqb-true f.address.sapi 63 is)))
        go false is same = same

-- A request, and an expiry, name none.
module _ (c : Config) (l : Line) where
  links-quiet : (service : Service) (tei place : ℕ) (e : LinkEvent) → is_received e ≡ false → named c l (at_link service tei place e) ≡ None
  links-quiet service tei place e none = ap unserved_cause (others-serve (terms c service tei) e (link_in l service place) none)

  asked-quiet : (service : Service) (tei : ℕ) (asked : LinkRequest) (o : Option ℕ) → named c l (at_requested service tei asked o) ≡ None
  asked-quiet service tei asked o = grind (arith, links-quiet, requested)

  deactivated-quiet : (service : Service) (tei : ℕ) (o : Option ℕ) → named c l (at_deactivated service tei o) ≡ None
  deactivated-quiet service tei o = grind (arith, links-quiet, cleared)

  request-quiet : (r : Request) → named c l (aim_of_request r l) ≡ None
  request-quiet (Establish service tei) = asked-quiet service tei LinkEstablish (place_in l tei)
  request-quiet (Release service tei) = asked-quiet service tei LinkRelease (place_in l tei)
  request-quiet (Data service tei contents) = asked-quiet service tei (LinkData contents) (place_in l tei)
  request-quiet (SetBusy service tei) = asked-quiet service tei LinkSetBusy (place_in l tei)
  request-quiet (ClearBusy service tei) = asked-quiet service tei LinkClearBusy (place_in l tei)
  request-quiet (asked.Unit service tei contents) = refl
  request-quiet (Assign tei) = managed-quiet c l (tei_assign tei) refl refl
  request-quiet (Remove tei) = managed-quiet c l (tei_remove tei) refl refl
  request-quiet (Checking tei) = managed-quiet c l (tei_check tei) refl refl
  request-quiet (Disown tei) = managed-quiet c l (tei_disown tei) refl refl
  request-quiet asked.AskTei = own-quiet c l terminals.ask refl
  request-quiet (asked.VerifyTei tei) = own-quiet c l (terminals.verify tei) refl
  request-quiet (Deactivate service tei) = deactivated-quiet service tei (place_in l tei)
  request-quiet Down = down-quiet c l

  unless-quiet : (r : Request) (o : Option Refusal) → cause_in (unless_refused_told o (of_aim c (unless_refused o (aim_of_request r l)) l)) ≡ None
  unless-quiet r o = grind (arith, request-quiet)

  timer-quiet : (service : Service) (tei : ℕ) (timer : LinkTimer) (o : Option ℕ) → named c l (at_timer service tei timer o) ≡ None
  timer-quiet service tei timer o = grind (arith, links-quiet, expired)

  expiry-quiet : (timer : Timer) → named c l (aim_of_expiry timer l) ≡ None
  expiry-quiet (TimerT200 service tei) = timer-quiet service tei T200 (place_in l tei)
  expiry-quiet (TimerT203 service tei) = timer-quiet service tei T203 (place_in l tei)
  expiry-quiet T201 = managed-quiet c l tei_expiry refl refl
  expiry-quiet T202 = own-quiet c l terminals.expiry refl

-- Events of a line.
module _ (c : Config) (l : Line) (s : IsSoundLine c l) (w : Managed) (states : Service → ℕ → ℕ) (agree : Agree l w states) (served : Serves c l w) where
  abbrev cause_after : line_event.Event → Option Cause
  cause_after e = cause_in (lines.answer c e l)

  frame-heard : (octets : List ℕ) (r : Result Parts ReadFault) → reading (heard_side c) octets ≡ r → cause_after (hears (stream_frame octets)) ≡ by_frame c w states r
  unfolding lines.answer
  frame-heard octets (Err fault) is = ap (λ r. named c l (aim_of_reading c l r)) is ∙ faults c l w states agree fault
  frame-heard octets (Ok f) is = go (is_for_group c f) refl
    where
      go : (b : Bool) → is_for_group c f ≡ b → cause_after (hears (stream_frame octets)) ≡ by_frame c w states (Ok f)
      go true for =
          let to = group-to c f for (service_of f.address.sapi) refl in
          ap cause_in (group-read c l f octets to.0 s is to.1).answer_is
          ∙ sym (ap (λ b. cond b None (by_address w states (serves c (is_too_long c f) f.control) ((is_ui f.control && nat_le (length f.info) c.n201 && (manages c.side || (is_terminal c && f.address.command))) && serves_information c w f.info) f.address)) (group-told c f w for))
      go false alone = ap (λ r. named c l (aim_of_reading c l r)) is ∙ frames c l w states agree served f alone ∙ by-due c l w states agree served f alone

  cause-is : (e : line_event.Event) → cause_after e ≡ cause_due c w states e
  unfolding lines.answer
  cause-is e = grind (arith, frame-heard, longs, expiry-quiet, unless-quiet)

  -- Where one is named, nothing else is said.
  alone-named : (e : line_event.Event) (o : Option Cause) → cause_after e ≡ o → IfSome o (λ cause. lines.answer c e l ≡ told (dropped cause))
  unfolding lines.answer
  alone-named e None is = tt
  alone-named (hears e) (Some cause) is = (heard_leaves c e l cause is).0
  alone-named (expiry timer) (Some cause) is = absurd (none-some cause (sym (expiry-quiet c l timer) ∙ is))
  alone-named (request r) (Some cause) is = absurd (none-some cause (sym (unless-quiet c l r (refusal c false r l)) ∙ is))
  alone-named next (Some cause) is = absurd (none-some cause is)

  names : (e : line_event.Event) → Names (cause_due c w states e) (lines.answer c e l)
  names e = (cause-is e, alone-named e (cause_due c w states e) (cause-is e))

-- A request that finds the pool full names none.
full-names : (states : Service → ℕ → ℕ) (w : Managed) (c : Config) (e : line_event.Event) (l : Line) → lines.takes_slot c e l ≡ true → Names (cause_due c w states e) (refused PoolFull)
unfolding lines.takes_slot
full-names states w c e l takes = grind arith

-- At a card.
own-names : (states : Service → ℕ → ℕ) (w : Managed) (k : Card) (e : Event) → IsSound k → IsAtLine k e → Agree (line_at e.line k) w states → Serves k.config (line_at e.line k) w
    → Names (cause_due k.config w states e.what) (card_answer e k)
own-names states w k e s here agree served =
    let c = k.config in
    let l = line_at e.line k in
    by_room (λ ls a. Names (cause_due c w states e.what) a) e k (λ full. full-names states w c e.what l (and_parts (lines.takes_slot c e.what l) (is_full k) full).0)
    (λ room. names c l (sound-at k e.line (has_lines k s) here) w states agree served e.what)

-- The state that the observer has.
its-state : (o : Option ℕ) (b d : Bool) (n : ℕ) → o ≡ cond b (Some n) None → d ≡ is_some o → o ≡ cond d (Some n) None
its-state o b d n is same = grind arith

pub causes-are-told : Always CausesAreTold
causes-are-told c events number ranged all within what =
    let k = after_all (fresh c) events in
    let l = line_at number k in
    let w = managed_after c number events in
    let kept = config-stays (fresh c) events in
    let knows = knows-now c events number ranged all within in
    let states : Service → ℕ → ℕ = λ service tei. (view_of c service tei number events).link.state in
    subst (λ (d : Config). Names (cause_due d w states what) (card_answer (at number what) k)) kept
    (own-names states w k (at number what) (always_sound (fresh c) events (fresh_is_sound c ranged) all)
    (subst (λ (d : Config). number < d.lines) (sym kept) within)
    (λ service tei.
    its-state (state_of service tei l) (is_on tei (view_of c service tei number events).teis) (is_on tei w) (states service tei)
    (moved-so c events number ranged all within service tei) (knows.on.same tei ∙ is-told service tei l))
    (subst (λ (d : Config). Serves d l w) (sym kept) (serves-known c l w (line-at-end c events number ranged all within) knows)))
