-- Which event of a link an event of its line is, by what is seen: what the link has, and none if it has none.
use Rattle.laws_trace.proofs.Vocabulary.{arith, ◌≡◌, ℕ, ◌&&◌, Bool, true, false, cond, Option, Some, None, Result, refl, sym, ap, ◌∙◌, true≢false, option_map, option_or, option_and_then, result_err, and-true, Address, ReadFault, ErrorCode, Service, Timer, Parts, Long}
use Rattle.laws_trace.proofs.Vocabulary.{Terms, Link, place_in, Config, Line, Aim, Answer, Event, hears, next, Request, aim_of_heard, aim_of_long, aim_of_reading, aim_of_expiry, aim_of_request, addressed}
use Rattle.laws_trace.proofs.Vocabulary.{StreamEvent, TimerT200, TimerT203, T200, T203, at_timer, at_requested, at_deactivated, service_of, Establish, Release, Data, SetBusy, ClearBusy, Deactivate, IsBy, IsDeactivated, is_for, its_frame, frame_of, fault_of}
use Rattle.laws_trace.proofs.Vocabulary.{faulty_long, malformed, not-refused, answer, line_after, link_after, given, fresh_link}
use Rattle.model_link.specs.Events as link
use Rattle.laws_trace.specs.LinkFrames.{is_annex_b}
use Rattle.laws_trace.specs.LinkCountersCount.{by_letter, received_in, if_own, expired_in, requested_in, event_in}
use Rattle.laws_trace.proofs.DeliveriesRun.{event-aims}
use Rattle.laws_trace.proofs.FramesOfLink.{any-foreign}
use Rattle.laws_trace.proofs.LinkLed.{addressed-none, elsewhere, own-address, own-is}
use Rattle.laws_trace.proofs.OneLink.{HasNone, is_at_link}
use Rattle.laws_trace.proofs.TimersWatched.{nothing_yet}

-- A link that gives nothing stays as it is, and one that is cleared is as one that begins.
pub unsent : (t : Terms) (l : Link) → given t l ≡ None → link_after t link.offer l ≡ l
unsent t l none = grind arith

pub cleared-begins : (t : Terms) (l : Link) → link_after t link.cleared l ≡ fresh_link
cleared-begins t l = grind arith

abbrev as_frame : Parts → link.Event
as_frame f = link.received (link.frame f)

abbrev as_letter : ErrorCode → link.Event
as_letter letter = link.received (by_letter letter)

module _ (c : Config) (service : Service) (tei : ℕ) where
  -- No event of the link, whose TEI is on the line.
  module _ (l : Line) (place : ℕ) (on : place_in l tei ≡ Some place) where
    away : (address : Address) (what : link.Received) (m : Aim) → is_at_link service tei (addressed l address what m) ≡ false → is_for service tei address ≡ false
    away address what m aims = addressed-none c service tei nothing_yet l place on address what m aims

    not-for : (e : StreamEvent) (f : Parts) → frame_of c e ≡ Some f → is_at_link service tei (aim_of_heard c l e) ≡ false → (b : Bool) → is_for service tei f.address ≡ b → is_for service tei f.address ≡ false
    not-for e f is aims false other = other
    not-for e f is aims true for = absurd (true≢false (sym (event-aims c l service tei place on (hears e) f is for) ∙ aims))

    no-frame : (e : StreamEvent) → is_at_link service tei (aim_of_heard c l e) ≡ false → (o : Option Parts) → frame_of c e ≡ o → its_frame service tei o ≡ None
    no-frame e aims None is = refl
    no-frame e aims (Some f) is = ap (λ b. cond b (Some f) None) (not-for e f is aims (is_for service tei f.address) refl)

    no-fault : (r : Result Parts ReadFault) → is_at_link service tei (aim_of_reading c l r) ≡ false → option_and_then (fault_of service tei) (result_err r) ≡ None
    no-fault r aims = grind (arith, away)

    no-long : (ui : Bool) (r : Result Long ReadFault) → is_at_link service tei (aim_of_long c.reading ui l r) ≡ false → faulty_long (is_annex_b c && ui) service tei r ≡ None
    no-long ui r aims = grind (arith, away)

    none-malformed : (e : StreamEvent) → is_at_link service tei (aim_of_heard c l e) ≡ false → malformed c service tei e ≡ None
    none-malformed e aims = grind (arith, no-fault, no-long)

    none-received : (e : StreamEvent) → is_at_link service tei (aim_of_heard c l e) ≡ false → received_in c service tei e ≡ None
    none-received e aims =
        ap (λ o. option_or (option_map as_frame o) (option_map as_letter (malformed c service tei e))) (no-frame e aims (frame_of c e) refl)
        ∙ ap (option_map as_letter) (none-malformed e aims)

    none-expired : (timer : Timer) → is_at_link service tei (aim_of_expiry timer l) ≡ false → expired_in service tei timer ≡ None
    none-expired (TimerT200 its by) aims =
        ap (λ b. cond b (Some (link.expired T200)) None) (elsewhere c service tei nothing_yet l place on its by (link.expired T200) (at_timer its by T200) (λ p. refl) aims)
    none-expired (TimerT203 its by) aims =
        ap (λ b. cond b (Some (link.expired T203)) None) (elsewhere c service tei nothing_yet l place on its by (link.expired T203) (at_timer its by T203) (λ p. refl) aims)
    none-expired other aims = refl

    asked-elsewhere : (its : Service) (by : ℕ) (what : link.Request) → is_at_link service tei (at_requested its by what (place_in l by)) ≡ false
        → if_own service tei its by (link.requested what false) ≡ None
    asked-elsewhere its by what aims =
        ap (λ b. cond b (Some (link.requested what false)) None) (elsewhere c service tei nothing_yet l place on its by (link.requested what false) (at_requested its by what) (λ p. refl) aims)

    none-requested : (r : Request) → is_at_link service tei (aim_of_request r l) ≡ false → requested_in service tei r ≡ None
    none-requested (Establish its by) aims = asked-elsewhere its by link.Establish aims
    none-requested (Release its by) aims = asked-elsewhere its by link.Release aims
    none-requested (Data its by contents) aims = asked-elsewhere its by (link.Data contents) aims
    none-requested (SetBusy its by) aims = asked-elsewhere its by link.SetBusy aims
    none-requested (ClearBusy its by) aims = asked-elsewhere its by link.ClearBusy aims
    none-requested (Deactivate its by) aims =
        ap (λ b. cond b (Some link.cleared) None) (elsewhere c service tei nothing_yet l place on its by link.cleared (at_deactivated its by) (λ p. refl) aims)
    none-requested other aims = refl

    pub none-happens : (e : Event) → HasNone c service tei e l (line_after c e l) (answer c e l) → event_in c service tei e (answer c e l) ≡ None
    none-happens e x = grind (arith, none-received, none-expired, answer, none-requested, is_at_link, not-refused, link.offer, any-foreign)

  -- An event of the link that is no call for the next frame; and its deactivation.
  module _ (a : Answer) where
    for : (address : Address) → service_of address.sapi ≡ Some service → address.tei ≡ tei → is_for service tei address ≡ true
    for address sapi is = own-address c service tei nothing_yet a address sapi is

    pub one-happens : (e : Event) (event : link.Event) → IsBy c e a service tei event → (e ≡ next → ⊥) → event_in c service tei e a ≡ Some event
    one-happens e event by other = grind (arith, for, own-is, and-true)

    pub ended-happens : (e : Event) → IsDeactivated e a service tei → event_in c service tei e a ≡ Some link.cleared
    ended-happens e by = grind (arith, own-is)
