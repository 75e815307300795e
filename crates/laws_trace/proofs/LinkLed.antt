-- Which state a link moves to: one event of a line, by what is seen of it.
use Rattle.lapd_frame.specs.declared.timers.Timer.TheVariants.{T202}
use Rattle.laws_trace.proofs.Vocabulary.{arith, ◌≡◌, ℕ, ◌==◌, ◌&&◌, Bool, true, false, cond, List, [], ◌∷◌, map, Option, Some, None, Result, Ok, refl, sym, ap, ◌∙◌, eq-eqb, true≢false, fold, is_some, option_map_or, Address, ReadFault, ErrorCode, L, Service, Timer, Parts, sapi_of, service_of, same_service, place_of-is, is_on-at, Config, Aim, at_link, expiry, Answer, aim_of_expiry}
use Rattle.laws_trace.proofs.Vocabulary.{at_timer, Line, has_tei, place_in, terms, aim_of, addressed, aim_of_heard, aim_of_reading, message_of, Deactivate, aim_of_request, at_requested, at_deactivated, at_side, IsBy, IsDeactivated, addressed-is, sapi-is, service-same, both-true, eqb-true, T200, T203, Event, answer, Request, Establish, Release, option_and_then, result_ok, result_err, is_for}
use Rattle.laws_trace.proofs.Vocabulary.{fault_of, is_own, seen, is_up, and-false, and-true, Seen, trace_begun as begun, heard, not-refused, StreamEvent, T201, TimerT203, TimerT200}
use Rattle.model_link.specs.Events as link
use Rattle.laws_trace.proofs.MovesWatched.{by_frame, by_parts, by_request, by_seen, by_expiry, led}
use Rattle.laws_trace.proofs.States.{expired_of, one_more}
use Rattle.laws_trace.proofs.TimersWatched.{Known}
use Rattle.laws_trace.proofs.MovesOfLink.{expected, ticks, timer_of}
use Rattle.laws_trace.proofs.Deliveries.{heard-by}
use Rattle.laws_trace.proofs.OneLink.{is_at_link}
use Rattle.model_line.specs.Heard.{aim_of_long}
use Rattle.lapd_frame.specs.declared.overlong.Long.{Long}
use Rattle.laws_trace.specs.LinkFrames.{faulty_long, is_annex_b, is_too_long}

pub own-is : (service : Service) (tei : ℕ) → is_own service tei service tei ≡ true
own-is service tei = ap (λ b. b && tei == tei) (service-same service) ∙ eq-eqb tei tei refl

-- a TEI that has a place is on the line
pub on-line : (x : Line) (tei place : ℕ) → place_in x tei ≡ Some place → has_tei tei x ≡ true
on-line x tei place on = is_on-at x.management.places place tei (place_of-is x.management.places tei place on).1

-- What is seen, in state x.
module _ (c : Config) (service : Service) (tei : ℕ) (k : Known) where
  abbrev by_all : Bool → ℕ → List Seen → ℕ
  by_all owed x t = fold (by_seen c service tei k owed) x t

  abbrev by_heard : Bool → ℕ → StreamEvent → ℕ
  by_heard owed x e = by_seen c service tei k owed x (heard e)

  begun-leads : (owed : Bool) (x : ℕ) (frames : List (List ℕ)) → by_all owed x (map begun frames) ≡ x
  begun-leads owed x [] = refl
  begun-leads owed x (f ∷ frames) = begun-leads owed x frames

  -- a frame as it is read, and one that was too long to keep
  abbrev by_reading : Bool → ℕ → Result Parts ReadFault → ℕ
  by_reading owed x r = cond (is_up x && is_some (option_and_then (fault_of service tei) (result_err r))) 5 (by_parts c service tei k owed x (result_ok r))

  no-fault : (x y : ℕ) (b : Bool) (code : ErrorCode) → b ≡ false → cond (is_up x && is_some (cond b (Some code) None)) 5 y ≡ y
  no-fault x y b code none = ap (λ b. cond (is_up x && is_some (cond b (Some code) None)) 5 y) none ∙ ap (λ b. cond b 5 y) (and-false (is_up x))

  -- No event of the link.
  module _ (l : Line) (place : ℕ) (on : place_in l tei ≡ Some place) where
    pub addressed-none : (address : Address) (what : link.Received) (m : Aim) → is_at_link service tei (addressed l address what m) ≡ false → is_for service tei address ≡ false
    addressed-none address what m aims = go (is_for service tei address) refl
      where
        go : (b : Bool) → is_for service tei address ≡ b → b ≡ false
        go false for = refl
        go true for =
            let parts = both-true (address.sapi == sapi_of service) (address.tei == tei) for in
            let is = addressed-is l address service tei place what m (eqb-true address.sapi (sapi_of service) parts.0) (eqb-true address.tei tei parts.1) on in
            absurd (true≢false (sym (own-is service tei) ∙ sym (ap (is_at_link service tei) is) ∙ aims))

    read-none : (owed : Bool) (x : ℕ) (r : Result Parts ReadFault) → is_at_link service tei (aim_of_reading c l r) ≡ false → by_reading owed x r ≡ x
    read-none owed x (Ok f) aims =
        no-fault x (by_parts c service tei k owed x (Some f)) false L refl
        ∙ ap (λ b. cond b (by_frame c.reading k owed x f.address.command (is_too_long c f) f.control) x) (go (is_for service tei f.address) refl)
      where
        go : (b : Bool) → is_for service tei f.address ≡ b → b ≡ false
        go false for = refl
        go true for =
            let parts = both-true (f.address.sapi == sapi_of service) (f.address.tei == tei) for in
            let is = addressed-is l f.address service tei place (link.frame f) (message_of f.control f.info) (eqb-true f.address.sapi (sapi_of service) parts.0) (eqb-true f.address.tei tei parts.1) on in
            absurd (true≢false (sym (own-is service tei) ∙ sym (ap (λ aim. is_at_link service tei (at_side c f aim)) is) ∙ aims))
    read-none owed x r aims = grind (arith, no-fault, addressed-none)

    long-none : (x : ℕ) (ui : Bool) (r : Result Long ReadFault) → is_at_link service tei (aim_of_long c.reading ui l r) ≡ false → cond (is_up x && is_some (faulty_long (is_annex_b c && ui) service tei r)) 5 x ≡ x
    long-none x ui r aims = grind (arith, no-fault, addressed-none)

    heard-none : (owed : Bool) (x : ℕ) (e : StreamEvent) → is_at_link service tei (aim_of_heard c l e) ≡ false → by_heard owed x e ≡ x
    heard-none owed x e aims = grind (arith, read-none, long-none, no-fault)

    -- an expiry, or a request, of another link
    pub elsewhere : (its : Service) (by : ℕ) (what : link.Event) (to : Option ℕ → Aim) → ((p : ℕ) → to (Some p) ≡ at_link its by p what)
        → is_at_link service tei (to (place_in l by)) ≡ false → is_own service tei its by ≡ false
    elsewhere its by what to is aims = go (is_own service tei its by) refl
      where
        go : (b : Bool) → is_own service tei its by ≡ b → b ≡ false
        go false own = refl
        go true own =
            let same : by ≡ tei = eqb-true by tei (both-true (same_service its service) (by == tei) own).1 in
            absurd (true≢false (sym own ∙ sym (ap (λ o. is_at_link service tei (to o)) (ap (place_in l) same ∙ on) ∙ ap (is_at_link service tei) (is place)) ∙ aims))

    none-expired : (timer : Timer) → is_at_link service tei (aim_of_expiry timer l) ≡ false → expired_of service tei (expiry timer) ≡ None
    none-expired (TimerT200 its by) aims =
        ap (λ b. cond b (Some T200) None) (elsewhere its by (link.expired T200) (at_timer its by T200) (λ p. refl) aims)
    none-expired (TimerT203 its by) aims =
        ap (λ b. cond b (Some T203) None) (elsewhere its by (link.expired T203) (at_timer its by T203) (λ p. refl) aims)
    none-expired T201 aims = refl
    none-expired T202 aims = refl

    none-asked : (x : ℕ) (r : Request) → is_at_link service tei (aim_of_request r l) ≡ false → by_request service tei x r ≡ x
    none-asked x (Establish its by) aims =
        ap (λ b. cond (b && x == 4) 5 x) (elsewhere its by (link.requested link.Establish false) (at_requested its by link.Establish) (λ p. refl) aims)
    none-asked x (Release its by) aims =
        ap (λ b. cond (b && is_up x) 6 x) (elsewhere its by (link.requested link.Release false) (at_requested its by link.Release) (λ p. refl) aims)
    none-asked x (Deactivate its by) aims = ap (λ b. cond b 4 x) (elsewhere its by link.cleared (at_deactivated its by) (λ p. refl) aims)
    none-asked x other aims = refl

    pub none-ticks : (e : Event) → is_at_link service tei (aim_of c e l) ≡ false → expired_of service tei e ≡ None
    none-ticks e aims = grind (arith, none-expired)

    pub none-led : (owed : Bool) (n x : ℕ) (e : Event) → is_at_link service tei (aim_of c e l) ≡ false → led c service tei k owed n e (seen e (answer c e l)) x ≡ x
    none-led owed n x e aims = grind (arith, heard-none, by_expiry, expired_of, none-expired, none-asked, is_at_link, not-refused, begun-leads)

  -- One event of the link.
  module _ (a : Answer) where
    -- its deactivation
    pub ended-leads : (owed : Bool) (n x : ℕ) (e : Event) → IsDeactivated e a service tei → led c service tei k owed n e (seen e a) x ≡ 4
    ended-leads owed n x e by = grind (arith, led, own-is)

    pub own-address : (address : Address) → service_of address.sapi ≡ Some service → address.tei ≡ tei → is_for service tei address ≡ true
    own-address address sapi is = grind (arith, eq-eqb, sapi-is)

    abbrev Leads : Bool → ℕ → ℕ → Event → link.Event → Type 0
    Leads owed n x e event = led c service tei k owed n e (seen e a) x ≡ expected (terms c service tei) k owed n event x

    pub one-led : (owed : Bool) (n x : ℕ) (e : Event) (event : link.Event) → IsBy c e a service tei event → Leads owed n x e event
    one-led owed n x e event y = grind (arith, led, no-fault, own-address, and-true, by_expiry, expired_of, own-is)

    pub one-ticks : (e : Event) (event : link.Event) → IsBy c e a service tei event → option_map_or one_more (expired_of service tei e) 0 ≡ ticks event
    one-ticks e event y = grind (arith, one_more, expired_of, heard-by, own-is)

    pub one-timer : (e : Event) (event : link.Event) → IsBy c e a service tei event → expired_of service tei e ≡ timer_of event
    one-timer e event y = grind (arith, expired_of, heard-by, own-is)
