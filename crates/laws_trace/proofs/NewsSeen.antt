-- What is seen of a link: SABME, and requests that are granted.
use Rattle.laws_trace.proofs.Vocabulary.{arith, ◌≡◌, ℕ, ◌&&◌, Bool, false, cond, Some, None, refl, ap, ◌∙◌, list_any, Service, Config, request, Answer, Line, place_in, at_requested, aim_of_request, is_granted, IsBy, Control, Request, Establish, Release, LinkEstablish, terms, true, releases, seen, and-false, Event, aim_of, answer, not-refused, requested, LinkEvent, LinkRelease}
use Rattle.laws_trace.proofs.TimersWatched.{nothing_yet, control_in, brings}
use Rattle.laws_trace.proofs.Deliveries.{frame_by, heard-by, brings-frame, brings-none}
use Rattle.laws_trace.proofs.DeliveriesRun.{event-aims}
use Rattle.laws_trace.proofs.LinkLed.{elsewhere, own-is}
use Rattle.lapd_frame.specs.Readings.{by_reading}
use Rattle.laws_trace.proofs.NewsOfLink.{wish_at}
use Rattle.laws_trace.proofs.NewsRows.{heard_of}
use Rattle.laws_trace.proofs.NewsWatched.{wish_in, wish_of}
use Rattle.laws_trace.proofs.OneLink.{is_at_link}
use Rattle.laws_trace.proofs.TimersOfLine.{seen-brings}

-- What layer 3 decides in state 5: one event of the link, and none.
module _ (c : Config) (service : Service) (tei : ℕ) where
  pub one-wish : (e : Event) (a : Answer) (event : LinkEvent) → IsBy c e a service tei event → wish_of c service tei e a ≡ wish_at (terms c service tei) event
  one-wish e a event by = grind (arith, heard-by, own-is)

  module _ (l : Line) (place : ℕ) (on : place_in l tei ≡ Some place) where
    not-wished : (r : Request) → is_at_link service tei (aim_of_request r l) ≡ false → wish_in c service tei r ≡ None
    not-wished (Establish its by) aims =
        ap (λ d. cond d (by_reading c.reading None (Some true)) None) (elsewhere c service tei nothing_yet l place on its by (requested LinkEstablish false) (at_requested its by LinkEstablish) (λ p. refl) aims)
    not-wished (Release its by) aims =
        ap (λ d. cond d (by_reading c.reading None (Some false)) None) (elsewhere c service tei nothing_yet l place on its by (requested LinkRelease false) (at_requested its by LinkRelease) (λ p. refl) aims)
    not-wished other aims = refl

    pub none-wish : (e : Event) → is_at_link service tei (aim_of c e l) ≡ false → wish_of c service tei e (answer c e l) ≡ None
    none-wish e aims = grind (arith, not-wished, is_at_link, not-refused)

module _ (c : Config) (service : Service) (tei : ℕ) (which : Control → Bool) where
  module _ (e : Event) (a : Answer) where
    -- one event of the link
    pub one-begins : (event : LinkEvent) → IsBy c e a service tei event → list_any (brings which c service tei) (seen e a) ≡ heard_of which event
    one-begins event by = grind (arith, seen-brings, control_in, frame_by, heard_of, brings-frame, brings-none)

  -- and none
  module _ (l : Line) (place : ℕ) (on : place_in l tei ≡ Some place) where
    pub none-begins : (e : Event) → is_at_link service tei (aim_of c e l) ≡ false → (a : Answer) → list_any (brings which c service tei) (seen e a) ≡ false
    none-begins e aims a = seen-brings c service tei which e a ∙ (grind (arith, event-aims))

    not-own : (r : Request) (a : Answer) → is_at_link service tei (aim_of_request r l) ≡ false → releases service tei (request r) a ≡ false
    not-own (Release its by) a aims =
        ap (λ d. is_granted a && d) (elsewhere c service tei nothing_yet l place on its by (requested LinkRelease false) (at_requested its by LinkRelease) (λ p. refl) aims) ∙ and-false (is_granted a)
    not-own other a aims = refl

    pub none-releases : (e : Event) → is_at_link service tei (aim_of c e l) ≡ false → releases service tei e (answer c e l) ≡ false
    none-releases e aims = grind (arith, not-own, is_at_link, not-refused)
