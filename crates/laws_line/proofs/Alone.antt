-- An event of a link of a line is one of this link alone.
use Rattle.laws_line.proofs.Vocabulary.{arith, ◌≡◌, ◌≢◌, ℕ, true, false, Some, None, sym, ap, subst, ⊎_elim, Service, Parts, LinkTimer, Config, hears, request, next, at_link, Line, place_in, Request, Deactivate, at_deactivated, aim_of_request, Event, expiry, after, answer, refusal, IsTo, IsOneHeard, IsAlone, requests_of_link as of_link, is_granted, Brings, BringsMalformed, timer_of, IsOf}
use Rattle.laws_line.proofs.Vocabulary.{link_undefined, link_overlong, link_offer, LinkReceived, link_received, link_expired, link_frame, link_requested, link_wrong_size, link_cleared, LinkEvent, stream_overlong, stream_frame, StreamEvent}
use Rattle.laws_line.proofs.Granting.{not-refused}
use Rattle.laws_line.proofs.Hearing.{sapi-is, read-event, malformed-event, overlong-event}

module _ (c : Config) (l : Line) (service : Service) (tei place : ℕ) (on : place_in l tei ≡ Some place) where
  abbrev Alone : Event → LinkEvent → Type 0
  Alone e event = IsAlone c l (after c e l) (answer c e l) service tei place event

  heard-alone : (e : StreamEvent) (event : LinkEvent) → IsOneHeard c l (after c (hears e) l) (answer c (hears e) l) service tei place event → Alone (hears e) event
  heard-alone e event one = record { line = one.line; answer_is = one.answer_is }

  by-frame : (e : Event) (parts : Parts) → Brings c e service tei parts → Alone e (link_received (link_frame parts))
  by-frame e parts b =
      let whose : IsTo l service tei place parts.address = record { sapi = sapi-is parts.address.sapi service b.sapi; tei_is = b.tei_is; on_line = on } in
      subst (λ e. Alone e (link_received (link_frame parts))) (sym b.by)
      (heard-alone (stream_frame b.octets) (link_received (link_frame parts)) (read-event c l service tei place parts b.octets b.read whose))

  by-malformed : (e : Event) (what : LinkReceived) → BringsMalformed c e service tei what → Alone e (link_received what)
  by-malformed e what b =
      let whose : IsTo l service tei place b.address = record { sapi = sapi-is b.address.sapi service b.sapi; tei_is = b.tei_is; on_line = on } in
      ⊎_elim
      (λ x. subst (λ e. Alone e (link_received what)) (sym x.0)
      (heard-alone (stream_frame b.octets) (link_received what) (malformed-event c l service tei place b.address b.octets what whose x.1)))
      (λ x. subst (λ e. Alone e (link_received what)) (sym x.0)
      (heard-alone (stream_overlong b.octets) (link_received what) (overlong-event c l service tei place b.address b.octets what whose x.1))) b.by

  by-timer : (timer : LinkTimer) → Alone (expiry (timer_of service tei timer)) (link_expired timer)
  unfolding after answer
  by-timer timer = grind arith

  by-granted : (r : Request) (event : LinkEvent) → aim_of_request r l ≡ at_link service tei place event → refusal c false r l ≡ None → Alone (request r) event
  unfolding after answer
  by-granted r event is none = grind arith

  pub is-alone : (e : Event) (event : LinkEvent) → e ≢ next → IsOf c e (answer c e l) service tei event → Alone e event
  is-alone e (link_received (link_frame parts)) other by = by-frame e parts by
  is-alone e (link_received link_undefined) other by = by-malformed e link_undefined by
  is-alone e (link_received link_wrong_size) other by = by-malformed e link_wrong_size by
  is-alone e (link_received link_overlong) other by = by-malformed e link_overlong by
  is-alone e (link_expired timer) other by = subst (λ e. Alone e (link_expired timer)) (sym by) (by-timer timer)
  is-alone e (link_requested asked full) other by =
      subst (λ full. Alone e (link_requested asked full)) (sym by.2)
      (subst (λ e. is_granted (answer c e l) ≡ true → Alone e (link_requested asked false)) (sym by.0)
      (λ granted. by-granted (of_link service tei asked) (link_requested asked false) (grind arith) (not-refused c (of_link service tei asked) l granted)) by.1)
  is-alone e link_offer other by = absurd (other by)
  is-alone e link_cleared other by =
      subst (λ e. is_granted (answer c e l) ≡ true → Alone e link_cleared) (sym by.0)
      (λ granted. by-granted (Deactivate service tei) link_cleared (ap (at_deactivated service tei) on) (not-refused c (Deactivate service tei) l granted)) by.1
