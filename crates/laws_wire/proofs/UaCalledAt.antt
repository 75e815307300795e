-- The station of the end that is called, whose link is up: what requests, timers and calls for the next frame do there.
use Rattle.laws_wire.proofs.Vocabulary.{◌≡◌, ℕ, ◌==◌, Bool, true, false, not, ◌||◌, IsTrue, List, None, refl, sym, ap, subst, ◌∙◌, inl, inr, arith, Service, Timer, TimerRecovery, LinkTimer, T203, Terms, Link, after, is_multiple_frame, has_outstanding, given, is_running, awaits_answer, LinkEndpoint, with_link, frame_given, Config, LineTold, expiry, request, Request, IsNotRelease, CanRepeat, HasNo}
use Rattle.laws_wire.proofs.Vocabulary.{Sane, T200, Endpoint, Wire}
use Rattle.laws_wire.proofs.Vocabulary.{happens, expires, IsOfLink, is_poll, IsTimelyOf, requested, LinkEvent, offer, expired, LinkRequest, timer_T200, timer_T203, course, IsAsked, gives_information, timer-stays, event-delivers, none-delivered}
use Rattle.laws_wire.proofs.Acting.{ranges, sound}
use Rattle.laws_wire.proofs.Awaited.{awaits-is, may-there, none-there, gives-reads}
use Rattle.laws_wire.proofs.Held.{Held}
use Rattle.laws_wire.proofs.Joint.{only-link, timer-delivers}
use Rattle.laws_wire.proofs.TimelyUp.{held-request, timer-held, never}
use Rattle.laws_wire.proofs.Simulated.{for-asked, asked_of, each-timer}
use Rattle.laws_wire.proofs.LossyPhases.{Aims}
use Rattle.laws_wire.proofs.UaCalled.{Stirs, timer-stirs, informs, flagged, busy-stirs, data-stirs, ready-stirs}

pub same-flag : (b : Bool) (l l' : Link) → l'.s ≡ l.s → l'.a ≡ l.a → b ≡ has_outstanding l → b ≡ has_outstanding l'
same-flag b l l' s a e = e ∙ (λ i. not (sym s i == sym a i))

-- As it gives, a link awaits what REJ asked for as before.
module _ (t : Terms) (l : Link) where
  pub offer-rejecting : (after t offer l).rejecting ≡ l.rejecting
  offer-rejecting = grind arith

module _ (service : Service) (tei : ℕ) (d : Config) (q : ℕ) (past : List LineTold) (v : Wire) (M : LinkEndpoint) (h : Held d service tei q past v.near M) where
  abbrev s : Endpoint
  s = v.near

  -- ---- the next frame is called for

  gives-informs : gives_information s ≡ informs (frame_given M.terms (given M.terms M.link))
  gives-informs = ap informs (gives-reads service tei d q s M h.stands)

  pub flagged-at : (b : Bool) → b ≡ has_outstanding M.link → (b || gives_information s) ≡ has_outstanding (after M.terms offer M.link)
  flagged-at b e = grind (arith, gives-informs, flagged, sound, ranges)

  pub none-informed : given M.terms M.link ≡ None → gives_information s ≡ false
  none-informed none = gives-informs ∙ ap (λ o. informs (frame_given M.terms o)) none

  -- ---- requests and timers

  module _ (up : IsTrue (is_multiple_frame M.link.state)) (sane : Sane M.link) where
    abbrev pub Free : Type 0
    Free = HasNo is_poll M

    pub record StirsAt (e : LinkEvent) (s' : Endpoint) : Type 0 where
      pub left : Link
      pub becomes : with_link e M ≡ record M { link = left }
      pub held : Held d service tei q past s' (record M { link = left })
      pub stirs : Stirs Free M.link left

    module _ (P : Endpoint → Type 0) (same : P s) (on : (rq : LinkRequest) (s' : Endpoint) → IsNotRelease rq → StirsAt (requested rq false) s' → P s') where
      pub asked-at : (r : Request) → IsAsked service tei r → P (happens (request r) s)
      asked-at r is =
          elim (held-request service tei d q past s M h r is) [
            | inl none ↦ subst P (sym none) same
            | inr x ↦
                let e = requested (asked_of r) false in
                let is-so = only-link M e (none-delivered M.terms M.link (course M.terms e M.link) (event-delivers M.terms M.link e)) in
                on (asked_of r) (happens (request r) s) (for-asked service tei (λ r. IsNotRelease (asked_of r)) (λ octets. tt) tt tt r is) (record {
                  left = after M.terms e M.link;
                  becomes = is-so;
                  held = subst (Held d service tei q past (happens (request r) s)) is-so x;
                  stirs =
                      for-asked service tei (λ r. Stirs Free M.link (after M.terms (requested (asked_of r) false) M.link)) (λ octets. data-stirs M.terms M.link up sane Free octets)
                      (busy-stirs M.terms M.link up sane Free) (ready-stirs M.terms M.link up sane Free) r is;
                })
          ]

    abbrev pub FreeAs : LinkTimer → Type 0
    FreeAs its = M.link.state ≡ TimerRecovery → is_running its M.link ≡ true → Free

    module _ (P : Endpoint → Type 0) (on : (its : LinkTimer) (s' : Endpoint) → CanRepeat its M → FreeAs its → StirsAt (expired its) s' → P s') where
      expires-so : (timer : Timer) (its : LinkTimer) → Aims service tei timer its → CanRepeat its M → FreeAs its → P (happens (expiry timer) s)
      expires-so timer its aims can free =
          let is = only-link M (expired its) (timer-delivers M.terms M.link its) in
          on its (happens (expiry timer) s) can free (record {
            left = after M.terms (expired its) M.link;
            becomes = is;
            held = subst (Held d service tei q past (happens (expiry timer) s)) is (timer-held service tei d q past s M h up timer its aims (timer-stays M.terms M.link up its can));
            stirs = timer-stirs M.terms M.link up sane Free its can free;
          })

      pub expired-at : (timer : Timer) → IsOfLink service tei timer → IsTimelyOf (expires timer) v → P (happens (expiry timer) s)
      expired-at timer is x =
          each-timer service tei (λ timer. IsTimelyOf (expires timer) v → P (happens (expiry timer) s))
          (λ x. expires-so (timer_T200 service tei) T200 (λ l. refl) (λ state running. may-there service tei d q s M h.stands x.1 (ap awaits_answer state) running)
          (λ state running. none-there service tei d q s M h.stands is_poll (x.0 (awaits-is service tei d q s M h.stands ∙ ap awaits_answer state)).commands))
          (λ x. expires-so (timer_T203 service tei) T203 (λ l. refl) (λ state running. absurd (never service tei d q past s M h sane.timed state running))
          (λ state running. absurd (never service tei d q past s M h sane.timed state running))) timer is x
