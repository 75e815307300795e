-- Two stations of which one releases the link where both rest: what each thing that is done makes of them.
use Rattle.laws_wire.proofs.Vocabulary.{◌≡◌, ℕ, Bool, true, false, List, [], ◌∷◌, ◌++◌, cond, refl, sym, ap, subst, ◌∙◌, ◌⊎◌, inl, inr, append-nil, arith, All, nat_lt, flat_map, lt-ltb, All-head, All-tail, Service, Timer, Parts, spelling, Established, ControlFrame, Terms, LinkTimer, T203, Link, may_repeat, frame_of, course, LinkEndpoint, with_link, response, Ua, Dm, IsInRange, begun, Config}
use Rattle.laws_wire.proofs.Vocabulary.{LineTold, expiry, next, terms}
use Rattle.laws_wire.proofs.Vocabulary.{HasNothingToSend, awaits_answer, T200, Endpoint, Wire, happens, EndStep, requests, expires, sends, receives, loses, acting, turned, StepAt, at_near, at_far, doing, doing_all, is_poll, is_final, IsTimelyOf, for_layer_3, IsLeaving, IsTimelyThere, StayTimelyThere, release_confirmed, release_indicated, map, expired, timer_T200, timer_T203, own_side}
use Rattle.laws_wire.proofs.Awaited.{NoneOpen, may-there, long-there, waits-first, goes-first}
use Rattle.laws_wire.proofs.Ringing.{Tries, once_more}
use Rattle.laws_wire.proofs.Leaving.{its_disc, disc, leaving, left, gone, hears-disc, told-disc, repeats-disc, repeats-untold, told-again}
use Rattle.laws_wire.proofs.LossyPhases.{for-timer, Aims}
use Rattle.laws_wire.proofs.Speaking.{said_by}
use Rattle.laws_wire.proofs.Talking.{Face}
use Rattle.laws_wire.proofs.Tells.{Tells, as-end, t-given, t-taken, t-expired, first-carried, t-silent}
use Rattle.laws_wire.proofs.TimelyFirst.{takes-none, loses-none}
use Rattle.laws_wire.proofs.Simulated.{each-timer}
use Rattle.laws_wire.proofs.Standing.{IsCarried}

module _ (service : Service) (tei : ℕ) where
  abbrev T : Config → ℕ → List LineTold → Endpoint → LinkEndpoint → Type 0
  T k place heard s n = Tells service tei k place heard s n

  -- ---- the phases

  module _ (c d : Config) (p q : ℕ) (face : Face c d) (back : Face d c) (rt : IsInRange (terms c service tei)) (ru : IsInRange (terms d service tei)) (ln lm : Link)
      (state : lm.state ≡ Established) (quiet : HasNothingToSend (terms d service tei) lm) (hn hm : List LineTold) where
    abbrev t : Terms
    t = terms c service tei

    abbrev u : Terms
    u = terms d service tei

    room : nat_lt 0 t.control ≡ true
    room = let low = rt.control_low in lt-ltb 0 t.control (omega (arith, low))

    room' : nat_lt 0 u.control ≡ true
    room' = let low = ru.control_low in lt-ltb 0 u.control (omega (arith, low))

    abbrev N : Tries → List ControlFrame → List Parts → LinkEndpoint
    N k ws way = record { terms = t; link = leaving ln k ws; way = way; delivered = [] }

    abbrev N4 : Tries → LinkEndpoint
    N4 k = record { terms = t; link = left ln k; way = []; delivered = [] }

    abbrev M : LinkEndpoint
    M = record { terms = u; link = lm; way = []; delivered = [] }

    abbrev G : List ControlFrame → List Parts → LinkEndpoint
    G ws way = record { terms = u; link = gone lm ws; way = way; delivered = [] }

    -- UA, or DM
    abbrev reply : Bool → ControlFrame
    reply b = response (cond b (Ua true) (Dm true))

    abbrev confirmed_then : List LineTold
    confirmed_then = hn ++ release_confirmed service tei ∷ []

    abbrev indicated_then : List LineTold
    indicated_then = hm ++ release_indicated service tei ∷ []

    pub record Are (n m : LinkEndpoint) (a b : List LineTold) (w : Wire) : Type 0 where
      pub near : T c p a w.near n
      pub far : T d q b w.far m

    abbrev First : Wire → Type 0
    First w = (k : Tries) × (Are (N k (its_disc ∷ []) []) M hn hm w ⊎ Are (N k [] (disc t ∷ [])) M hn hm w ⊎ Are (N k [] []) M hn hm w)

    abbrev Told : Wire → Type 0
    Told w =
        (k : Tries) × (b : Bool) × (Are (N k [] []) (G (reply b ∷ []) []) hn indicated_then w ⊎ Are (N k [] []) (G [] (frame_of u (reply b) ∷ [])) hn indicated_then w
        ⊎ Are (N k [] []) (G [] []) hn indicated_then w ⊎ Are (N k (its_disc ∷ []) []) (G [] []) hn indicated_then w
        ⊎ Are (N k [] (disc t ∷ [])) (G [] []) hn indicated_then w)

    abbrev Last : Wire → Type 0
    Last w = (k : Tries) × Are (N4 k) (G [] []) confirmed_then indicated_then w

    abbrev pub Phase : Wire → Type 0
    Phase w = First w ⊎ Told w ⊎ Last w

    -- what gives nothing, and loses nothing
    gone-quiet : HasNothingToSend u (gone lm [])
    gone-quiet = record { waiting = refl; information = refl; pending = refl }

    module _ (n m : LinkEndpoint) (a b : List LineTold) (w : Wire) (h : Are n m a b w) where
      near-silent : HasNothingToSend n.terms n.link → Are n m a b (acting sends w)
      near-silent none = record { near = t-silent service tei c p a w.near n none h.near; far = h.far }

      far-silent : HasNothingToSend m.terms m.link → Are n m a b (turned (acting sends (turned w)))
      far-silent none = record { near = h.near; far = t-silent service tei d q b w.far m none h.far }

      near-takes-none : m.way ≡ [] → Are n m a b (acting receives w)
      near-takes-none none = subst (Are n m a b) (sym (takes-none w (h.far.stands.way ∙ ap (map (spelling (own_side d))) none))) h

      far-takes-none : n.way ≡ [] → Are n m a b (turned (acting receives (turned w)))
      far-takes-none none = subst (λ v. Are n m a b (turned v)) (sym (takes-none (turned w) (h.near.stands.way ∙ ap (map (spelling (own_side c))) none))) h

      near-loses-none : n.way ≡ [] → Are n m a b (acting loses w)
      near-loses-none none = subst (Are n m a b) (sym (loses-none w (h.near.stands.way ∙ ap (map (spelling (own_side c))) none))) h

      far-loses-none : m.way ≡ [] → Are n m a b (turned (acting loses (turned w)))
      far-loses-none none = subst (λ v. Are n m a b (turned v)) (sym (loses-none (turned w) (h.far.stands.way ∙ ap (map (spelling (own_side d))) none))) h

      -- a timer that does not run
      near-unmoved : (timer : Timer) (its : LinkTimer) → Aims service tei timer its → course n.terms (expired its) n.link ≡ begun n.link → Are n m a b (acting (expires timer) w)
      near-unmoved timer its aims same = record {
        near = as-end service tei c p _ a (happens (expiry timer) w.near) (with_link (expired its) n) n (t-expired service tei c p a w.near n h.near timer its aims)
            (λ i. record n { link = (same i).link })
            (ap (λ x. a ++ flat_map for_layer_3 (said_by x)) same ∙ append-nil a);
        far = h.far;
      }

    -- ---- what moves

    -- DISC goes, or is lost
    module _ (k : Tries) (m : LinkEndpoint) (b : List LineTold) (w : Wire) where
      gives-disc : Are (N k (its_disc ∷ []) []) m hn b w → Are (N k [] (disc t ∷ [])) m hn b (acting sends w)
      gives-disc h = record { near = as-end service tei c p hn hn (happens next w.near) _ (N k [] (disc t ∷ [])) (t-given service tei c p hn w.near (N k (its_disc ∷ []) []) h.near) refl refl; far = h.far }

      loses-disc : Are (N k [] (disc t ∷ [])) m hn b w → Are (N k [] []) m hn b (acting loses w)
      loses-disc h = record { near = grind (arith, IsCarried); far = h.far }

      -- and goes again
      asks-again : may_repeat t (N k [] []).link ≡ true → Are (N k [] []) m hn b w → Are (N (once_more k) (its_disc ∷ []) []) m hn b (acting (expires (timer_T200 service tei)) w)
      asks-again few h = record {
        near = as-end service tei c p _ hn (happens (expiry (timer_T200 service tei)) w.near) (with_link (expired T200) (N k [] [])) (N (once_more k) (its_disc ∷ []) [])
            (t-expired service tei c p hn w.near (N k [] []) h.near (timer_T200 service tei) T200 (λ l. refl))
            (λ i. record (N k [] []) { link = repeats-disc t room ln k few i })
            (ap (λ ts. hn ++ flat_map for_layer_3 ts) (repeats-untold t room ln k few) ∙ append-nil hn);
        far = h.far;
      }

    -- the other takes it
    module _ (k : Tries) (w : Wire) where
      takes-disc : Are (N k [] (disc t ∷ [])) M hn hm w → Are (N k [] []) (G (reply true ∷ []) []) hn indicated_then (turned (acting receives (turned w)))
      takes-disc h =
          let way = first-carried service tei c p hn w.near (N k [] (disc t ∷ [])) (disc t) refl h.near in
          let far = t-taken service tei d q hm w.far M h.far c back (disc t) way.1 in
          grind (arith, disc, as-end, hears-disc, room', flat_map, told-disc)

      takes-again : Are (N k [] (disc t ∷ [])) (G [] []) hn indicated_then w → Are (N k [] []) (G (reply false ∷ []) []) hn indicated_then (turned (acting receives (turned w)))
      takes-again h =
          let way = first-carried service tei c p hn w.near (N k [] (disc t ∷ [])) (disc t) refl h.near in
          let far = t-taken service tei d q indicated_then w.far (G [] []) h.far c back (disc t) way.1 in
          grind (arith, disc, as-end, room', flat_map, told-again, append-nil)

    -- the answer goes, is lost, or comes
    module _ (k : Tries) (w : Wire) where
      gives-reply : (b : Bool) → Are (N k [] []) (G (reply b ∷ []) []) hn indicated_then w → Are (N k [] []) (G [] (frame_of u (reply b) ∷ [])) hn indicated_then (turned (acting sends (turned w)))
      gives-reply true h = record {
        near = h.near;
        far = as-end service tei d q indicated_then indicated_then (happens next w.far) _ (G [] (frame_of u (reply true) ∷ [])) (t-given service tei d q indicated_then w.far (G (reply true ∷ []) []) h.far) refl refl;
      }
      gives-reply false h = record {
        near = h.near;
        far = as-end service tei d q indicated_then indicated_then (happens next w.far) _ (G [] (frame_of u (reply false) ∷ [])) (t-given service tei d q indicated_then w.far (G (reply false ∷ []) []) h.far) refl refl;
      }

      loses-reply : (b : Bool) → Are (N k [] []) (G [] (frame_of u (reply b) ∷ [])) hn indicated_then w → Are (N k [] []) (G [] []) hn indicated_then (turned (acting loses (turned w)))
      loses-reply b h = record { near = h.near; far = grind (arith, IsCarried) }

      takes-reply : (b : Bool) → Are (N k [] []) (G [] (frame_of u (reply b) ∷ [])) hn indicated_then w → Are (N4 k) (G [] []) confirmed_then indicated_then (acting receives w)
      takes-reply b h =
          let f = frame_of u (reply b) in
          let way = first-carried service tei d q indicated_then w.far (G [] (f ∷ [])) f refl h.far in
          let near = t-taken service tei c p hn w.near (N k [] []) h.near d face f way.1 in
          grind (arith, as-end, flat_map, said_by, leaving)

    -- ---- each act

    -- what is open at the stations is open at the ends
    open-now : (n m : LinkEndpoint) (a b : List LineTold) (w : Wire) → Are n m a b w → awaits_answer n.link.state ≡ true → IsTimelyOf (expires (timer_T200 service tei)) w → NoneOpen n m
    open-now n m a b w h awaits x = long-there service tei c d p q w.near w.far n m h.near.stands h.far.stands x.0 awaits

    first-near : (k : Tries) (w : Wire) → Are (N k (its_disc ∷ []) []) M hn hm w ⊎ Are (N k [] (disc t ∷ [])) M hn hm w ⊎ Are (N k [] []) M hn hm w
        → (act : EndStep) → IsLeaving service tei (at_near act) → IsTimelyOf act w → First (acting act w)
    first-near k w h (requests r) is x = absurd is
    first-near k w (inl h) (expires timer) is x =
        each-timer service tei (λ timer. IsTimelyOf (expires timer) w → First (acting (expires timer) w))
        (λ x. absurd (waits-first is_poll (N k (its_disc ∷ []) []) its_disc [] refl refl (open-now (N k (its_disc ∷ []) []) M hn hm w h refl x).commands))
        (λ x. (k, inl (near-unmoved (N k (its_disc ∷ []) []) M hn hm w h (timer_T203 service tei) T203 (λ l. refl) refl))) timer is x
    first-near k w (inl h) sends is x = (k, inr (inl (gives-disc k M hm w h)))
    first-near k w (inl h) receives is x = (k, inl (near-takes-none (N k (its_disc ∷ []) []) M hn hm w h refl))
    first-near k w (inl h) loses is x = (k, inl (near-loses-none (N k (its_disc ∷ []) []) M hn hm w h refl))
    first-near k w (inr (inl h)) (expires timer) is x =
        each-timer service tei (λ timer. IsTimelyOf (expires timer) w → First (acting (expires timer) w))
        (λ x. absurd (goes-first is_poll (N k [] (disc t ∷ [])) (disc t) [] refl refl (open-now (N k [] (disc t ∷ [])) M hn hm w h refl x).commands))
        (λ x. (k, inr (inl (near-unmoved (N k [] (disc t ∷ [])) M hn hm w h (timer_T203 service tei) T203 (λ l. refl) refl)))) timer is x
    first-near k w (inr (inl h)) sends is x = (k, inr (inl (near-silent (N k [] (disc t ∷ [])) M hn hm w h (record { waiting = refl; information = refl; pending = refl }))))
    first-near k w (inr (inl h)) receives is x = (k, inr (inl (near-takes-none (N k [] (disc t ∷ [])) M hn hm w h refl)))
    first-near k w (inr (inl h)) loses is x = (k, inr (inr (loses-disc k M hm w h)))
    first-near k w (inr (inr h)) (expires timer) is x =
        each-timer service tei (λ timer. IsTimelyOf (expires timer) w → First (acting (expires timer) w))
        (λ x. (once_more k, inl (asks-again k M hm w (may-there service tei c p w.near (N k [] []) h.near.stands x.1 refl refl) h)))
        (λ x. (k, inr (inr (near-unmoved (N k [] []) M hn hm w h (timer_T203 service tei) T203 (λ l. refl) refl)))) timer is x
    first-near k w (inr (inr h)) sends is x = (k, inr (inr (near-silent (N k [] []) M hn hm w h (record { waiting = refl; information = refl; pending = refl }))))
    first-near k w (inr (inr h)) receives is x = (k, inr (inr (near-takes-none (N k [] []) M hn hm w h refl)))
    first-near k w (inr (inr h)) loses is x = (k, inr (inr (near-loses-none (N k [] []) M hn hm w h refl)))

    first-far : (k : Tries) (w : Wire) → Are (N k (its_disc ∷ []) []) M hn hm w ⊎ Are (N k [] (disc t ∷ [])) M hn hm w ⊎ Are (N k [] []) M hn hm w
        → (act : EndStep) → IsLeaving service tei (at_far act) → Phase (turned (acting act (turned w)))
    first-far k w (inl h) sends is = inl (k, inl (far-silent (N k (its_disc ∷ []) []) M hn hm w h quiet))
    first-far k w (inl h) receives is = inl (k, inl (far-takes-none (N k (its_disc ∷ []) []) M hn hm w h refl))
    first-far k w (inl h) loses is = inl (k, inl (far-loses-none (N k (its_disc ∷ []) []) M hn hm w h refl))
    first-far k w (inr (inl h)) sends is = inl (k, inr (inl (far-silent (N k [] (disc t ∷ [])) M hn hm w h quiet)))
    first-far k w (inr (inl h)) receives is = inr (inl (k, true, inl (takes-disc k w h)))
    first-far k w (inr (inl h)) loses is = inl (k, inr (inl (far-loses-none (N k [] (disc t ∷ [])) M hn hm w h refl)))
    first-far k w (inr (inr h)) sends is = inl (k, inr (inr (far-silent (N k [] []) M hn hm w h quiet)))
    first-far k w (inr (inr h)) receives is = inl (k, inr (inr (far-takes-none (N k [] []) M hn hm w h refl)))
    first-far k w (inr (inr h)) loses is = inl (k, inr (inr (far-loses-none (N k [] []) M hn hm w h refl)))
    first-far k w h other is = absurd is

    abbrev I : List LineTold
    I = indicated_then

    told-near : (k : Tries) (b : Bool) (w : Wire)
        → Are (N k [] []) (G (reply b ∷ []) []) hn I w ⊎ Are (N k [] []) (G [] (frame_of u (reply b) ∷ [])) hn I w ⊎ Are (N k [] []) (G [] []) hn I w
        ⊎ Are (N k (its_disc ∷ []) []) (G [] []) hn I w ⊎ Are (N k [] (disc t ∷ [])) (G [] []) hn I w
        → (act : EndStep) → IsLeaving service tei (at_near act) → IsTimelyOf act w → Phase (acting act w)
    told-near k b w h (requests r) is x = absurd is
    told-near k b w (inl h) (expires timer) is x =
        each-timer service tei (λ timer. IsTimelyOf (expires timer) w → Phase (acting (expires timer) w))
        (λ x. absurd (waits-first is_final (G (reply b ∷ []) []) (reply b) [] refl (grind arith) (open-now (N k [] []) (G (reply b ∷ []) []) hn I w h refl x).responses))
        (λ x. inr (inl (k, b, inl (near-unmoved (N k [] []) (G (reply b ∷ []) []) hn I w h (timer_T203 service tei) T203 (λ l. refl) refl)))) timer is x
    told-near k b w (inl h) sends is x = inr (inl (k, b, inl (near-silent (N k [] []) (G (reply b ∷ []) []) hn I w h (record { waiting = refl; information = refl; pending = refl }))))
    told-near k b w (inl h) receives is x = inr (inl (k, b, inl (near-takes-none (N k [] []) (G (reply b ∷ []) []) hn I w h refl)))
    told-near k b w (inl h) loses is x = inr (inl (k, b, inl (near-loses-none (N k [] []) (G (reply b ∷ []) []) hn I w h refl)))
    told-near k b w (inr (inl h)) (expires timer) is x =
        each-timer service tei (λ timer. IsTimelyOf (expires timer) w → Phase (acting (expires timer) w))
        (λ x. absurd (goes-first is_final (G [] (frame_of u (reply b) ∷ [])) (frame_of u (reply b)) [] refl (grind arith) (open-now (N k [] []) (G [] (frame_of u (reply b) ∷ [])) hn I w h refl x).responses))
        (λ x. inr (inl (k, b, inr (inl (near-unmoved (N k [] []) (G [] (frame_of u (reply b) ∷ [])) hn I w h (timer_T203 service tei) T203 (λ l. refl) refl))))) timer is x
    told-near k b w (inr (inl h)) sends is x = inr (inl (k, b, inr (inl (near-silent (N k [] []) (G [] (frame_of u (reply b) ∷ [])) hn I w h (record { waiting = refl; information = refl; pending = refl })))))
    told-near k b w (inr (inl h)) receives is x = inr (inr (k, takes-reply k w b h))
    told-near k b w (inr (inl h)) loses is x = inr (inl (k, b, inr (inl (near-loses-none (N k [] []) (G [] (frame_of u (reply b) ∷ [])) hn I w h refl))))
    told-near k b w (inr (inr (inl h))) (expires timer) is x =
        each-timer service tei (λ timer. IsTimelyOf (expires timer) w → Phase (acting (expires timer) w))
        (λ x. inr (inl (once_more k, b, inr (inr (inr (inl (asks-again k (G [] []) I w (may-there service tei c p w.near (N k [] []) h.near.stands x.1 refl refl) h)))))))
        (λ x. inr (inl (k, b, inr (inr (inl (near-unmoved (N k [] []) (G [] []) hn I w h (timer_T203 service tei) T203 (λ l. refl) refl)))))) timer is x
    told-near k b w (inr (inr (inl h))) sends is x = inr (inl (k, b, inr (inr (inl (near-silent (N k [] []) (G [] []) hn I w h (record { waiting = refl; information = refl; pending = refl }))))))
    told-near k b w (inr (inr (inl h))) receives is x = inr (inl (k, b, inr (inr (inl (near-takes-none (N k [] []) (G [] []) hn I w h refl)))))
    told-near k b w (inr (inr (inl h))) loses is x = inr (inl (k, b, inr (inr (inl (near-loses-none (N k [] []) (G [] []) hn I w h refl)))))
    told-near k b w (inr (inr (inr (inl h)))) (expires timer) is x =
        each-timer service tei (λ timer. IsTimelyOf (expires timer) w → Phase (acting (expires timer) w))
        (λ x. absurd (waits-first is_poll (N k (its_disc ∷ []) []) its_disc [] refl refl (open-now (N k (its_disc ∷ []) []) (G [] []) hn I w h refl x).commands))
        (λ x. inr (inl (k, b, inr (inr (inr (inl (near-unmoved (N k (its_disc ∷ []) []) (G [] []) hn I w h (timer_T203 service tei) T203 (λ l. refl) refl))))))) timer is x
    told-near k b w (inr (inr (inr (inl h)))) sends is x = inr (inl (k, b, inr (inr (inr (inr (gives-disc k (G [] []) I w h))))))
    told-near k b w (inr (inr (inr (inl h)))) receives is x = inr (inl (k, b, inr (inr (inr (inl (near-takes-none (N k (its_disc ∷ []) []) (G [] []) hn I w h refl))))))
    told-near k b w (inr (inr (inr (inl h)))) loses is x = inr (inl (k, b, inr (inr (inr (inl (near-loses-none (N k (its_disc ∷ []) []) (G [] []) hn I w h refl))))))
    told-near k b w (inr (inr (inr (inr h)))) (expires timer) is x =
        each-timer service tei (λ timer. IsTimelyOf (expires timer) w → Phase (acting (expires timer) w))
        (λ x. absurd (goes-first is_poll (N k [] (disc t ∷ [])) (disc t) [] refl refl (open-now (N k [] (disc t ∷ [])) (G [] []) hn I w h refl x).commands))
        (λ x. inr (inl (k, b, inr (inr (inr (inr (near-unmoved (N k [] (disc t ∷ [])) (G [] []) hn I w h (timer_T203 service tei) T203 (λ l. refl) refl))))))) timer is x
    told-near k b w (inr (inr (inr (inr h)))) sends is x = inr (inl (k, b, inr (inr (inr (inr (near-silent (N k [] (disc t ∷ [])) (G [] []) hn I w h (record { waiting = refl; information = refl; pending = refl })))))))
    told-near k b w (inr (inr (inr (inr h)))) receives is x = inr (inl (k, b, inr (inr (inr (inr (near-takes-none (N k [] (disc t ∷ [])) (G [] []) hn I w h refl))))))
    told-near k b w (inr (inr (inr (inr h)))) loses is x = inr (inl (k, b, inr (inr (inl (loses-disc k (G [] []) I w h)))))

    told-far : (k : Tries) (b : Bool) (w : Wire)
        → Are (N k [] []) (G (reply b ∷ []) []) hn I w ⊎ Are (N k [] []) (G [] (frame_of u (reply b) ∷ [])) hn I w ⊎ Are (N k [] []) (G [] []) hn I w
        ⊎ Are (N k (its_disc ∷ []) []) (G [] []) hn I w ⊎ Are (N k [] (disc t ∷ [])) (G [] []) hn I w
        → (act : EndStep) → IsLeaving service tei (at_far act) → Told (turned (acting act (turned w)))
    told-far k b w (inl h) sends is = (k, b, inr (inl (gives-reply k w b h)))
    told-far k b w (inl h) receives is = (k, b, inl (far-takes-none (N k [] []) (G (reply b ∷ []) []) hn I w h refl))
    told-far k b w (inl h) loses is = (k, b, inl (far-loses-none (N k [] []) (G (reply b ∷ []) []) hn I w h refl))
    told-far k b w (inr (inl h)) sends is = (k, b, inr (inl (far-silent (N k [] []) (G [] (frame_of u (reply b) ∷ [])) hn I w h gone-quiet)))
    told-far k b w (inr (inl h)) receives is = (k, b, inr (inl (far-takes-none (N k [] []) (G [] (frame_of u (reply b) ∷ [])) hn I w h refl)))
    told-far k b w (inr (inl h)) loses is = (k, b, inr (inr (inl (loses-reply k w b h))))
    told-far k b w (inr (inr (inl h))) sends is = (k, b, inr (inr (inl (far-silent (N k [] []) (G [] []) hn I w h gone-quiet))))
    told-far k b w (inr (inr (inl h))) receives is = (k, b, inr (inr (inl (far-takes-none (N k [] []) (G [] []) hn I w h refl))))
    told-far k b w (inr (inr (inl h))) loses is = (k, b, inr (inr (inl (far-loses-none (N k [] []) (G [] []) hn I w h refl))))
    told-far k b w (inr (inr (inr (inl h)))) sends is = (k, b, inr (inr (inr (inl (far-silent (N k (its_disc ∷ []) []) (G [] []) hn I w h gone-quiet)))))
    told-far k b w (inr (inr (inr (inl h)))) receives is = (k, b, inr (inr (inr (inl (far-takes-none (N k (its_disc ∷ []) []) (G [] []) hn I w h refl)))))
    told-far k b w (inr (inr (inr (inl h)))) loses is = (k, b, inr (inr (inr (inl (far-loses-none (N k (its_disc ∷ []) []) (G [] []) hn I w h refl)))))
    told-far k b w (inr (inr (inr (inr h)))) sends is = (k, b, inr (inr (inr (inr (far-silent (N k [] (disc t ∷ [])) (G [] []) hn I w h gone-quiet)))))
    told-far k b w (inr (inr (inr (inr h)))) receives is = (k, false, inl (takes-again k w h))
    told-far k b w (inr (inr (inr (inr h)))) loses is = (k, b, inr (inr (inr (inr (far-loses-none (N k [] (disc t ∷ [])) (G [] []) hn I w h refl)))))
    told-far k b w h other is = absurd is

    last-near : (w : Wire) → Last w → (act : EndStep) → IsLeaving service tei (at_near act) → Last (acting act w)
    last-near w (k, h) (requests r) is = absurd is
    last-near w (k, h) (expires timer) is =
        for-timer service tei (λ timer. Last (acting (expires timer) w)) (λ timer its aims. (k, near-unmoved (N4 k) (G [] []) confirmed_then I w h timer its aims (unmoved its))) timer is
      where
        unmoved : (its : LinkTimer) → course t (expired its) (left ln k) ≡ begun (left ln k)
        unmoved its = grind arith
    last-near w (k, h) sends is = (k, near-silent (N4 k) (G [] []) confirmed_then I w h (record { waiting = refl; information = refl; pending = refl }))
    last-near w (k, h) receives is = (k, near-takes-none (N4 k) (G [] []) confirmed_then I w h refl)
    last-near w (k, h) loses is = (k, near-loses-none (N4 k) (G [] []) confirmed_then I w h refl)

    last-far : (w : Wire) → Last w → (act : EndStep) → IsLeaving service tei (at_far act) → Last (turned (acting act (turned w)))
    last-far w (k, h) sends is = (k, far-silent (N4 k) (G [] []) confirmed_then I w h gone-quiet)
    last-far w o act is = grind (arith, far-takes-none, far-loses-none)

    pub step : (x : StepAt) → IsLeaving service tei x → (w : Wire) → IsTimelyThere x w → Phase w → Phase (doing x w)
    step (at_near act) is w timely (inl (k, h)) = inl (first-near k w h act is timely)
    step (at_near act) is w timely (inr (inl (k, b, h))) = told-near k b w h act is timely
    step (at_near act) is w timely (inr (inr h)) = inr (inr (last-near w h act is))
    step (at_far act) is w timely (inl (k, h)) = first-far k w h act is
    step (at_far act) is w timely (inr (inl (k, b, h))) = inr (inl (told-far k b w h act is))
    step (at_far act) is w timely (inr (inr h)) = inr (inr (last-far w h act is))

    pub ends : (ds : List StepAt) → All (IsLeaving service tei) ds → (w : Wire) → StayTimelyThere ds w → Phase w → Phase (doing_all ds w)
    unfolding doing_all StayTimelyThere
    ends [] all w x h = h
    ends (x ∷ ds) all w timely h =
        ends ds (All-tail (IsLeaving service tei) x ds all) (doing x w) timely.1 (step x (All-head (IsLeaving service tei) x ds all) w timely.0 h)
