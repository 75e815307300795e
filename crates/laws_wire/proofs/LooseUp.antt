-- Two stations that are up, either of which may be busy, where each timer is timely: both stay up, whatever is lost.
use Rattle.laws_wire.proofs.Vocabulary.{◌≡◌, ℕ, false, List, [], ◌∷◌, ◌++◌, length, drop, map, refl, sym, ap, subst, ◌∙◌, ◌⊎◌, inl, inr, Service, Timer, LinkTimer, LinkEndpoint, with_link, with_sent, offer-gave, Config, LineTold, CanRepeat, two_ends_acting, HasNothingToSend, nothing-given, runs, T200, Wire, EndStep, requests, expires, sends, receives, loses, acting, turned, IsStill, data_told}
use Rattle.laws_wire.proofs.Vocabulary.{heard_in, IsTimelyOf, runs_t200}
use Rattle.laws_wire.proofs.Vocabulary.{IsFullTalkOf, Rests, expired, timer_T200, timer_T203}
use Rattle.model_link.specs.TwoEnds as two_ends
use Rattle.laws_link.specs.two.Timely as two_links_timely
use Rattle.laws_wire.proofs.Awaited.{runs-up, rests-here}
use Rattle.laws_wire.proofs.Held.{Held, held-given, held-lost}
use Rattle.laws_wire.proofs.Loose.{Loose, loose-turned, loose-after, HasAll, loose-came}
use Rattle.laws_wire.proofs.LossyPhases.{Aims}
use Rattle.laws_wire.proofs.Talking.{Face}
use Rattle.laws_wire.proofs.TimelyUp.{took-held, hushed, timer-held, held-request, timely-step}
use Rattle.laws_wire.proofs.Simulated.{each-timer, step_of, timer_of}

drop-all : (xs : List (List ℕ)) → drop (length xs) xs ≡ []
drop-all [] = refl
drop-all (x ∷ xs) = drop-all xs

module _ (service : Service) (tei : ℕ) where
  pub record LooseUp (c d : Config) (p q : ℕ) (past other : List LineTold) (w : Wire) : Type 0 where
    pub n : LinkEndpoint
    pub m : LinkEndpoint
    pub near : Held c service tei p past w.near n
    pub far : Held d service tei q other w.far m
    pub loose : Loose n m

  -- and the ends are these
  pub record LooseAt (c d : Config) (p q : ℕ) (past other : List LineTold) (w : Wire) (n m : LinkEndpoint) : Type 0 where
    pub near : Held c service tei p past w.near n
    pub far : Held d service tei q other w.far m
    pub loose : Loose n m

  pub at-turned : (c d : Config) (p q : ℕ) (past other : List LineTold) (w : Wire) (n m : LinkEndpoint) → LooseAt c d p q past other w n m → LooseAt d c q p other past (turned w) m n
  at-turned c d p q past other w n m h = record { near = h.far; far = h.near; loose = loose-turned n m h.loose }

  abbrev pub IsRequest : EndStep → Type 0
  IsRequest (requests r) = Unit {0}
  IsRequest other = ⊥

  module _ (c d : Config) (p q : ℕ) (face : Face c d) (past other : List LineTold) (w : Wire) (n m : LinkEndpoint) (h : LooseAt c d p q past other w n m) where
    abbrev Then : Wire → LinkEndpoint → LinkEndpoint → Type 0
    Then w' n' m' = LooseAt c d p q past other w' n' m'

    -- What is done at a station is done at its end, or it is a request that changes nothing.
    pub record Does (act : EndStep) : Type 0 where
      pub timely : two_links_timely.IsTimelyStep (step_of act) n m
      pub at : let e = two_ends_acting (step_of act) (record { near = n; far = m }) in LooseAt c d p q past other (acting act w) e.near e.far

    pub at-gives : Then (acting sends w) (with_sent n) m
    at-gives =
        let kept = (offer-gave n.terms h.loose.joined.near_ranges n.link h.loose.joined.near_sound n.link.waiting refl).same in
        record { near = held-given service tei p past c w.near n h.near kept; far = h.far; loose = loose-after n m h.loose two_ends.sends tt }

    pub at-takes : Then (acting receives w) (two_ends.with_first_of m.way n) (two_ends.without_first m)
    at-takes = record {
      near = took-held service tei c d p q face past other w.near w.far n m h.near h.far h.loose.joined h.loose.same h.loose.there h.loose.back;
      far = held-lost service tei q other d w.far m h.far;
      loose = loose-after n m h.loose two_ends.receives tt;
    }

    pub at-expires : (timer : Timer) (its : LinkTimer) → Aims service tei timer its → CanRepeat its n → two_links_timely.IsTimely its n m
        → Then (acting (expires timer) w) (with_link (expired its) n) m
    at-expires timer its aims can timely =
        let loose = loose-after n m h.loose (two_ends.expires its) (can, timely) in
        record { near = timer-held service tei c p past w.near n h.near h.loose.joined.near_up timer its aims loose.joined.near_up; far = h.far; loose = loose }

    by-timer : (timer : Timer) → Aims service tei timer (timer_of timer) → two_links_timely.IsTimelyStep (step_of (expires timer)) n m → (⊥ × (acting (expires timer) w ≡ w)) ⊎ Does (expires timer)
    by-timer timer aims timely = inr (record { timely = timely; at = at-expires timer (timer_of timer) aims timely.0 timely.1 })

    does : (act : EndStep) → IsFullTalkOf service tei act → two_links_timely.IsTimelyStep (step_of act) n m → (IsRequest act × (acting act w ≡ w)) ⊎ Does act
    does (requests r) is timely =
        elim (held-request service tei c p past w.near n h.near r is) [
          | inl same ↦ inl (tt, ap (λ s. record w { near = s }) same)
          | inr held ↦ inr (record { timely = timely; at = record { near = held; far = h.far; loose = loose-after n m h.loose (step_of (requests r)) timely } })
        ]
    does (expires timer) is timely =
        each-timer service tei (λ timer. two_links_timely.IsTimelyStep (step_of (expires timer)) n m → (⊥ × (acting (expires timer) w ≡ w)) ⊎ Does (expires timer))
        (by-timer (timer_T200 service tei) (λ l. refl)) (by-timer (timer_T203 service tei) (λ l. refl)) timer is timely
    does sends is timely = inr (record { timely = tt; at = at-gives })
    does receives is timely = inr (record { timely = tt; at = at-takes })
    does loses is timely = inr (record { timely = tt; at = record { near = held-lost service tei p past c w.near n h.near; far = h.far; loose = loose-after n m h.loose two_ends.loses tt } })

    pub at-does : (act : EndStep) → IsFullTalkOf service tei act → IsTimelyOf act w → (IsRequest act × (acting act w ≡ w)) ⊎ Does act
    at-does act is x = does act is (timely-step service tei c d p q past other w n m h.near h.far h.loose.near_sane.timed act is x)

  pub loose-turned-up : (c d : Config) (p q : ℕ) (past other : List LineTold) (w : Wire) → LooseUp c d p q past other w → LooseUp d c q p other past (turned w)
  loose-turned-up c d p q past other w h = record { n = h.m; m = h.n; near = h.far; far = h.near; loose = loose-turned h.n h.m h.loose }

  module _ (c d : Config) (p q : ℕ) (face : Face c d) (past other : List LineTold) (w : Wire) (h : LooseUp c d p q past other w) where
    abbrev n : LinkEndpoint
    n = h.n

    abbrev m : LinkEndpoint
    m = h.m

    abbrev Now : Wire → Type 0
    Now w' = LooseUp c d p q past other w'

    pub loose-acts : (act : EndStep) → IsFullTalkOf service tei act → IsTimelyOf act w → Now (acting act w)
    loose-acts act is x =
        elim (at-does c d p q face past other w n m (record { near = h.near; far = h.far; loose = h.loose }) act is x) [
          | inl (its, same) ↦ subst Now (sym same) h
          | inr y ↦ let e = two_ends_acting (step_of act) (record { near = n; far = m }) in record { n = e.near; m = e.far; near = y.at.near; far = y.at.far; loose = y.at.loose }
        ]

    -- where no turn is left and T200 does not run, all that it was granted was told at the other, and it rests
    module _ (still : IsStill w) (none : runs_t200 service tei w.near ≡ false) where
      quiet : HasNothingToSend n.terms n.link
      quiet = nothing-given n.terms n.link (hushed service tei c p past w.near n h.near still.near still.near_way).given

      stopped : runs T200 n.link.running ≡ false
      stopped = sym (runs-up service tei c p w.near n h.near.stands h.loose.joined.near_up) ∙ none

      has-all : HasAll n m h.loose quiet stopped
      has-all = loose-came n m h.loose quiet stopped

      pub loose-told : heard_in w.far ≡ other ++ map (data_told service tei) w.near.granted
      loose-told = h.far.heard ∙ ap (λ xs. other ++ map (data_told service tei) xs) (has-all.delivered ∙ sym h.near.granted)

      pub loose-rests : Rests service tei w.near
      loose-rests =
          rests-here service tei c p w.near n h.near.stands has-all.state (ap (λ a. drop a n.link.contents) has-all.acknowledged ∙ drop-all n.link.contents)
