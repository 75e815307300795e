-- Stations whose links are up, where each timer is timely: what is done there, as it is done at the ends for which they stand.
use Rattle.laws_wire.proofs.Vocabulary.{arith, ◌≡◌, ℕ, Bool, true, IsTrue, List, [], ◌∷◌, ◌++◌, map, Some, None, refl, sym, ap, subst, ◌∙◌, ◌⊎◌, inl, inr, append-nil, true≢false, All, All-head, Control, Service, Timer, Parts, spelling, TimerRecovery, LinkTimer, T203, is_multiple_frame, course, given, is_running, awaits_answer, IsTimed, IsTimedIn, runs, LinkEndpoint, with_link, Config, LineTold}
use Rattle.laws_wire.proofs.Vocabulary.{expiry, request, next, gave}
use Rattle.laws_wire.proofs.Vocabulary.{nothing-given, T200, Data, Endpoint, Wire, happens, with_first_of, EndStep, requests, expires, answered, is_poll, is_final, IsTimelyOf, Joined, Flows, expired, two_ends_with_first_of, own_side, ClearBusy, Course, IsAsked, IsFullTalkOf, IsNotRelease, Line, Link, LinkClearBusy, LinkSetBusy, Request, SetBusy, Terms, aim_of_request, at_requested}
use Rattle.laws_wire.proofs.Vocabulary.{contents_requested, false, link_expires}
use Rattle.laws_wire.proofs.Vocabulary.{place_in, requested, IsStill, IsNoneOpen, Ends}
use Rattle.laws_link.specs.two.Timely as two_links_timely
use Rattle.laws_wire.proofs.Asking.{asked-form}
use Rattle.laws_wire.proofs.Awaited.{NoneOpen, closed, may-there, long-there, open-here}
use Rattle.laws_wire.proofs.Fair.{HasError, Fine, timer-fair}
use Rattle.laws_wire.proofs.Held.{Held, held-taken, held-expired, held-asked, heard-then}
use Rattle.laws_wire.proofs.Joint.{timer-goes}
use Rattle.laws_wire.proofs.LossyPhases.{Aims}
use Rattle.laws_wire.proofs.Standing.{IsCarried, StationStands, still-gives-none, asks-stands}
use Rattle.laws_wire.proofs.Talking.{Face, no-way}
use Rattle.laws_wire.proofs.Simulated.{asked_of, each-timer, for-asked, step_of, timer_of, Stand}
use Rattle.laws_wire.proofs.Loose.{takes-fine, takes-kept, timer-quiet}

-- what own busy asks for is told nobody, and leaves the contents
pub record Mute (l : Link) (c : Course) : Type 0 where
  pub contents : c.link.contents ≡ l.contents
  pub notes : c.notes ≡ []
  pub delivered : c.delivered ≡ None
  pub unit : c.unit ≡ None

module _ (t : Terms) (l : Link) where
  pub busy-mute : Mute l (course t (requested LinkSetBusy false) l)
  busy-mute = grind arith

  pub ready-mute : Mute l (course t (requested LinkClearBusy false) l)
  ready-mute = grind arith

module _ (service : Service) (tei : ℕ) where
  -- where no turn is left
  pub record IsHushed (n : LinkEndpoint) : Type 0 where
    pub given : given n.terms n.link ≡ None
    pub way : n.way ≡ []

  pub hushed-there : (k : Config) (place : ℕ) (s : Endpoint) (n : LinkEndpoint) → StationStands k service tei place s n → answered next s ≡ gave None → s.way ≡ [] → IsHushed n
  hushed-there k place s n h none empty = record {
    given = still-gives-none service tei place s n (subst (λ k. StationStands k service tei place s n) (sym h.config) h) none;
    way = no-way (spelling (own_side k)) n.way (sym h.way ∙ empty);
  }

  pub hushed : (k : Config) (place : ℕ) (past : List LineTold) (s : Endpoint) (n : LinkEndpoint) → Held k service tei place past s n → answered next s ≡ gave None → s.way ≡ []
      → IsHushed n
  hushed k place past s n h none empty = hushed-there k place s n h.stands none empty

  pub none-waits : (n : LinkEndpoint) → IsHushed n → n.link.waiting ≡ []
  none-waits n h = (nothing-given n.terms n.link h.given).waiting

  -- so no answer is to come
  pub none-of : (asked : Bool → Control → Bool) (n : LinkEndpoint) → n.link.waiting ≡ [] → n.way ≡ [] → two_links_timely.HasNo asked n
  none-of asked n waiting way = grind arith

  pub none-open : (n m : LinkEndpoint) → IsHushed n → IsHushed m → NoneOpen n m
  none-open n m h k = record { commands = none-of is_poll n (none-waits n h) h.way; responses = none-of is_final m (none-waits m k) k.way }

  -- on the wire, either
  pub still-open : (c d : Config) (p q : ℕ) (w : Wire) (e : Ends) → Stand service tei c d p q w e → IsStill w → IsNoneOpen w.near w.far × IsNoneOpen w.far w.near
  still-open c d p q w e h still =
      let near = hushed-there c p w.near e.near h.near still.near still.near_way in
      let far = hushed-there d q w.far e.far h.far still.far still.far_way in (
        open-here service tei c d p q w.near w.far e.near e.far h.near h.far (none-open e.near e.far near far),
        open-here service tei d c q p w.far w.near e.far e.near h.far h.near (none-open e.far e.near far near),
      )

  -- a station whose link is up, and stays so as a timer expires
  module _ (k : Config) (place : ℕ) (past : List LineTold) (s : Endpoint) (n : LinkEndpoint) (h : Held k service tei place past s n) where
    abbrev IsUpAt : LinkEndpoint → Type 0
    IsUpAt n = IsTrue (is_multiple_frame n.link.state)

    abbrev after : Timer → Endpoint
    after timer = happens (expiry timer) s

    pub timer-held : IsUpAt n → (timer : Timer) (its : LinkTimer) → Aims service tei timer its → IsUpAt (with_link (expired its) n)
        → Held k service tei place past (after timer) (with_link (expired its) n)
    timer-held up timer its aims stays = grind (arith, go, timer-quiet, timer-fair)
      where
        go : let x = course n.terms (expired its) n.link in (HasError x.notes → ⊥)
            → HasError x.notes ⊎ Fine n.terms x.link.state x.notes x.delivered x.unit → Held k service tei place past (after timer) (with_link (expired its) n)
        go quiet (inl error) = absurd (quiet error)
        go quiet (inr fine) =
            let kept = (timer-goes n.terms n.link up its fine.up).same ∙ append-nil n.link.contents in
            held-expired service tei place past k s n h timer its aims (record { its_notes = fine.its_notes; no_unit = fine.no_unit }) kept

    -- in state 8 T200 runs, and T203 does not
    pub timed-8 : IsTimed n.link → n.link.state ≡ TimerRecovery → n.link.running ≡ Some T200
    timed-8 timed state = subst (λ here. IsTimedIn here n.link) state timed.timer

    pub never : IsTimed n.link → n.link.state ≡ TimerRecovery → is_running T203 n.link ≡ true → ⊥
    never timed state running = true≢false (sym running ∙ ap (runs T203) (timed-8 timed state))

  -- it takes what the other gave
  pub took-held : (c d : Config) (p q : ℕ) → Face c d → (past other : List LineTold) (s o : Endpoint) (n m : LinkEndpoint) → Held c service tei p past s n → Held d service tei q other o m
      → Joined n m → n.terms.n201 ≡ m.terms.n201 → Flows n m → Flows m n → Held c service tei p past (with_first_of o.way s) (two_ends_with_first_of m.way n)
  took-held c d p q face past other s o n m h g joined same there back = subst (λ ways. Held c service tei p past (with_first_of ways s) (two_ends_with_first_of m.way n)) (sym g.stands.way) (taken m.way refl)
    where
      taken : (way : List Parts) → m.way ≡ way → Held c service tei p past (with_first_of (map (spelling (own_side d)) way) s) (two_ends_with_first_of way n)
      taken [] e = h
      taken (f ∷ fs) e =
          let from : IsCarried d service tei f = All-head (IsCarried d service tei) f fs (subst (All (IsCarried d service tei)) e g.stands.carried) in
          let fine = takes-fine n m joined same there back f fs e in
          held-taken service tei p past c s n h d face f from (record { its_notes = fine.its_notes; no_unit = fine.no_unit }) (takes-kept n m joined same there back f fs e)

  -- own busy begins or ends
  module _ (c : Config) (place : ℕ) (past : List LineTold) (s : Endpoint) (n : LinkEndpoint) (h : Held c service tei place past s n) where
    abbrev asked : Request → LinkEndpoint
    asked r = with_link (requested (asked_of r) false) n

    abbrev Asks : Request → Type 0
    Asks r = (happens (request r) s ≡ s) ⊎ Held c service tei place past (happens (request r) s) (asked r)

    held-busy : (r : Request) → ((l : Line) → aim_of_request r l ≡ at_requested service tei (asked_of r) (place_in l tei)) → contents_requested r ≡ []
        → Mute n.link (course n.terms (requested (asked_of r) false) n.link) → Asks r
    held-busy r aims none mute =
        elim (asks-stands service tei place s n (subst (λ k. StationStands k service tei place s n) (sym h.stands.config) h.stands) r (asked_of r) aims) [
          | inl same ↦ inl same
          | inr g ↦
              inr (record {
                stands = subst (λ k. StationStands k service tei place (happens (request r) s) (asked r)) h.stands.config g.stands;
                granted = g.granted ∙ ap (λ xs. s.granted ++ xs) none ∙ append-nil s.granted ∙ h.granted ∙ sym mute.contents;
                heard = heard-then service tei place past c s n h (happens (request r) s) (course n.terms (requested (asked_of r) false) n.link) g.told (grind arith);
              })
        ]

    held-data : (octets : List ℕ) → Asks (Data service tei octets)
    held-data octets =
        elim (held-asked service tei place past c s n h octets) [
          | inl same ↦ inl same
          | inr x ↦ inr (subst (Held c service tei place past (happens (request (Data service tei octets)) s)) (sym (asked-form octets n x.none)) x.held)
        ]

    -- it is asked
    pub held-request : (r : Request) → IsAsked service tei r → Asks r
    held-request r is =
        for-asked service tei Asks held-data (held-busy (SetBusy service tei) (λ l. refl) refl (busy-mute n.terms n.link))
        (held-busy (ClearBusy service tei) (λ l. refl) refl (ready-mute n.terms n.link)) r is

  -- what is timely on the wire is timely at the ends
  module _ (c d : Config) (p q : ℕ) (past other : List LineTold) (w : Wire) (n m : LinkEndpoint) (near : Held c service tei p past w.near n) (far : Held d service tei q other w.far m)
      (timed : IsTimed n.link) where
    stops : {A : Type 0} → n.link.state ≡ TimerRecovery → is_running T203 n.link ≡ true → A
    stops state running = absurd (never c p past w.near n near timed state running)

    pub timely-step : (act : EndStep) → IsFullTalkOf service tei act → IsTimelyOf act w → two_links_timely.IsTimelyStep (step_of act) n m
    timely-step (requests r) is x = for-asked service tei (λ r. IsNotRelease (asked_of r)) (λ octets. tt) tt tt r is
    timely-step (expires timer) is x =
        each-timer service tei (λ timer. IsTimelyOf (expires timer) w → two_links_timely.IsTimelyStep (link_expires (timer_of timer)) n m)
        (λ (long, may). (
          λ state running. may-there service tei c p w.near n near.stands may (ap awaits_answer state) running,
          λ state running. closed n m (long-there service tei c d p q w.near w.far n m near.stands far.stands long (ap awaits_answer state)),
        )) (λ x. (stops, stops)) timer is x
    timely-step act is x = grind arith
