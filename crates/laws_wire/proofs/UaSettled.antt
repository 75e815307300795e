-- Where both ends are up, neither is busy and no turn is left: once T200 expires, so many rounds are enough for all that is missing, and it stops.
use Rattle.laws_wire.proofs.Vocabulary.{◌≡◌, true, ℕ, ◌+◌, ◌≤◌, false, List, ◌++◌, length, map, take, None, refl, sym, ap, subst, arith, length-map, length-append, length-take-le, eq-eqb, Service, Timer, Established, T200, Link, may_repeat, given, LinkEndpoint, Ends, with_link, Config, LineTold, next, gave, runs, is_running, IsCutOff, all-recovered, nothing-to_send, awaits_answer, Endpoint, Wire}
use Rattle.laws_wire.proofs.Vocabulary.{expires, acting, turned}
use Rattle.laws_wire.proofs.Vocabulary.{answered, IsStill, link_of, data_told, heard_in, is_poll, runs_t200, rounds, with_t200_expired, both_expire, BothMayRepeat, StayPatient, expired, timer_T200, two_links_rounds, TwoLinksHasArrived, HasItsTimer, HasNo, TimerRecovery, enquiry_with, expires-one, is_final, rising-low, [], AreFree, free-recovered, flows-low}
use Rattle.laws_link.specs.two.CutOff as cut_off
use Rattle.laws_wire.specs.Facing.{line_of}
use Rattle.laws_wire.proofs.Awaited.{NoneOpen, closed, may-there, open-here, link-is, runs-up}
use Rattle.laws_wire.proofs.Held.{Held}
use Rattle.laws_wire.proofs.Loose.{Loose, loose-turned}
use Rattle.laws_wire.proofs.LooseUp.{LooseAt, at-turned, at-expires, at-gives, at-takes}
use Rattle.laws_wire.proofs.RoundsKeep.{rounds-keep}
use Rattle.laws_wire.proofs.Standing.{StationStands, gives-none}
use Rattle.laws_wire.proofs.Talking.{Face}
use Rattle.laws_wire.proofs.TimelyUp.{IsHushed, hushed, none-waits, none-of, none-open, timed-8}

-- all frames on the way were lost
cut-off : (n m : LinkEndpoint) → Loose n m → n.link.own_busy ≡ false → n.link.waiting ≡ [] → n.way ≡ [] → (n.link.state ≡ TimerRecovery → may_repeat n.terms n.link ≡ true) → IsCutOff n m
cut-off n m h free waiting way repeats = grind (arith, rising-low, line_of, flows-low)

-- once it expires nothing waits but an enquiry
no-answer : (n m : LinkEndpoint) → IsCutOff n m → HasNo is_final (with_link (expired T200) n)
no-answer n m h = grind (arith, expires-one, enquiry_with)

-- a link that has had all acknowledged, and takes the other for free, does not run T200
stops : (l : Link) → HasItsTimer l → l.state ≡ Established → l.s ≡ l.a → l.peer_busy ≡ false → is_running T200 l ≡ false
stops l h state all free = grind (arith, eq-eqb)

pub nothing-said : (service : Service) (tei : ℕ) (k : Config) (place : ℕ) (its : List LineTold) (s : Endpoint) (n : LinkEndpoint) → Held k service tei place its s n → given n.terms n.link ≡ None
    → answered next s ≡ gave None
nothing-said service tei k place its s n h none = gives-none service tei place s n (subst (λ k. StationStands k service tei place s n) (sym h.stands.config) h.stands) none

module _ (service : Service) (tei : ℕ) (c d : Config) (p q : ℕ) (face : Face c d) (back : Face d c) (past other : List LineTold) where
  abbrev At : Wire → LinkEndpoint → LinkEndpoint → Type 0
  At w n m = LooseAt service tei c d p q past other w n m

  -- so it is round after round
  pub loose-rounds : (k : ℕ) (w : Wire) (e : Ends) → At w e.near e.far → At (rounds k w) (two_links_rounds k e).near (two_links_rounds k e).far
  loose-rounds =
      rounds-keep (λ w e. At w e.near e.far) (λ w e. LooseAt service tei d c q p other past w e.near e.far)
      (λ w e. at-turned service tei c d p q past other w e.near e.far) (λ w e. at-turned service tei d c q p other past w e.near e.far)
      (λ w e. at-gives service tei c d p q face past other w e.near e.far) (λ w e. at-gives service tei d c q p back other past w e.near e.far)
      (λ w e. at-takes service tei c d p q face past other w e.near e.far) (λ w e. at-takes service tei d c q p back other past w e.near e.far)

  missing : (told : List LineTold) (r u : ℕ) (granted delivered : List (List ℕ)) (heard : List LineTold) → r ≤ length granted → delivered ≡ take r granted
      → heard ≡ told ++ map (data_told service tei) delivered → length (told ++ map (data_told service tei) granted) ≤ length heard + u → length granted ≤ r + u
  missing told r u granted delivered heard low is here h = grind (arith, length-append, length-map, length-take-le)

  module _ (w : Wire) (n m : LinkEndpoint) (h : At w n m) (still : IsStill w) (may : BothMayRepeat service tei w) (near_free : n.link.own_busy ≡ false) (far_free : m.link.own_busy ≡ false) where
    abbrev timer : Timer
    timer = timer_T200 service tei

    abbrev e : Ends
    e = record { near = n; far = m }

    abbrev n' : LinkEndpoint
    n' = with_link (expired T200) n

    abbrev m' : LinkEndpoint
    m' = with_link (expired T200) m

    near-hushed : IsHushed service tei n
    near-hushed = hushed service tei c p past w.near n h.near still.near still.near_way

    far-hushed : IsHushed service tei m
    far-hushed = hushed service tei d q other w.far m h.far still.far still.far_way

    near-cut : IsCutOff n m
    near-cut =
        cut-off n m h.loose near_free (none-waits service tei n near-hushed) near-hushed.way
        (λ state. may-there service tei c p w.near n h.near.stands may.0 (ap awaits_answer state) (ap (runs T200) (timed-8 service tei c p past w.near n h.near h.loose.near_sane.timed state)))

    far-cut : IsCutOff m n
    far-cut =
        cut-off m n (loose-turned n m h.loose) far_free (none-waits service tei m far-hushed) far-hushed.way
        (λ state. may-there service tei d q w.far m h.far.stands may.1 (ap awaits_answer state) (ap (runs T200) (timed-8 service tei d q other w.far m h.far h.loose.far_sane.timed state)))

    -- at the first end, and then at the other, which has no answer to come
    abbrev w' : Wire
    w' = acting (expires timer) w

    near-expired : At w' n' m
    near-expired =
        at-expires service tei c d p q face past other w n m h timer T200 (λ l. refl) (λ state running. near-cut.repeats state)
        (λ state running. closed n m (none-open service tei n m near-hushed far-hushed))

    far-open : NoneOpen m n'
    far-open = record { commands = none-of service tei is_poll m (none-waits service tei m far-hushed) far-hushed.way; responses = no-answer n m near-cut }

    both-expired : At (with_t200_expired service tei w) n' m'
    both-expired =
        at-turned service tei d c q p other past (acting (expires timer) (turned w')) m' n'
        (at-expires service tei d c q p back other past (turned w') m n' (at-turned service tei c d p q past other w' n' m near-expired) timer T200 (λ l. refl) (λ state running. far-cut.repeats state)
        (λ state running. closed m n' far-open))

    -- so both are timely
    pub loose-goes_on : StayPatient (both_expire service tei) w
    unfolding StayPatient
    loose-goes_on = (
      (λ no. open-here service tei c d p q w.near w.far n m h.near.stands h.far.stands (none-open service tei n m near-hushed far-hushed), may.0),
      ((λ no. open-here service tei d c q p w'.far w'.near m n' near-expired.far.stands near-expired.near.stands far-open, may.1), tt),
    )

    -- what comes of it
    pub record Settled (last : Wire) : Type 0 where
      pub near : heard_in last.near ≡ past ++ map (data_told service tei) w.far.granted
      pub far : heard_in last.far ≡ other ++ map (data_told service tei) w.near.granted
      pub rests : IsStill last
      pub near_stops : HasItsTimer (link_of service tei (line_of last.near)) → runs_t200 service tei last.near ≡ false
      pub far_stops : HasItsTimer (link_of service tei (line_of last.far)) → runs_t200 service tei last.far ≡ false

    settled : (last : Wire) (x : Ends) → At last x.near x.far → TwoLinksHasArrived n.link.contents x.near x.far → TwoLinksHasArrived m.link.contents x.far x.near → AreFree x → Settled last
    settled last x at near far free = grind (arith, nothing-said, nothing-to_send, runs-up, stops, link-is)

    pub loose-settles : (u : ℕ) → length (past ++ map (data_told service tei) w.far.granted) ≤ length (heard_in w.near) + u → length (other ++ map (data_told service tei) w.near.granted) ≤ length (heard_in w.far) + u
        → Settled (rounds (u + 3) (with_t200_expired service tei w))
    loose-settles u few-near few-far =
        let e' = cut_off.with_t200_expired e in
        let there : cut_off.HasMissing u n m =
        missing other m.link.r u n.link.contents m.delivered (heard_in w.far) h.loose.joined.there.accepted h.loose.joined.there.delivered h.far.heard
        (subst (λ xs. length (other ++ map (data_told service tei) xs) ≤ length (heard_in w.far) + u) h.near.granted few-far) in
        let back_ : cut_off.HasMissing u m n =
        missing past n.link.r u m.link.contents n.delivered (heard_in w.near) h.loose.joined.back.accepted h.loose.joined.back.delivered h.near.heard
        (subst (λ xs. length (past ++ map (data_told service tei) xs) ≤ length (heard_in w.near) + u) h.far.granted few-near) in
        let all = all-recovered u e near-cut far-cut there back_ in
        settled (rounds (u + 3) (with_t200_expired service tei w)) (two_links_rounds (u + 3) e')
        (loose-rounds (u + 3) (with_t200_expired service tei w) e' both-expired) all.0 all.1 (free-recovered u e near-cut far-cut there back_)
