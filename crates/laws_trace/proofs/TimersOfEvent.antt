-- What is known of a link stays true: each event of a line.
use Rattle.laws_trace.proofs.Vocabulary.{true≢false, true, false}
use Rattle.laws_trace.proofs.Vocabulary.{arith, ◌≡◌, ℕ, ◌&&◌, ◌||◌, Bool, cond, [], map, Option, Some, None, option_map, refl, sym, ap, ◌∙◌, subst, ◌⊎◌, inl, inr, All, option_to_list, option_map_or, All-head, Service, Parts, place_of-is, HasItsTimer, State, Terms, LinkTimer, Link, Given, runs, Config, next, Answer, NextFrame, gave, Line, link_in, link_of, link_number, place_in, state_of}
use Rattle.laws_trace.proofs.Vocabulary.{state_in}
use Rattle.laws_trace.proofs.Vocabulary.{terms, taken, next_of, IsInRange, terms_in_range, IsBy, timer_of, is_needed, left_by, HaveTheirTimers, fresh_link as fresh, Event, line_after as after, answer, line_frame_of as frame_of, IsSound, is_for, trace_frame_in as frame_in, seen, none-some, link_after, given, course}
use Rattle.model_link.specs.Events as link
use Rattle.model_link.specs.Sound as link_sound
use Rattle.laws_trace.proofs.TimersWatched.{Known, nothing_yet, listens, sends, control_in, learned}
use Rattle.laws_trace.proofs.States.{is_state}
use Rattle.laws_trace.proofs.DataGoesOut.{foreign, own-sent, sent_of, sent_with}
use Rattle.laws_trace.proofs.Deliveries.{heard-by, frame_by, brings-frame, brings-none}
use Rattle.laws_trace.proofs.DeliveriesRun.{event-aims}
use Rattle.laws_trace.proofs.OneLink.{frames_given, IsForeign, HasOne, HasNone, Goes, event-goes}
use Rattle.laws_trace.proofs.TimerActs.{timing}
use Rattle.laws_trace.proofs.TimerClaims.{Agrees, told_state, heard_by}
use Rattle.laws_trace.proofs.TimerEvents.{ran_before, control_of, event-good}
use Rattle.laws_trace.proofs.TimerOffers.{Offered, given_sent, offer-good}
use Rattle.laws_trace.proofs.TimersOfLine.{sent_at, seen-learns}
use Rattle.laws_trace.proofs.Facts.{its-own}
use Rattle.laws_trace.proofs.LineAtEnd.{link-at-end}

-- What is true of a link of a line, whose TEI may be on it or not.
abbrev pub IsTrueOf : Service → ℕ → Known → Line → Type 0
IsTrueOf service tei k l = let x = link_of service tei l in Agrees x.state k x.a x.s x.peer_busy

module _ (service : Service) (tei : ℕ) where
  pub state-on : (l : Line) (place : ℕ) → place_in l tei ≡ Some place → state_of service tei l ≡ told_state (link_of service tei l).state
  state-on l place on = grind (arith, option_map, told_state)

  pub off-fresh : (l : Line) → place_in l tei ≡ None → link_of service tei l ≡ fresh
  off-fresh l off = ap (λ o. option_map_or (link_in l service) o fresh) off

  pub off-state : (l : Line) → place_in l tei ≡ None → state_of service tei l ≡ None
  off-state l off = ap (option_map (state_in l service)) off

  -- a timer is needed where the link runs it
  pub needed-is : (l : Line) → HaveTheirTimers l → (timer : LinkTimer) → is_needed (timer_of service tei timer) l ≡ runs timer (link_of service tei l).running
  needed-is l h timer = grind (arith, off-fresh)

-- The link of a TEI that comes to the line is a fresh one.
pub comes : (c : Config) (e : Event) (l : Line) → IsSound c l → (service : Service) (tei : ℕ) → place_in l tei ≡ None → link_of service tei (after c e l) ≡ fresh
comes c e l s service tei off = go (event-goes c e l service tei s)
  where
    go : Goes c service tei e l (after c e l) (answer c e l) → link_of service tei (after c e l) ≡ fresh
    go o = grind (arith, none-some, off-fresh)

-- the caller's timers that ran, by the event of the link
module _ (c : Config) (ranged : IsInRange c) (l : Line) (s : IsSound c l) (timed : HaveTheirTimers l) (service : Service) (tei : ℕ) (k : Known)
    (agrees : IsTrueOf service tei k l) (e : Event) where
  abbrev a : Answer
  a = answer c e l

  abbrev t : Terms
  t = terms c service tei

  abbrev own : Link
  own = link_of service tei l

  abbrev new : Link
  new = link_of service tei (after c e l)

  pub own-timed : (place : ℕ) → place_in l tei ≡ Some place → HasItsTimer own
  own-timed place is = subst HasItsTimer (sym (ap (λ o. option_map_or (link_in l service) o fresh) is)) (timed.links (link_number place service))

  -- What is learned, by the states of the link.
  abbrev learns_in : State → State → Known
  learns_in from to =
      let i = is_state 7 (told_state to) in
      let r = is_state 8 (told_state from) && i in
      cond (i || is_state 8 (told_state to)) (option_map_or (sends k) (sent_at c service tei k e l) (option_map_or (listens r i k) (control_in service tei (frame_by c e)) k)) nothing_yet

  abbrev learned_so : Option ℕ → Option ℕ → Known
  learned_so from to = learned c service tei from to k (seen e a)

  abbrev now_known : Known
  now_known = learned_so (state_of service tei l) (state_of service tei (after c e l))

  -- a link that begins, or whose TEI is not on the line
  off-known : place_in (after c e l) tei ≡ None → IsTrueOf service tei now_known (after c e l)
  off-known off = grind (arith, off-fresh, off-state)

  fresh-known : (place : ℕ) → place_in (after c e l) tei ≡ Some place → new ≡ fresh → IsTrueOf service tei now_known (after c e l)
  fresh-known place on is = grind (arith, state-on, told_state)

  -- What is heard or begins is none of the link's.
  module _ (x : HasNone c service tei e l (after c e l) a) where
    pub no-control : (place : ℕ) → place_in l tei ≡ Some place → control_in service tei (frame_by c e) ≡ None
    no-control place on = go (frame_by c e) refl
      where
        by-whom : (f : Parts) → frame_by c e ≡ Some f → (b : Bool) → is_for service tei f.address ≡ b → cond b (Some f.control) None ≡ None
        by-whom f is false for = refl
        by-whom f is true for = absurd (true≢false (sym (event-aims c l service tei place on e f is for) ∙ x.aims))

        go : (o : Option Parts) → frame_by c e ≡ o → control_in service tei o ≡ None
        go None is = refl
        go (Some f) is = by-whom f is (is_for service tei f.address) refl

    none-goes : (e : Event) → All (IsForeign c service tei) (frame_in (answer c e l)) → sent_at c service tei k e l ≡ None
    unfolding answer
    none-goes next h = go (option_map next_of (taken c l)) h
      where
        go : (o : Option NextFrame) → All (IsForeign c service tei) (frame_in (gave o)) → sent_with c service tei o ≡ None
        go None h = refl
        go (Some f) h = foreign c service tei f.octets (All-head (IsForeign c service tei) f.octets [] h)
    none-goes other h = refl

    stays-known : (place : ℕ) → place_in l tei ≡ Some place → (after_place : ℕ) → place_in (after c e l) tei ≡ Some after_place → new ≡ own
        → IsTrueOf service tei now_known (after c e l)
    stays-known place on after_place there same = grind (arith, state-on, told_state, is_state, nothing_yet, seen-learns, sends, listens, control_in, frame_by, none-goes, no-control, Agrees)

    none-known : IsTrueOf service tei now_known (after c e l)
    none-known = go (place_in l tei) refl (place_in (after c e l) tei) refl x.is
      where
        go : (o : Option ℕ) → place_in l tei ≡ o → (p : Option ℕ) → place_in (after c e l) tei ≡ p → (new ≡ own) ⊎ (new ≡ fresh)
            → IsTrueOf service tei now_known (after c e l)
        go o is None off either = off-known off
        go o is (Some there) on (inr new) = fresh-known there on new
        go None is (Some there) on (inl same) = fresh-known there on (same ∙ off-fresh service tei l is)
        go (Some place) is (Some there) on (inl same) = stays-known place is there on same

  -- One event of the link.
  pub record IsOther (event : link.Event) : Type 0 where
    pub no_offer : event ≡ link.offer → ⊥
    pub no_cleared : event ≡ link.cleared → ⊥
    pub control : control_in service tei (frame_by c e) ≡ control_of event
    pub sent : sent_at c service tei k e l ≡ None
    pub left : (timer : LinkTimer) → left_by e (timer_of service tei timer) (runs timer own.running) ≡ ran_before event own.running timer

  other : (event : link.Event) → (event ≡ link.offer → ⊥) → IsBy c e a service tei event → IsOther event
  other (link.received (link.frame f)) not_offer by =
      let x = brings-frame c e a service tei f by in grind (arith, control_in, sent_at)
  other event not_offer by = grind (arith, heard-by, brings-none, control_in, frame_by, sent_at, its-own)

  module _ (x : HasOne c service tei e l (after c e l) a) where
    pub sound : link_sound.IsSound t own
    sound = link-at-end c l ranged s service tei x.place x.placed

    pub range : link_sound.IsInRange t
    range = terms_in_range c ranged service tei (s.management.table.range x.place tei (place_of-is l.management.places tei x.place x.placed).1)

    abbrev later : Link
    later = link_after t x.event own

    -- what is learned, where the TEI stays
    known-so : (there : ℕ) → place_in (after c e l) tei ≡ Some there → now_known ≡ learns_in own.state later.state
    known-so there on = grind (arith, state-on, told_state, is_state, nothing_yet, seen-learns)

    by-good : IsOther x.event → (there : ℕ) → place_in (after c e l) tei ≡ Some there → IsTrueOf service tei now_known (after c e l)
    by-good h there on = grind (arith, event-good, sound, range, own-timed, heard_by, control_of, known-so, is_state, told_state, sends, listens, control_in, frame_by, nothing_yet)

    -- an offer
    sent-is : e ≡ next → x.event ≡ link.offer → sent_at c service tei k e l ≡ option_map_or given_sent (given t own) None
    unfolding answer
    sent-is is offered =
        ap (λ e. sent_at c service tei k e l) is
        ∙ go (given t own) refl (ap (λ e. frame_in (answer c e l)) (sym is) ∙ x.begins ∙ ap (λ event. frames_given c t event own) offered)
      where
        o : Option NextFrame
        o = option_map next_of (taken c l)

        go : (g : Option Given) → given t own ≡ g → frame_in (gave o) ≡ map (frame_of c t) (option_to_list (given t own))
            → sent_with c service tei o ≡ option_map_or given_sent (given t own) None
        go None is same = (grind arith) ∙ sym (ap (λ o. option_map_or given_sent o None) is)
        go (Some g) is same = grind (arith, sent_of, own-sent, range, sound, given_sent)

    pub offers : Offered k own (timing (course t link.offer own)) (option_map_or given_sent (given t own) None)
    offers = offer-good t k own sound agrees

    by-offer : e ≡ next → x.event ≡ link.offer → (there : ℕ) → place_in (after c e l) tei ≡ Some there → IsTrueOf service tei now_known (after c e l)
    by-offer is offered there on = grind (arith, link.offer, given_sent, given, is_state, told_state, known-so, sends, listens, control_in, frame_by, nothing_yet, sent-is, Agrees, offers)

    -- which of both it is
    pub either : {X : Type 0} → (IsOther x.event → X) → (e ≡ next → x.event ≡ link.offer → X) → X
    either {X = X} one two = grind (arith, other)

    one-known : IsTrueOf service tei now_known (after c e l)
    one-known = go (place_in (after c e l) tei) refl
      where
        go : (o : Option ℕ) → place_in (after c e l) tei ≡ o → IsTrueOf service tei now_known (after c e l)
        go None off = off-known off
        go (Some there) on = either (λ o. by-good o there on) (λ is offered. by-offer is offered there on)

  pub event-known : IsTrueOf service tei now_known (after c e l)
  event-known = grind (arith, none-known, one-known, off-known, fresh-known, event-goes)
