-- Whether I-frames are outstanding, as an observer knows it: one event of a line.
use Rattle.laws_trace.proofs.Vocabulary.{◌≡◌, ℕ, ◌==◌, not, Bool, true, false, cond, IsTrue, ◌⊎◌, inl, inr, Option, Some, None, refl, sym, ap, ◌∙◌, subst, arith, eq-eqb, true≢false, option_map_or, state_number, moves, requested, LinkEvent, fresh_link as fresh, LinkRequest as Request, Terms, Service, place_of-is, State, Link, Config, Line, link_of, place_in, state_of, terms, IsInRange}
use Rattle.laws_trace.proofs.Vocabulary.{terms_in_range, HaveTheirTimers, Event, line_after as after, answer, IsSound, offer, begun, link_after, course, eqb-true}
use Rattle.laws_trace.proofs.TimersWatched.{Known}
use Rattle.model_link.specs.Sound as link_sound
use Rattle.laws_trace.proofs.LinksMove.{differs}
use Rattle.laws_trace.proofs.NewsOfLink.{wish_at}
use Rattle.laws_trace.proofs.NewsSeen.{none-wish, one-wish}
use Rattle.laws_trace.proofs.NewsWatched.{none_left, wish_of}
use Rattle.laws_trace.proofs.States.{is_state, differ}
use Rattle.laws_trace.proofs.OneLink.{HasNone, HasOne, Goes, event-goes}
use Rattle.laws_trace.proofs.TimerActs.{Timing, timing}
use Rattle.laws_trace.proofs.TimerClaims.{Agrees, Kept, told_state}
use Rattle.laws_trace.proofs.TimerEvents.{is_request, event-whole}
use Rattle.laws_trace.proofs.TimersOfEvent.{IsTrueOf, state-on, off-fresh, off-state}
use Rattle.laws_trace.proofs.TimersOfEvent as events
use Rattle.laws_trace.proofs.LineAtEnd.{link-at-end}

abbrev pub IsOwed : Service → ℕ → Bool → Line → Type 0
IsOwed service tei outstanding l = let x = link_of service tei l in outstanding ≡ not (x.s == x.a)

-- What is known says it, except in state 5.
module _ (c : Config) (ranged : IsInRange c) (l : Line) (s : IsSound c l) (service : Service) (tei : ℕ) (k : Known) (agrees : IsTrueOf service tei k l) where
  abbrev own : Link
  own = link_of service tei l

  pub known-owes : is_state 5 (state_of service tei l) ≡ false → IsOwed service tei (not (k.next == k.acknowledged)) l
  known-owes off = go (place_in l tei) refl
    where
      go : (o : Option ℕ) → place_in l tei ≡ o → not (k.next == k.acknowledged) ≡ not (own.s == own.a)
      go None gone = grind (arith, off-fresh, eq-eqb, Agrees)
      go (Some place) on =
          grind (arith, eq-eqb, eqb-true, state-on, terms_in_range, place_of-is, link-at-end c l ranged s service tei place on)

-- A request of a link: what layer 3 decides in state 5 gives up what is kept.
asked-owes : (t : Terms) (l : Link) → link_sound.IsSound t l → (r : Request) (full : Bool) → let y = link_after t (requested r full) l in (state_number y.state == 5) ≡ true
    → not (y.s == y.a) ≡ cond (moves l.state y.state) (not (l.s == l.a)) (option_map_or none_left (wish_at t (requested r full)) (not (l.s == l.a)))
asked-owes t l sound r full in_5 = grind (arith, eq-eqb, refused-owes)
  where
    refused-owes : IsTrue l.owed → l.s ≡ l.a
    refused-owes is = omega (arith, (sound.owed is).queue, sound.ordered, sound.accepted)

-- In state 5 nothing else changes.
module _ (c : Config) (ranged : IsInRange c) (l : Line) (s : IsSound c l) (timed : HaveTheirTimers l) (service : Service) (tei : ℕ) (k : Known) (agrees : IsTrueOf service tei k l) (e : Event) where
  abbrev next : Link
  next = link_of service tei (after c e l)

  abbrev was : Link
  was = link_of service tei l

  abbrev Same : Link → Type 0
  Same y = not (y.s == y.a) ≡ not (was.s == was.a)

  by-kept : (y : Link) → is_state 5 (told_state y.state) ≡ true → Kept y.state (timing (begun was)) (record (timing (begun was)) { a = y.a; s = y.s }) → Same y
  by-kept y in_5 kept = grind (arith, is_state, told_state, Kept, timing)

  shape : (here : State) (y : Timing) → Kept here (timing (begun was)) y → Kept here (timing (begun was)) (record (timing (begun was)) { a = y.a; s = y.s })
  shape here y kept = grind arith

  abbrev wish : Option Bool
  wish = wish_of c service tei e (answer c e l)

  abbrev still : Bool → Bool
  still outstanding = cond (differ (state_of service tei l) (state_of service tei (after c e l))) outstanding (option_map_or none_left wish outstanding)

  unchanged : (b outstanding : Bool) → wish ≡ None → cond b outstanding (option_map_or none_left wish outstanding) ≡ outstanding
  unchanged b outstanding none = ap (λ o. cond b outstanding (option_map_or none_left o outstanding)) none ∙ (grind arith)

  pub five-owes : (outstanding : Bool) → IsOwed service tei outstanding l → is_state 5 (state_of service tei (after c e l)) ≡ true
      → IsOwed service tei (still outstanding) (after c e l)
  five-owes outstanding owes in_5 = go (place_in (after c e l) tei) refl
    where
      go : (o : Option ℕ) → place_in (after c e l) tei ≡ o → still outstanding ≡ not (next.s == next.a)
      go None off = absurd (true≢false (sym in_5 ∙ ap (is_state 5) (off-state service tei (after c e l) off)))
      go (Some there) on = ap still owes ∙ sym (by-goes (event-goes c e l service tei s))
        where
          now : is_state 5 (told_state next.state) ≡ true
          now = sym (ap (is_state 5) (state-on service tei (after c e l) there on)) ∙ in_5

          owed_now : Bool
          owed_now = not (was.s == was.a)

          Then : Link → Type 0
          Then y = not (y.s == y.a) ≡ still owed_now

          -- no request
          by-other : (x : HasOne c service tei e l (after c e l) (answer c e l)) → is_request x.event ≡ false → Same next
          by-other x other =
              let t = terms c service tei in
              let y = link_after t x.event was in
              let then : is_state 5 (told_state y.state) ≡ true = sym (ap (λ (y : Link). is_state 5 (told_state y.state)) x.is) ∙ now in
              subst Same (sym x.is)
              (events.either c ranged l s timed service tei k agrees e x
              (λ o.
              by-kept y then (shape y.state (timing (course t x.event was))
              (event-whole t k was (events.sound c ranged l s timed service tei k agrees e x) (events.range c ranged l s timed service tei k agrees e x).k_high
              (events.own-timed c ranged l s timed service tei k agrees e x.place x.placed) agrees x.event o.no_offer o.no_cleared other).kept))
              (λ is offered.
              subst (λ event. Same (link_after t event was)) (sym offered)
              (by-kept (link_after t offer was) (ap (λ event. is_state 5 (told_state (link_after t event was).state)) (sym offered) ∙ then)
              (shape (link_after t offer was).state (timing (course t offer was)) (events.offers c ranged l s timed service tei k agrees e x).kept))))

          moved : Bool
          moved = differ (state_of service tei l) (state_of service tei (after c e l))

          by-request : (x : HasOne c service tei e l (after c e l) (answer c e l)) (r : Request) (full : Bool) → x.event ≡ requested r full → Then next
          by-request x r full is =
              let t = terms c service tei in
              let y = link_after t (requested r full) was in
              let led : next ≡ y = x.is ∙ ap (λ event. link_after t event was) is in
              let then : (state_number y.state == 5) ≡ true = sym (ap (λ (y : Link). state_number y.state == 5) led) ∙ now in
              let differs-so : moved ≡ moves was.state y.state =
              ap (λ o. differ o (state_of service tei (after c e l))) (state-on service tei l x.place x.placed) ∙ ap (λ o. differ (told_state was.state) o) (state-on service tei (after c e l) there on)
              ∙ differs was.state next.state ∙ ap (λ (y : Link). moves was.state y.state) led in
              let wished : wish ≡ wish_at t (requested r full) = one-wish c service tei e (answer c e l) x.event x.by ∙ ap (wish_at t) is in
              subst Then (sym led)
              (asked-owes t was (events.sound c ranged l s timed service tei k agrees e x) r full then
              ∙ sym (ap (λ b. cond b owed_now (option_map_or none_left wish owed_now)) differs-so ∙ ap (λ o. cond (moves was.state y.state) owed_now (option_map_or none_left o owed_now)) wished))

          as-before : Same next → wish ≡ None → Then next
          as-before same none = same ∙ sym (unchanged moved owed_now none)

          by-one : HasOne c service tei e l (after c e l) (answer c e l) → Then next
          by-one x = go-on x.event refl
            where
              go-on : (event : LinkEvent) → x.event ≡ event → Then next
              go-on (requested r full) is = by-request x r full is
              go-on event is =
                  as-before (by-other x (ap is_request is ∙ (grind arith))) (one-wish c service tei e (answer c e l) x.event x.by ∙ ap (wish_at (terms c service tei)) is ∙ (grind arith))

          by-none : HasNone c service tei e l (after c e l) (answer c e l) → Then next
          by-none x = by-place (place_in l tei) refl x.is
            where
              no-five : next ≡ fresh → {X : Type 0} → X
              no-five new = absurd (true≢false (sym now ∙ ap (λ (y : Link). is_state 5 (told_state y.state)) new))

              by-place : (o : Option ℕ) → place_in l tei ≡ o → (next ≡ was) ⊎ (next ≡ fresh) → Then next
              by-place o off (inr new) = no-five new
              by-place None off (inl same) = no-five (same ∙ off-fresh service tei l off)
              by-place (Some place) at (inl same) = as-before (ap (λ (y : Link). not (y.s == y.a)) same) (none-wish c service tei l place at e x.aims)

          by-goes : Goes c service tei e l (after c e l) (answer c e l) → Then next
          by-goes (inl x) = by-none x
          by-goes (inr (inl x)) = by-one x
          by-goes (inr (inr x)) = absurd (true≢false (sym now ∙ ap (λ (y : Link). is_state 5 (told_state y.state)) x.is))
