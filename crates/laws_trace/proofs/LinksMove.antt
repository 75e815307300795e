-- Which state a link moves to: the law.
use Rattle.laws_trace.proofs.Vocabulary.{◌≡◌, ℕ, ◌+◌, ◌≤◌, ◌==◌, not, Bool, true, false, cond, get_or, set, Option, Some, None, refl, sym, ap, ◌∙◌, subst, arith, eq-eqb, true≢false, inl, inr, IfSome, option_map_or, and_parts, get_or-set_same, Service, State, Terms, Link, state_number, Config, Answer, Line, fresh_line, link_of, place_in, state_of, terms, IsInRange, Card, line_at, is_full}
use Rattle.laws_trace.proofs.Vocabulary.{has_lines, by_room, line_sound, AllHaveTheirTimers, IsBy, HaveTheirTimers, moves, link_after, eqb-true, IsSound, CardEvent as Event, after, card_answer as answer, IsAtLine, seen, LinkEvent, cleared}
use Rattle.model_line.specs.Event as line_event
use Rattle.model_line.specs.Machine as lines
use Rattle.model_card.specs.Sound as card_sound
use Rattle.laws_trace.proofs.MovesWatched.{by_expiry, first, repeated, led}
use Rattle.laws_trace.proofs.States.{expired_of, one_more, differ}
use Rattle.laws_trace.proofs.TimersWatched.{Known}
use Rattle.laws_trace.proofs.LinkLed.{on-line, none-led, none-ticks, one-led, one-ticks, one-timer, ended-leads}
use Rattle.laws_trace.proofs.MovesOfLink.{Counts, Owes, event-leads, event-counted, first_at}
use Rattle.laws_trace.proofs.OneLink.{HasOne, HasNone, Goes, event-goes}
use Rattle.laws_trace.proofs.Runs.{nothing-seen, apart}
use Rattle.laws_trace.proofs.TimerClaims.{told_state}
use Rattle.laws_trace.proofs.TimersOfEvent.{IsTrueOf, state-on, off-fresh, off-state, comes}
use Rattle.laws_trace.proofs.TimersOfEvent as events
use Rattle.laws_trace.proofs.Facts.{same-state}

-- Whether a release is owed is known in state 5.
abbrev pub IsOwingOf : Service → ℕ → Bool → Line → Type 0
IsOwingOf service tei owed l = let x = link_of service tei l in Owes x.state owed x.owed

-- What was counted of a link is its RC, in states 5, 6 and 8.
abbrev pub IsCountOf : Service → ℕ → ℕ → Line → Type 0
IsCountOf service tei n l = let x = link_of service tei l in Counts x.state n x.repeats

pub no-event : (event : LinkEvent) (c : Config) (e : line_event.Event) (a : Answer) (service : Service) (tei : ℕ) → IsBy c e a service tei event → event ≡ cleared → ⊥
no-event event c e a service tei by same = grind arith

no-more : (n m : ℕ) → m ≡ 0 → n + m ≡ n
no-more n m none = omega (arith, none)

pub same-way : (a b : ℕ) → (a == b) ≡ (b == a)
same-way a b = grind (arith, eq-eqb, eqb-true)

pub differs : (from to : State) → differ (told_state from) (told_state to) ≡ moves from to
differs from to = ap not (same-way (state_number to) (state_number from))

-- One event of a line.
module _ (c : Config) (ranged : IsInRange c) (l : Line) (s : IsSound c l) (timed : HaveTheirTimers l) (service : Service) (tei : ℕ) (k : Known)
    (agrees : IsTrueOf service tei k l) (n : ℕ) (counts : IsCountOf service tei n l) (e : line_event.Event) where
  abbrev a : Answer
  a = lines.answer c e l

  abbrev t : Terms
  t = terms c service tei

  abbrev own : Link
  own = link_of service tei l

  abbrev next : Link
  next = link_of service tei (lines.after c e l)

  abbrev counted : Option ℕ → Option ℕ → ℕ
  counted from to = cond (differ from to) (first c from (expired_of service tei e)) (n + option_map_or one_more (expired_of service tei e) 0)

  -- where the TEI is on the line before and after
  module _ (place there : ℕ) (on : place_in l tei ≡ Some place) (stays : place_in (lines.after c e l) tei ≡ Some there) where
    module _ (owed : Bool) (owes : IsOwingOf service tei owed l) where
      abbrev Leads : Type 0
      Leads = state_number next.state ≡ led c service tei k owed n e (seen e a) (state_number own.state)

      none-leads : HasNone c service tei e l (lines.after c e l) a → Leads
      none-leads x =
          ap (λ (y : Link). state_number y.state) (x.stays (on-line l tei place on) (on-line (lines.after c e l) tei there stays))
          ∙ sym (none-led c service tei k l place on owed n (state_number own.state) e x.aims)

      one-leads : HasOne c service tei e l (lines.after c e l) a → Leads
      one-leads x =
          let sound = events.sound c ranged l s timed service tei k agrees e x in
          let ordered : own.a ≤ own.s = sound.ordered in
          let small : t.k ≤ 127 = (events.range c ranged l s timed service tei k agrees e x).k_high in
          ap (λ (y : Link). state_number y.state) x.is
          ∙ event-leads t k own n ordered (omega (arith, small)) (events.own-timed c ranged l s timed service tei k agrees e x.place x.placed) agrees counts owed owes x.event
          (no-event x.event c e a service tei x.by) ∙ sym (one-led c service tei k a owed n (state_number own.state) e x.event x.by)

      leads : Leads
      leads = go (event-goes c e l service tei s)
        where
          go : Goes c service tei e l (lines.after c e l) a → Leads
          go (inl x) = none-leads x
          go (inr (inl x)) = one-leads x
          go (inr (inr x)) = ap (λ (y : Link). state_number y.state) x.is ∙ sym (ended-leads c service tei k a owed n (state_number own.state) e x.by)

    none-counted : HasNone c service tei e l (lines.after c e l) a → Counts next.state (counted (told_state own.state) (told_state next.state)) next.repeats
    none-counted x =
        subst (λ (y : Link). Counts y.state (counted (told_state own.state) (told_state y.state)) y.repeats) (sym (x.stays (on-line l tei place on) (on-line (lines.after c e l) tei there stays)))
        (subst (λ m. Counts own.state m own.repeats)
        (sym (ap (λ b. cond b (first c (told_state own.state) (expired_of service tei e)) (n + option_map_or one_more (expired_of service tei e) 0)) (differs own.state own.state ∙ same-state own.state)
        ∙ no-more n (option_map_or one_more (expired_of service tei e) 0) (ap (λ o. option_map_or one_more o 0) (none-ticks c service tei k l place on e x.aims)))) counts)

    one-counted : HasOne c service tei e l (lines.after c e l) a → Counts next.state (counted (told_state own.state) (told_state next.state)) next.repeats
    one-counted x =
        let y = link_after t x.event own in
        subst (λ (y : Link). Counts y.state (counted (told_state own.state) (told_state y.state)) y.repeats) (sym x.is)
        (subst (λ m. Counts y.state m y.repeats)
        (sym (ap (λ b. cond b (first c (told_state own.state) (expired_of service tei e)) (n + option_map_or one_more (expired_of service tei e) 0)) (differs own.state y.state)
        ∙ ap (λ o. cond (moves own.state y.state) (first c (told_state own.state) o) (n + option_map_or one_more (expired_of service tei e) 0)) (one-timer c service tei k a e x.event x.by)
        ∙ ap (λ k. cond (moves own.state y.state) (first_at t own.state x.event) (n + k)) (one-ticks c service tei k a e x.event x.by)))
        (event-counted t own n x.event (no-event x.event c e a service tei x.by) (events.own-timed c ranged l s timed service tei k agrees e x.place x.placed) counts))

    stays-counted : Counts next.state (counted (told_state own.state) (told_state next.state)) next.repeats
    stays-counted = grind (arith, event-goes, lines.after, told_state, none-counted, one-counted)

  pub event-counts : IsCountOf service tei (counted (state_of service tei l) (state_of service tei (lines.after c e l))) (lines.after c e l)
  event-counts = go (place_in l tei) refl (place_in (lines.after c e l) tei) refl
    where
      m : ℕ
      m = counted (state_of service tei l) (state_of service tei (lines.after c e l))

      go : (o : Option ℕ) → place_in l tei ≡ o → (p : Option ℕ) → place_in (lines.after c e l) tei ≡ p → Counts next.state m next.repeats
      go o on None off = (subst (λ (y : Link). Counts y.state m y.repeats) (sym (off-fresh service tei (lines.after c e l) off)) tt)
      go None off (Some there) stays = (subst (λ (y : Link). Counts y.state m y.repeats) (sym (comes c e l s service tei off)) tt)
      go (Some place) on (Some there) stays =
          subst (λ m. Counts next.state m next.repeats)
          (sym (ap (λ o. counted o (state_of service tei (lines.after c e l))) (state-on service tei l place on)
          ∙ ap (λ o. counted (told_state own.state) o) (state-on service tei (lines.after c e l) there stays)))
          (stays-counted place there on stays)

  module _ (owed : Bool) (owes : IsOwingOf service tei owed l) where
    abbrev Led : Option ℕ → Option ℕ → Type 0
    Led from to = IfSome to (λ state. state ≡ option_map_or (led c service tei k owed n e (seen e a)) from 4)

    pub event-led : Led (state_of service tei l) (state_of service tei (lines.after c e l))
    event-led = go (place_in l tei) refl (place_in (lines.after c e l) tei) refl
      where
        go : (o : Option ℕ) → place_in l tei ≡ o → (p : Option ℕ) → place_in (lines.after c e l) tei ≡ p → Led (state_of service tei l) (state_of service tei (lines.after c e l))
        go o on None off = subst (Led (state_of service tei l)) (sym (off-state service tei (lines.after c e l) off)) tt
        go None off (Some there) stays =
            subst (Led (state_of service tei l)) (sym (state-on service tei (lines.after c e l) there stays))
            (ap (λ (y : Link). state_number y.state) (comes c e l s service tei off) ∙ sym (ap (λ o. option_map_or (led c service tei k owed n e (seen e a)) o 4) (off-state service tei l off)))
        go (Some place) on (Some there) stays =
            subst (Led (state_of service tei l)) (sym (state-on service tei (lines.after c e l) there stays))
            (leads place there on stays owed owes ∙ sym (ap (λ o. option_map_or (led c service tei k owed n e (seen e a)) o 4) (state-on service tei l place on)))

-- A request that finds the pool full.
pub none-expires : (c : Config) (service : Service) (tei : ℕ) (e : line_event.Event) (l : Line) → lines.takes_slot c e l ≡ true → expired_of service tei e ≡ None
unfolding lines.takes_slot
none-expires c service tei e l takes = grind arith

pub differ-self : (o : Option ℕ) → differ o o ≡ false
differ-self o = grind (arith, eq-eqb)

module _ (service : Service) (tei number : ℕ) where
  -- One event of a card.
  module _ (card : Card) (s : card_sound.IsSound card) (timely : AllHaveTheirTimers card) (e : Event) (here : IsAtLine card e) (k : Known) (n : ℕ)
      (agrees : IsTrueOf service tei k (line_at e.line card)) (counts : IsCountOf service tei n (line_at e.line card)) where
    abbrev l : Line
    l = line_at e.line card

    abbrev its : Line
    its = lines.after card.config e.what l

    now : get_or (set card.lines e.line its) e.line (fresh_line card.config) ≡ its
    now = get_or-set_same card.lines e.line its (fresh_line card.config) (omega (arith, s.count, here))

    abbrev counts_then : Option ℕ → ℕ
    counts_then to = cond (differ (state_of service tei l) to) (first card.config (state_of service tei l) (expired_of service tei e.what)) (n + option_map_or one_more (expired_of service tei e.what) 0)

    still : lines.takes_slot card.config e.what l ≡ true → counts_then (state_of service tei l) ≡ n
    still takes = grind (arith, one_more, expired_of, differ-self, no-more, none-expires)

    pub own-counted : IsCountOf service tei (counts_then (state_of service tei (line_at e.line (after e card)))) (line_at e.line (after e card))
    own-counted =
        by_room (λ ls b. let x = get_or ls e.line (fresh_line card.config) in IsCountOf service tei (counts_then (state_of service tei x)) x) e card
        (λ full. subst (λ m. IsCountOf service tei m l) (sym (still (and_parts (lines.takes_slot card.config e.what l) (is_full card) full).0)) counts)
        (λ room.
        subst (λ x. IsCountOf service tei (counts_then (state_of service tei x)) x) (sym now)
        (event-counts card.config s.config l (line_sound card e.line (has_lines card s) here) (timely.lines e.line here) service tei k agrees n counts e.what))

    abbrev IsLed : Bool → Line → Answer → Type 0
    IsLed owed x b =
        IfSome (state_of service tei x)
        (λ state. state ≡ option_map_or (led card.config service tei k owed n e.what (seen e.what b)) (state_of service tei l) 4)

    pub own-led : (owed : Bool) → IsOwingOf service tei owed (line_at e.line card) → IsLed owed (line_at e.line (after e card)) (answer e card)
    own-led owed owes =
        by_room (λ ls b. IsLed owed (get_or ls e.line (fresh_line card.config)) b) e card
        (λ full.
        let takes = (and_parts (lines.takes_slot card.config e.what l) (is_full card) full).0 in
        grind (arith, led, by_expiry, none-expires, nothing-seen))
        (λ room.
        subst (λ x. IsLed owed x (lines.answer card.config e.what l)) (sym now)
        (event-led card.config s.config l (line_sound card e.line (has_lines card s) here) (timely.lines e.line here) service tei k agrees n counts e.what owed owes))

  -- Over a run, beside what is known.
  pub moment-counted : (card : Card) → card_sound.IsSound card → AllHaveTheirTimers card → (e : Event) → IsAtLine card e → (k : Known) (n : ℕ)
      → IsTrueOf service tei k (line_at number card) → IsCountOf service tei n (line_at number card)
      → IsCountOf service tei (repeated service tei number n (record { card = card; event = e; answer = answer e card })) (line_at number (after e card))
  moment-counted card s timely e here k n agrees counts = go (e.line == number) refl
    where
      go : (b : Bool) → (e.line == number) ≡ b
          → IsCountOf service tei (cond (not b) n (cond (differ (state_of service tei (line_at number card)) (state_of service tei (line_at number (after e card)))) (first card.config (state_of service tei (line_at number card)) (expired_of service tei e.what)) (n + option_map_or one_more (expired_of service tei e.what) 0))) (line_at number (after e card))
      go true is = grind (arith, eqb-true, differ, one_more, expired_of, own-counted)
      go false other =
          subst (IsCountOf service tei n) (sym (apart card e number (λ same. true≢false (sym (eq-eqb e.line number (sym same)) ∙ other)))) counts
