-- What layer 3 is told of establishments and releases: the law.
use Rattle.laws_trace.proofs.Vocabulary.{◌≡◌, ℕ, ◌<◌, ◌==◌, not, Bool, true, false, cond, List, [], ◌∷◌, get_or, set, Option, Some, None, refl, sym, ap, ◌∙◌, subst, arith, eq-eqb, true≢false, fold, filter, list_any, option_map_or, and_parts, get_or-set_same, get_or-replicate, All-head, All-tail, PoolFull, Service, Link, Config, Answer, refused, Line, fresh_line, link_of, link_in, state_of}
use Rattle.laws_trace.proofs.Vocabulary.{IsInRange, Card, line_at, is_full, at, moments, fresh_is_sound, after_is_sound, has_lines, by_room, line_sound, AllHaveTheirTimers, timely-after, begins-timely-card, notes_of, nowhere, eqb-true, unwrap_or, fresh_link, fresh, CardEvent as Event, after, card_answer as answer, Moment, after_all, IsAtLine, AreAtLines, is_news, is_sabme, is_xid}
use Rattle.laws_trace.proofs.Vocabulary.{releases, wrong}
use Rattle.laws_trace.proofs.Vocabulary.{moment_of, seen, Always, CardIsSound as IsSound, and-false}
use Rattle.model_line.specs.Event as line_event
use Rattle.model_line.specs.Machine as lines
use Rattle.laws_trace.proofs.NewsWatched.{Wanted, none_left, none_wanted, asked, then_wanted, wish_of, Owing, none_owed, owing, due, NewsIsTold}
use Rattle.laws_trace.proofs.TimersWatched.{brings, Known, watch}
use Rattle.laws_trace.proofs.States.{is_state, differ}
use Rattle.laws_trace.proofs.LinksMove.{differ-self}
use Rattle.laws_trace.proofs.NewsOfLink.{Asks}
use Rattle.laws_trace.proofs.OwedOfEvent.{IsOwed, known-owes, five-owes}
use Rattle.laws_trace.proofs.TimersAreTimely.{moment-known, begins-true, sound-now, timely-now, config-now, front-at, itself}
use Rattle.laws_trace.proofs.TimersOfEvent.{IsTrueOf}
use Rattle.laws_trace.proofs.NewsOfEvent.{IsAskedOf, event-asks, event-due, off-due}
use Rattle.laws_trace.proofs.Runs.{apart}

module _ (service : Service) (tei number : ℕ) where
  -- One event of a card.
  module _ (card : Card) (s : IsSound card) (e : Event) (here : IsAtLine card e) (was : Wanted) (asks : IsAskedOf service tei was (line_at e.line card))
      (outstanding : Bool) (owes : IsOwed service tei outstanding (line_at e.line card)) where
    abbrev l : Line
    l = line_at e.line card

    abbrev its : Line
    its = lines.after card.config e.what l

    now : get_or (set card.lines e.line its) e.line (fresh_line card.config) ≡ its
    now = get_or-set_same card.lines e.line its (fresh_line card.config) (omega (arith, s.count, here))

    abbrev asked_then : Answer → Option ℕ → Wanted
    asked_then a to = then_wanted (state_of service tei l) to (wish_of card.config service tei e.what a) was

    refused-asks : (what : line_event.Event) → lines.takes_slot card.config what l ≡ true
        → then_wanted (state_of service tei l) (state_of service tei l) (wish_of card.config service tei what (refused PoolFull)) was ≡ was
    unfolding lines.takes_slot
    refused-asks what takes = grind (arith, is_state, differ-self, and-false)

    pub own-asked : IsAskedOf service tei (asked_then (answer e card) (state_of service tei (line_at e.line (after e card)))) (line_at e.line (after e card))
    own-asked =
        by_room (λ ls b. let x = get_or ls e.line (fresh_line card.config) in IsAskedOf service tei (asked_then b (state_of service tei x)) x) e card
        (λ full. subst (λ b. IsAskedOf service tei b l) (sym (refused-asks e.what (and_parts (lines.takes_slot card.config e.what l) (is_full card) full).0)) asks)
        (λ room.
        subst (λ x. IsAskedOf service tei (asked_then (lines.answer card.config e.what l) (state_of service tei x)) x) (sym now)
        (event-asks card.config s.config l (line_sound card e.line (has_lines card s) here) service tei was asks outstanding owes e.what))

    abbrev IsDue : Line → Answer → Type 0
    IsDue x b =
        (from : ℕ) → state_of service tei l ≡ Some from →
        filter (is_news service tei) (notes_of b)
        ≡ due service tei (wrong card.config service tei e.what from (unwrap_or (state_of service tei x) 1)) was
        (list_any (brings is_xid card.config service tei) (seen e.what b)) (list_any (brings is_sabme card.config service tei) (seen e.what b)) (releases service tei e.what b) outstanding from (unwrap_or (state_of service tei x) 4)

    refused-due : (what : line_event.Event) → lines.takes_slot card.config what l ≡ true → (from to seen_to : ℕ) → from ≡ to
        → [] ≡ due service tei (wrong card.config service tei what from seen_to) was (list_any (brings is_xid card.config service tei) (seen what (refused PoolFull))) (list_any (brings is_sabme card.config service tei) (seen what (refused PoolFull))) (releases service tei what (refused PoolFull)) outstanding from to
    unfolding lines.takes_slot
    refused-due what takes from to seen_to same = grind (arith, due, eqb-true)

    pub own-due : IsDue (line_at e.line (after e card)) (answer e card)
    own-due =
        by_room (λ ls b. IsDue (get_or ls e.line (fresh_line card.config)) b) e card
        (λ full from was-in.
        refused-due e.what (and_parts (lines.takes_slot card.config e.what l) (is_full card) full).0 from (unwrap_or (state_of service tei l) 4) (unwrap_or (state_of service tei l) 1)
        (sym (ap (λ o. unwrap_or o 4) was-in)))
        (λ room.
        subst (λ x. IsDue x (lines.answer card.config e.what l)) (sym now)
        (event-due card.config s.config l (line_sound card e.line (has_lines card s) here) service tei was asks outstanding owes e.what))

    pub own-silent : state_of service tei l ≡ None → filter (is_news service tei) (notes_of (answer e card)) ≡ []
    own-silent none =
        by_room (λ ls b. filter (is_news service tei) (notes_of b) ≡ []) e card (λ full. refl)
        (λ room. off-due card.config s.config l (line_sound card e.line (has_lines card s) here) service tei was asks outstanding owes e.what none)

  -- Over a run.
  abbrev StandsOwing : Wanted → Owing → Line → Type 0
  StandsOwing was w l = IsAskedOf service tei was l × IsTrueOf service tei w.known l × IsOwed service tei w.outstanding l

  module _ (card : Card) (s : IsSound card) (timely : AllHaveTheirTimers card) (e : Event) (here : IsAtLine card e) where
    abbrev m : Moment
    m = record { card = card; event = e; answer = answer e card }

    abbrev later : Line
    later = line_at number (after e card)

    pub moment-asked : (was : Wanted) → IsAskedOf service tei was (line_at number card) → (outstanding : Bool) → IsOwed service tei outstanding (line_at number card)
        → IsAskedOf service tei (asked service tei number was m) later
    moment-asked was asks outstanding owes = go (e.line == number) refl
      where
        go : (b : Bool) → (e.line == number) ≡ b
            → IsAskedOf service tei (cond b (then_wanted (state_of service tei (line_at number card)) (state_of service tei later) (wish_of card.config service tei e.what (answer e card)) was) was) later
        go true is = grind (arith, eqb-true, IsAskedOf, is_state, differ, own-asked, IsOwed)
        go false other = subst (IsAskedOf service tei was) (sym (apart card e number (λ same. true≢false (sym (eq-eqb e.line number (sym same)) ∙ other)))) asks

    -- in state 5 what is outstanding stays
    abbrev still : Answer → Option ℕ → Option ℕ → Bool → Bool
    still a from to outstanding = cond (differ from to) outstanding (option_map_or none_left (wish_of card.config service tei e.what a) outstanding)

    refused-still : (what : line_event.Event) (x : Line) → lines.takes_slot card.config what x ≡ true → (b outstanding : Bool)
        → cond b outstanding (option_map_or none_left (wish_of card.config service tei what (refused PoolFull)) outstanding) ≡ outstanding
    unfolding lines.takes_slot
    refused-still what x takes b outstanding = grind arith

    own-owes : (k : Known) → IsTrueOf service tei k (line_at e.line card) → (outstanding : Bool) → IsOwed service tei outstanding (line_at e.line card)
        → is_state 5 (state_of service tei (line_at e.line (after e card))) ≡ true
        → IsOwed service tei (still (answer e card) (state_of service tei (line_at e.line card)) (state_of service tei (line_at e.line (after e card))) outstanding) (line_at e.line (after e card))
    own-owes k agrees outstanding owes =
        by_room (λ ls b. let x = get_or ls e.line (fresh_line card.config) in is_state 5 (state_of service tei x) ≡ true
        → IsOwed service tei (still b (state_of service tei (line_at e.line card)) (state_of service tei x) outstanding) x) e card
        (λ full in_5. let x = line_at e.line card in
        refused-still e.what x (and_parts (lines.takes_slot card.config e.what x) (is_full card) full).0 (differ (state_of service tei x) (state_of service tei x)) outstanding ∙ owes)
        (λ room.
        subst (λ x. is_state 5 (state_of service tei x) ≡ true
        → IsOwed service tei (still (lines.answer card.config e.what (line_at e.line card)) (state_of service tei (line_at e.line card)) (state_of service tei x) outstanding) x)
        (sym (get_or-set_same card.lines e.line (lines.after card.config e.what (line_at e.line card)) (fresh_line card.config) (omega (arith, s.count, here))))
        (five-owes card.config s.config (line_at e.line card) (line_sound card e.line (has_lines card s) here) (timely.lines e.line here) service tei k agrees e.what outstanding owes))

    abbrev its-still : Bool → ℕ → Bool → Bool
    its-still b n outstanding = cond (differ (state_of service tei (line_at n card)) (state_of service tei (line_at n (after e card)))) outstanding
        (option_map_or none_left (cond b (wish_of card.config service tei e.what (answer e card)) None) outstanding)

    no-wish : (b outstanding : Bool) → cond b outstanding (option_map_or none_left None outstanding) ≡ outstanding
    no-wish b outstanding = grind arith

    five-stays : (k : Known) → IsTrueOf service tei k (line_at number card) → (outstanding : Bool) → IsOwed service tei outstanding (line_at number card)
        → is_state 5 (state_of service tei later) ≡ true → IsOwed service tei (its-still (e.line == number) number outstanding) later
    five-stays k agrees outstanding owes = go (e.line == number) refl
      where
        go : (b : Bool) → (e.line == number) ≡ b → is_state 5 (state_of service tei later) ≡ true → IsOwed service tei (its-still b number outstanding) later
        go true is =
            let same = eqb-true e.line number is in
            subst (λ n. is_state 5 (state_of service tei (line_at n (after e card))) ≡ true → IsOwed service tei (its-still true n outstanding) (line_at n (after e card))) same
            (own-owes k (subst (λ n. IsTrueOf service tei k (line_at n card)) (sym same) agrees) outstanding (subst (λ n. IsOwed service tei outstanding (line_at n card)) (sym same) owes))
        go false other = λ in_5. no-wish (differ (state_of service tei (line_at number card)) (state_of service tei later)) outstanding ∙ subst (IsOwed service tei outstanding) (sym (apart card e number (λ same. true≢false (sym (eq-eqb e.line number (sym same)) ∙ other)))) owes

    moment-stands : number < card.config.lines → (was : Wanted) (w : Owing) → StandsOwing was w (line_at number card) → StandsOwing (asked service tei number was m) (owing card.config service tei number w m) later
    moment-stands within was w h = (moment-asked was h.0 w.outstanding h.2, known, go (is_state 5 (state_of service tei later)) refl)
      where
        new : Known
        new = watch card.config service tei number w.known m

        known : IsTrueOf service tei new later
        known = moment-known service tei number card s timely e here w.known h.1

        sound-later : IsSound (after e card)
        sound-later = after_is_sound card e s here

        go : (b : Bool) → is_state 5 (state_of service tei later) ≡ b → IsOwed service tei (cond b (its-still (e.line == number) number w.outstanding) (not (new.next == new.acknowledged))) later
        go true in_5 = five-stays w.known h.1 w.outstanding h.2 in_5
        go false off = known-owes card.config s.config later (line_sound (after e card) number (has_lines (after e card) sound-later) within) service tei new known off

  run-stands : (card : Card) (events : List Event) → IsSound card → AllHaveTheirTimers card → AreAtLines card events → number < card.config.lines → (was : Wanted) (w : Owing)
      → StandsOwing was w (line_at number card)
      → StandsOwing (fold (asked service tei number) was (moments card events)) (fold (owing card.config service tei number) w (moments card events)) (line_at number (after_all card events))
  unfolding moments after_all
  run-stands card [] s timely all within was w h = h
  run-stands card (e ∷ events) s timely all within was w h =
      let here = All-head (IsAtLine card) e events all in
      let m : Moment = record { card = card; event = e; answer = answer e card } in
      run-stands (after e card) events (after_is_sound card e s here) (timely-after card e s timely here) (All-tail (IsAtLine card) e events all) within
      (asked service tei number was m) (owing card.config service tei number w m) (moment-stands card s timely e here within was w h)

-- From a fresh card on.
module _ (c : Config) (events : List Event) (number : ℕ) (ranged : IsInRange c) (all : AreAtLines (fresh c) events) (within : number < c.lines) (service : Service) (tei : ℕ) where
  abbrev was_asked : Wanted
  was_asked = fold (asked service tei number) none_wanted (moments (fresh c) events)

  abbrev owes_now : Owing
  owes_now = fold (owing c service tei number) none_owed (moments (fresh c) events)

  stands-now : StandsOwing service tei number was_asked owes_now (line_at number (after_all (fresh c) events))
  stands-now =
      let start : line_at number (fresh c) ≡ fresh_line c = get_or-replicate c.lines number (fresh_line c) (fresh_line c) within in
      let off : link_of service tei (line_at number (fresh c)) ≡ fresh_link =
      ap (link_of service tei) start ∙ ap (λ o. option_map_or (link_in (fresh_line c) service) o fresh_link) (nowhere c tei) in
      let begun : StandsOwing service tei number none_wanted none_owed (line_at number (fresh c)) =
      (subst (λ (y : Link). Asks y.state none_wanted y.asked y.owed) (sym off) tt, begins-true c events number ranged all within service tei, sym (ap (λ (y : Link). not (y.s == y.a)) off)) in
      run-stands service tei number (fresh c) events (fresh_is_sound c ranged) (begins-timely-card c) all within none_wanted none_owed begun

  pub asked-now : IsAskedOf service tei was_asked (line_at number (after_all (fresh c) events))
  asked-now = stands-now.0

  -- and behind an event more
  pub asked-behind : (what : line_event.Event)
      → IsAskedOf service tei (asked service tei number was_asked (moment_of c events number what)) (line_at number (after (at number what) (after_all (fresh c) events)))
  asked-behind what =
      let card = after_all (fresh c) events in
      let here : number < card.config.lines = subst (λ (d : Config). number < d.lines) (sym (config-now c events number ranged all within service tei)) within in
      moment-asked service tei number card (sound-now c events number ranged all within service tei) (timely-now c events number ranged all within service tei) (at number what) here
      was_asked stands-now.0 owes_now.outstanding stands-now.2

pub news-is-told : Always NewsIsTold
news-is-told c events number ranged all within service tei before what behind is from was_in =
    let front = front-at (fresh c) before (at number what) behind (subst (AreAtLines (fresh c)) is all) in
    let card = after_all (fresh c) before in
    let e = at number what in
    let was = fold (asked service tei number) none_wanted (moments (fresh c) before) in
    let w = fold (owing c service tei number) none_owed (moments (fresh c) before) in
    let kept = config-now c before number ranged front within service tei in
    let here : number < card.config.lines = subst (λ (c : Config). number < c.lines) (sym kept) within in
    let h = stands-now c before number ranged front within service tei in
    subst (λ b. filter (is_news service tei) (notes_of (answer e card))
    ≡ due service tei (wrong c service tei what from (unwrap_or (state_of service tei (line_at number (after e card))) 1)) was (list_any (brings is_xid c service tei) (cond b (seen what (answer e card)) []))
    (list_any (brings is_sabme c service tei) (cond b (seen what (answer e card)) [])) (releases service tei what (answer e card)) w.outstanding from (unwrap_or (state_of service tei (line_at number (after e card))) 4))
    (sym (itself number))
    (subst (λ (d : Config). filter (is_news service tei) (notes_of (answer e card))
    ≡ due service tei (wrong d service tei what from (unwrap_or (state_of service tei (line_at number (after e card))) 1)) was (list_any (brings is_xid d service tei) (seen what (answer e card)))
    (list_any (brings is_sabme d service tei) (seen what (answer e card))) (releases service tei what (answer e card)) w.outstanding from (unwrap_or (state_of service tei (line_at number (after e card))) 4)) kept
    (own-due service tei number card (sound-now c before number ranged front within service tei) e here was h.0 w.outstanding h.2 from was_in))

pub none-is-told : (c : Config) (before : List Event) (number : ℕ) (ranged : IsInRange c) (all : AreAtLines (fresh c) before) (within : number < c.lines) (service : Service) (tei : ℕ) (what : line_event.Event)
    → state_of service tei (line_at number (after_all (fresh c) before)) ≡ None → filter (is_news service tei) (notes_of (answer (at number what) (after_all (fresh c) before))) ≡ []
none-is-told c before number ranged all within service tei what none =
    let card = after_all (fresh c) before in
    let here : number < card.config.lines = subst (λ (c : Config). number < c.lines) (sym (config-now c before number ranged all within service tei)) within in
    let h = stands-now c before number ranged all within service tei in
    own-silent service tei number card (sound-now c before number ranged all within service tei) (at number what) here
    (was_asked c before number ranged all within service tei) h.0 (owes_now c before number ranged all within service tei).outstanding h.2 none
