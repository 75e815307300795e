-- What a link has to send is what an observer has: what it keeps.
use Rattle.laws_trace.proofs.Vocabulary.{◌≡◌, ℕ, ◌<◌, ◌==◌, ◌&&◌, Bool, true, false, cond, List, [], ◌∷◌, ◌++◌, drop, get_or, Option, Some, None, refl, sym, ap, ◌∙◌, subst, arith, eq-eqb, true≢false, append-nil, append_assoc, fold, and_parts, get_or-set_same, get_or-replicate, fold-append, none-some, Service, Link, queue_of, state_number, Config, Answer, Line, fresh_line, has_tei, link_of}
use Rattle.laws_trace.proofs.Vocabulary.{place_in, IsInRange, is-off, nowhere, Card, line_at, is_full, at, moments, has_lines, by_room, line_sound, all-left, notes_of, eqb-true, fresh_link, fresh, CardEvent as Event, after, card_answer as answer, Moment, after_all, IsAtLine, AreAtLines, managing_is_on as is_on, due, brings, is_sabme, Observed, View, views, view_of, moment_of, view_behind}
use Rattle.laws_trace.proofs.Vocabulary.{Outgoing, data_granted, went_on, keeps, watches, nothing_yet, outgoing_of, is_up, seen, CardIsSound as IsSound, after_all-append}
use Rattle.model_line.specs.Event as line_event
use Rattle.model_line.specs.Machine as lines
use Rattle.laws_trace.proofs.KeptOfLine.{left, still, left-so, comes-so}
use Rattle.laws_trace.proofs.KeptOfLink.{went_by}
use Rattle.laws_trace.proofs.LinkLed.{on-line}
use Rattle.laws_trace.proofs.ObservedRun.{holds-behind}
use Rattle.laws_trace.proofs.PlacesSeen.{granted_in, lost_in, granted-so, lost-so}
use Rattle.laws_trace.proofs.Runs.{nothing-seen, apart}
use Rattle.laws_trace.proofs.SeenAs.{IsSeenAs, seen-before, seen-behind, tei-seen}
use Rattle.laws_trace.proofs.TimersAreTimely.{config-now, sound-now}
use Rattle.laws_trace.proofs.TimersOfEvent.{off-fresh}
use Rattle.laws_trace.proofs.Drained.{moments-both}
use Rattle.laws_trace.proofs.Facts.{number-up}

-- An event of a card.
module _ (card : Card) (number : ℕ) (what : line_event.Event) (s : IsSound card) (here : number < card.config.lines) (service : Service) (tei : ℕ) where
  abbrev l : Line
  l = line_at number card

  abbrev own : Link
  own = link_of service tei l

  abbrev Left : Line → Answer → Type 0
  Left m a =
      (p q : ℕ) → place_in l tei ≡ Some p → place_in m tei ≡ Some q →
      queue_of (link_of service tei m) ≡ left (lost_in service tei (seen what a)) (brings is_sabme card.config service tei what) own (link_of service tei m) (granted_in service tei (seen what a))

  pub leaves : Left (line_at number (after (at number what) card)) (answer (at number what) card)
  leaves =
      by_room (λ ls a. Left (get_or ls number (fresh_line card.config)) a) (at number what) card
      (λ full p q on there.
      let anew = brings is_sabme card.config service tei what in
      sym (ap (λ t. left (lost_in service tei t) anew own own (granted_in service tei t)) (nothing-seen card.config what l (and_parts (lines.takes_slot card.config what l) (is_full card) full).0)
      ∙ ap (λ xs. cond (is_up (state_number own.state)) xs (queue_of own)) (append-nil (drop (went_by anew own own) (queue_of own)) ∙ ap (λ n. drop n (queue_of own)) (still anew own))
      ∙ (grind arith)))
      (λ room.
      subst (λ (m : Line). Left m (lines.answer card.config what l))
      (sym (get_or-set_same card.lines number (lines.after card.config what l) (fresh_line card.config) (omega (arith, s.count, here))))
      (left-so card.config s.config l (line_sound card number (has_lines card s) here) service tei what))

  pub comes : place_in l tei ≡ None → link_of service tei (line_at number (after (at number what) card)) ≡ fresh_link
  comes off =
      by_room (λ ls a. link_of service tei (get_or ls number (fresh_line card.config)) ≡ fresh_link) (at number what) card
      (λ full. off-fresh service tei l off)
      (λ room.
      subst (λ (m : Line). link_of service tei m ≡ fresh_link)
      (sym (get_or-set_same card.lines number (lines.after card.config what l) (fresh_line card.config) (omega (arith, s.count, here))))
      (comes-so card.config s.config l (line_sound card number (has_lines card s) here) service tei what off))

-- The observer has it so.
module _ (lost anew : Bool) (k x : Link) (o p : Observed) (was : IsSeenAs k o) (now : IsSeenAs x p) (more : List (List ℕ)) where
  abbrev leaving : List (List ℕ) → List (List ℕ)
  leaving kept = cond lost [] (cond (is_up o.state) (drop (went_on anew o p) kept ++ more) kept)

  pub left-as : leaving (queue_of k) ≡ left lost anew k x more
  left-as = grind (arith, number-up, went_by)

-- A call for the next frame tells nothing.
pub next-quiet : (card : Card) (number : ℕ) (what : line_event.Event) → what ≡ line_event.next → notes_of (answer (at number what) card) ≡ []
unfolding lines.answer lines.takes_slot
next-quiet card number what is = grind arith

-- What is known of the link is what the observer of it knows.
pub same-view : (c : Config) (service : Service) (tei number : ℕ) (ms : List Moment) (o : Outgoing)
    → (fold (watches c service tei number) o ms).view ≡ fold (views c service tei number) o.view ms
same-view c service tei number [] o = refl
same-view c service tei number (m ∷ ms) o = same-view c service tei number ms (watches c service tei number o m)

-- What an observer has of a link from the start of the card on, where one event of the line leads it on as the link.
module _ (c : Config) (number : ℕ) (ranged : IsInRange c) (within : number < c.lines) (service : Service) (tei : ℕ) where
  abbrev pub its : List Event → Line
  its events = line_at number (after_all (fresh c) events)

  pub view-is : (events : List Event) → (outgoing_of c service tei number events).view ≡ view_of c service tei number events
  view-is events = same-view c service tei number (moments (fresh c) events) nothing_yet

  abbrev with_event : List Event → Event → Moment
  with_event before e = let card = after_all (fresh c) before in record { card = card; event = e; answer = answer e card }

  pub then-is : (before : List Event) (e : Event) → outgoing_of c service tei number (before ++ e ∷ []) ≡ watches c service tei number (outgoing_of c service tei number before) (with_event before e)
  unfolding moments
  then-is before e = grind (arith, moments-both, fold-append)

  line-then : (before : List Event) (e : Event) → its (before ++ e ∷ []) ≡ line_at number (after e (after_all (fresh c) before))
  unfolding after_all
  line-then before e = ap (line_at number) (after_all-append (fresh c) before (e ∷ []))

  abbrev pub behind_of : List Event → line_event.Event → Line
  behind_of before what = line_at number (after (at number what) (after_all (fresh c) before))

  module _ {X : Type 0} (none : X) (field : Outgoing → X) (by : View → View → Moment → X → X)
      (field-is : (o : Outgoing) (m : Moment) → field (watches c service tei number o m)
      ≡ cond (is_on tei (views c service tei number o.view m).teis && is_on tei o.view.teis)
      (cond (m.event.line == number) (by o.view (views c service tei number o.view m) m (field o)) (field o)) none) (of_line : Line → X)
      (comes : (before : List Event) → AreAtLines (fresh c) before → (what : line_event.Event) → place_in (its before) tei ≡ None → of_line (behind_of before what) ≡ none)
      (stays : (before : List Event) → AreAtLines (fresh c) before → (what : line_event.Event) (p q : ℕ) → place_in (its before) tei ≡ Some p → place_in (behind_of before what) tei ≡ Some q
      → by (view_of c service tei number before) (view_behind c service tei number before what) (moment_of c before number what) (of_line (its before)) ≡ of_line (behind_of before what)) where
    abbrev Has : List Event → Type 0
    Has events = (place : ℕ) → place_in (its events) tei ≡ Some place → field (outgoing_of c service tei number events) ≡ of_line (its events)

    -- In one moment.
    module _ (before : List Event) (all : AreAtLines (fresh c) before) (has : Has before) where
      abbrev card : Card
      card = after_all (fresh c) before

      abbrev o : Outgoing
      o = outgoing_of c service tei number before

      on-before : is_on tei o.view.teis ≡ has_tei tei (its before)
      on-before = ap (λ (v : View). is_on tei v.teis) (view-is before) ∙ tei-seen c before number ranged all within service tei

      -- of the line,
      module _ (what : line_event.Event) where
        abbrev m : Moment
        m = moment_of c before number what

        abbrev now : View
        now = views c service tei number o.view m

        view-then : now ≡ view_behind c service tei number before what
        view-then = ap (λ v. views c service tei number v m) (view-is before)

        on-then : is_on tei now.teis ≡ has_tei tei (behind_of before what)
        on-then = ap (λ (v : View). is_on tei v.teis) view-then ∙ (holds-behind c before number ranged all within service tei what).follows.on.same tei

        own-has : (q : ℕ) → place_in (behind_of before what) tei ≡ Some q → field (watches c service tei number o m) ≡ of_line (behind_of before what)
        own-has q there =
            field-is o m ∙ ap (λ b. cond (b && is_on tei o.view.teis) (its-field (number == number)) none) (on-then ∙ on-line (behind_of before what) tei q there)
            ∙ ap (λ b. cond b (its-field (number == number)) none) on-before ∙ go (place_in (its before) tei) refl
          where
            its-field : Bool → X
            its-field b = cond b (by o.view now m (field o)) (field o)

            go : (p : Option ℕ) → place_in (its before) tei ≡ p → cond (has_tei tei (its before)) (its-field (number == number)) none ≡ of_line (behind_of before what)
            go None off = ap (λ b. cond b (its-field (number == number)) none) (is-off (its before).management.places tei off) ∙ sym (comes before all what off)
            go (Some p) on =
                ap (λ b. cond b (its-field (number == number)) none) (on-line (its before) tei p on) ∙ ap its-field (eq-eqb number number refl)
                ∙ ap (λ v. by v now m (field o)) (view-is before) ∙ ap (λ v. by (view_of c service tei number before) v m (field o)) view-then
                ∙ ap (by (view_of c service tei number before) (view_behind c service tei number before what) m) (has p on) ∙ stays before all what p q on there

      -- and of another
      other-has : (e : Event) → (e.line == number) ≡ false → (q : ℕ) → place_in (line_at number (after e card)) tei ≡ Some q
          → field (watches c service tei number o (with_event before e)) ≡ of_line (line_at number (after e card))
      other-has e away q there =
          let m = with_event before e in
          let now = views c service tei number o.view m in
          let still_there : line_at number (after e card) ≡ its before = apart card e number (λ same. true≢false (sym (eq-eqb e.line number (sym same)) ∙ away)) in
          let on : place_in (its before) tei ≡ Some q = ap (λ l. place_in l tei) (sym still_there) ∙ there in
          let is : is_on tei o.view.teis ≡ true = on-before ∙ on-line (its before) tei q on in
          let teis : now.teis ≡ o.view.teis = ap (λ b. cond b (due c e.what o.view.teis) o.view.teis) away in
          field-is o m ∙ ap (λ b. cond (is_on tei now.teis && is_on tei o.view.teis) (cond b (by o.view now m (field o)) (field o)) none) away
          ∙ ap (λ b. cond (b && is_on tei o.view.teis) (field o) none) (ap (is_on tei) teis ∙ is) ∙ ap (λ b. cond b (field o) none) is
          ∙ has q on ∙ ap of_line (sym still_there)

      abbrev Step : ℕ → Event → Type 0
      Step q e =
          place_in (line_at number (after e card)) tei ≡ Some q → field (watches c service tei number o (with_event before e)) ≡ of_line (line_at number (after e card))

      by-line : (q : ℕ) (e : Event) (b : Bool) → (e.line == number) ≡ b → Step q e
      by-line q e true is = subst (λ n. Step q (at n e.what)) (sym (eqb-true e.line number is)) (own-has e.what q)
      by-line q e false away = other-has e away q

      has-then : (e : Event) → Has (before ++ e ∷ [])
      has-then e q there =
          let line : its (before ++ e ∷ []) ≡ line_at number (after e card) = line-then before e in
          let on : place_in (line_at number (after e card)) tei ≡ Some q = ap (λ l. place_in l tei) (sym line) ∙ there in
          ap field (then-is before e) ∙ by-line q e (e.line == number) refl on ∙ ap of_line (sym line)

    -- In a run.
    run : (before rest : List Event) → AreAtLines (fresh c) (before ++ rest) → Has before → Has (before ++ rest)
    run before [] all has = subst Has (sym (append-nil before)) has
    run before (e ∷ rest) all has =
        let joined : (before ++ e ∷ []) ++ rest ≡ before ++ e ∷ rest = append_assoc before (e ∷ []) rest in
        subst Has joined
        (run (before ++ e ∷ []) rest (subst (AreAtLines (fresh c)) (sym joined) all) (has-then before (all-left (IsAtLine (fresh c)) before (e ∷ rest) all) has e))

    at-first : Has []
    unfolding moments after_all
    at-first place on =
        absurd (none-some place (sym (ap (λ l. place_in l tei) (get_or-replicate c.lines number (fresh_line c) (fresh_line c) within) ∙ nowhere c tei) ∙ on))

    pub has-now : (events : List Event) → AreAtLines (fresh c) events → Has events
    has-now events all = run [] events all at-first

  -- What it keeps.
  abbrev pub Card-at : List Event → Type 0
  Card-at before = number < (after_all (fresh c) before).config.lines

  pub here-at : (before : List Event) → AreAtLines (fresh c) before → Card-at before
  here-at before all = subst (λ (d : Config). number < d.lines) (sym (config-now c before number ranged all within service tei)) within

  kept-stays : (before : List Event) → AreAtLines (fresh c) before → (what : line_event.Event) (p q : ℕ) → place_in (its before) tei ≡ Some p → place_in (behind_of before what) tei ≡ Some q
      → keeps c service tei (view_of c service tei number before).link (view_behind c service tei number before what).link what (moment_of c before number what).answer (queue_of (link_of service tei (its before)))
      ≡ queue_of (link_of service tei (behind_of before what))
  kept-stays before all what p q on there =
      let card = after_all (fresh c) before in
      let own = link_of service tei (its before) in
      let x = link_of service tei (behind_of before what) in
      let a = answer (at number what) card in
      let t = seen what a in
      let before_o = (view_of c service tei number before).link in
      let went = went_on (brings is_sabme c service tei what) before_o ((view_behind c service tei number before what).link) in
      let was = seen-before c before number ranged all within service tei p on in
      let is = seen-behind c before number ranged all within service tei what q there in
      ap (λ b. cond b [] (cond (is_up before_o.state) (drop went (queue_of own) ++ data_granted service tei what a) (queue_of own))) (sym (lost-so service tei what a (next-quiet card number what)))
      ∙ ap (λ more. cond (lost_in service tei t) [] (cond (is_up before_o.state) (drop went (queue_of own) ++ more) (queue_of own))) (sym (granted-so service tei what a))
      ∙ left-as (lost_in service tei t) (brings is_sabme c service tei what) own x (view_of c service tei number before).link (view_behind c service tei number before what).link was is (granted_in service tei t)
      ∙ sym (subst (λ (d : Config). queue_of x ≡ left (lost_in service tei t) (brings is_sabme d service tei what) own x (granted_in service tei t)) (config-now c before number ranged all within service tei)
      (leaves card number what (sound-now c before number ranged all within service tei) (here-at before all) service tei p q on there))

  abbrev kept_by : View → View → Moment → List (List ℕ) → List (List ℕ)
  kept_by was now m xs = keeps c service tei was.link now.link m.event.what m.answer xs

  pub kept-now : (events : List Event) → AreAtLines (fresh c) events → (place : ℕ) → place_in (its events) tei ≡ Some place
      → (outgoing_of c service tei number events).kept ≡ queue_of (link_of service tei (its events))
  kept-now =
      has-now [] (λ o. o.kept) kept_by (λ o m. refl) (λ l. queue_of (link_of service tei l))
      (λ before all what off. ap queue_of (comes (after_all (fresh c) before) number what (sound-now c before number ranged all within service tei) (here-at before all) service tei off)) kept-stays
