-- Counters of a link count what its events show: the law.
use Rattle.laws_trace.proofs.Vocabulary.{arith, ◌≡◌, ℕ, ◌<◌, ◌&&◌, ◌||◌, true, false, cond, List, [], ◌∷◌, ◌++◌, map, fold, Option, Some, None, refl, sym, ap, ◌∙◌, subst, inl, inr, eq-eqb, eqb-true, true≢false, is_some, option_map, option_to_list, option_map_or, append-nil, All, All-head, All-tail, All-cons, All-nil, get_or-set_same, get_or-replicate, and_parts, lt-ltb}
use Rattle.laws_trace.proofs.Vocabulary.{place_of-is, at-within, number_within, given-in-order, IsInOrder, given_is_frame, ControlFrame, Terms, Link, Given, Service, link_in, link_number, link_of, place_in, terms, terms_in_range, IsInRange, IsSound, Config, Line, fresh_line, Answer, Event, next}
use Rattle.laws_trace.proofs.Vocabulary.{◌⊎◌, IsGiven, is_ui, is_frame_of, link_after, given, fresh_link, line_frame_of, refused, PoolFull, list_any}
use Rattle.model_line.proofs.TimersFollow.{nowhere}
use Rattle.laws_trace.proofs.Vocabulary.{Card, CardEvent, CardIsSound, line_at, fresh, moments, after, card_answer, after_all, IsAtLine, AreAtLines, after_is_sound, fresh_is_sound, has_lines, by_room, line_sound, config-stays, Always}
use Rattle.model_line.specs.Line.{counts_in}
use Rattle.model_line.specs.Machine as lines
use Rattle.model_link.specs.Events as link
use Rattle.model_link.specs.Machine as links
use Rattle.model_link.specs.Sound as link_sound
use Rattle.laws_link.proofs.TallyKept.{counts-are}
use Rattle.laws_trace.specs.LinkCountersCount.{LinkCountersCount, event_in, joins, is_on_line, counted_in, events_of_link}
use Rattle.laws_trace.proofs.DataAsked.{only-offered}
use Rattle.laws_trace.proofs.FramesOfLink.{own-frame}
use Rattle.laws_trace.proofs.LineAtEnd.{line-at-end, link-at-end}
use Rattle.laws_trace.proofs.LinkEvents.{unsent, cleared-begins, none-happens, one-happens, ended-happens}
use Rattle.laws_trace.proofs.LinkLed.{on-line}
use Rattle.laws_trace.proofs.NoUi.{IsPlain}
use Rattle.laws_trace.proofs.OneLink.{HasOne, Goes, frames_given, event-goes}
use Rattle.laws_trace.proofs.Runs.{apart, run-shows}
use Rattle.laws_trace.proofs.TimersOfEvent.{off-fresh, comes}
use Rattle.laws_trace.proofs.Units.{NoneWaits, fresh-none, Passes, rests, joins as passes, steps}
use Rattle.laws_trace.proofs.Facts.{some-of}

-- An event is a call for the next frame, or none.
is-next : (e : Event) → (e ≡ next) ⊎ (e ≡ next → ⊥)
is-next e = grind arith

-- A list of events, and one more.
joined : (t : Terms) (es : List link.Event) (e : link.Event) (l : Link) → links.after_all t (es ++ e ∷ []) l ≡ link_after t e (links.after_all t es l)
unfolding links.after_all
joined t [] e l = refl
joined t (f ∷ es) e l = joined t es e (link_after t f l)

-- A request that finds the pool full is no event of a link.
none-full : (c : Config) (service : Service) (tei : ℕ) (e : Event) (l : Line) → lines.takes_slot c e l ≡ true → event_in c service tei e (refused PoolFull) ≡ None
unfolding lines.takes_slot
none-full c service tei e l takes = grind arith

module _ (service : Service) (tei : ℕ) where
  -- The link is where its events lead.
  abbrev Led : Config → List link.Event → Line → Type 0
  Led c es l = link_of service tei l ≡ links.after_all (terms c service tei) es fresh_link

  -- One event of a line.
  module _ (c : Config) (ranged : IsInRange c) (l : Line) (s : IsSound c l) (bare : NoneWaits c l) (e : Event) (es : List link.Event) (led : Led c es l) where
    abbrev a : Answer
    a = lines.answer c e l

    abbrev t : Terms
    t = terms c service tei

    abbrev own : Link
    own = link_of service tei l

    abbrev new : Line
    new = lines.after c e l

    abbrev LedBy : Option link.Event → Type 0
    LedBy o = Led c (es ++ option_to_list o) new

    by-none : link_of service tei new ≡ own → LedBy None
    by-none same = same ∙ led ∙ ap (λ es. links.after_all t es fresh_link) (sym (append-nil es))

    by-one : (event : link.Event) → link_of service tei new ≡ link_after t event own → LedBy (Some event)
    by-one event is = is ∙ ap (link_after t event) led ∙ sym (joined t es event fresh_link)

    module _ (place : ℕ) (on : place_in l tei ≡ Some place) where
      sound : link_sound.IsSound t own
      sound = link-at-end c l ranged s service tei place on

      range : link_sound.IsInRange t
      range = terms_in_range c ranged service tei (s.management.table.range place tei (place_of-is l.management.places tei place on).1)

      own-bare : All IsPlain own.waiting
      own-bare =
          let at = (place_of-is l.management.places tei place on).1 in
          subst (λ (k : Link). All IsPlain k.waiting) (sym (ap (λ o. option_map_or (link_in l service) o fresh_link) on))
          (bare (link_number place service) (number_within place c.terminals service (omega (arith, s.places, at-within l.management.places place tei at))))

      bare-frame : (f : ControlFrame) → IsInOrder t own (link_after t link.offer own) f → is_ui f.control ≡ false
      bare-frame f (inl oldest) = All-head IsPlain f (link_after t link.offer own).waiting (subst (All IsPlain) oldest.waited own-bare)
      bare-frame f (inr (inl information)) = ap (λ (f : ControlFrame). is_ui f.control) information.is
      bare-frame f (inr (inr acknowledgement)) = ap (λ (f : ControlFrame). is_ui f.control) acknowledgement.is

      -- an offer that gives a frame, and one that gives none
      by-given : (g : Option Given) → given t own ≡ g → link_of service tei new ≡ link_after t link.offer own
          → LedBy (cond (list_any (is_frame_of c service tei) (map (line_frame_of c t) (option_to_list g))) (Some link.offer) None)
      by-given None none is = by-none (is ∙ unsent t own none)
      by-given (Some g) some is =
          subst LedBy
          (sym (ap (λ b. cond (b || false) (Some link.offer) None)
          (own-frame c service tei g (some-of (λ g. IsGiven t g.frame g.contents) (given t own) g some (given_is_frame t range own sound))
          (bare-frame g.frame (some-of (λ g. IsInOrder t own (link_after t link.offer own) g.frame) (given t own) g some (given-in-order t own sound))))))
          (by-one link.offer is)

      by-offer : HasOne c service tei e l new a → e ≡ next → LedBy (event_in c service tei e a)
      by-offer x is = grind (arith, link.offer, only-offered, frames_given, by-given, given)

      by-event : HasOne c service tei e l new a → (o : (e ≡ next) ⊎ (e ≡ next → ⊥)) → LedBy (event_in c service tei e a)
      by-event x o = grind (arith, by-offer, one-happens, by-one)

      on-line-led : (there : ℕ) → place_in new tei ≡ Some there → LedBy (event_in c service tei e a)
      on-line-led there stays = go (event-goes c e l service tei s)
        where
          go : Goes c service tei e l new a → LedBy (event_in c service tei e a)
          go (inl x) = subst LedBy (sym (none-happens c service tei l place on e x)) (by-none (x.stays (on-line l tei place on) (on-line new tei there stays)))
          go (inr (inl x)) = by-event x (is-next e)
          go (inr (inr x)) = subst LedBy (sym (ended-happens c service tei a e x.by)) (by-one link.cleared (x.is ∙ sym (cleared-begins t own)))

    abbrev then : Option ℕ → Option ℕ → Answer → List link.Event
    then from to a = cond (is_some from && is_some to) (es ++ option_to_list (event_in c service tei e a)) []

    line-led : Led c (then (place_in l tei) (place_in new tei) a) new
    unfolding links.after_all
    line-led = go (place_in l tei) refl (place_in new tei) refl
      where
        go : (from : Option ℕ) → place_in l tei ≡ from → (to : Option ℕ) → place_in new tei ≡ to → Led c (then from to a) new
        go None off None gone = off-fresh service tei new gone
        go None off (Some there) stays = comes c e l s service tei off
        go (Some place) on None gone = off-fresh service tei new gone
        go (Some place) on (Some there) stays = on-line-led place on there stays

    -- where the pool is full
    still-led : lines.takes_slot c e l ≡ true → Led c (then (place_in l tei) (place_in l tei) (refused PoolFull)) l
    unfolding links.after_all
    still-led full = grind (arith, refused, off-fresh, fresh_link, append-nil, option_to_list, none-full)

  -- One event of a card.
  module _ (card : Card) (s : CardIsSound card) (e : CardEvent) (here : IsAtLine card e) (es : List link.Event) where
    abbrev l : Line
    l = line_at e.line card

    abbrev c : Config
    c = card.config

    own-led : NoneWaits c l → Led c es l
        → Led c (cond (is_on_line e.line tei card && is_on_line e.line tei (after e card)) (es ++ option_to_list (event_in c service tei e.what (card_answer e card))) []) (line_at e.line (after e card))
    own-led bare led = grind (arith, by_room, is_some, option_to_list, still-led, and_parts, lines.answer, get_or-set_same, lines.after, line-led, line_sound, has_lines)

    moment-led : (number : ℕ) → NoneWaits c (line_at number card) → Led c es (line_at number card)
        → Led c (joins c service tei number es (record { card = card; event = e; answer = card_answer e card })) (line_at number (after e card))
    moment-led number bare led = grind (arith, after, option_to_list, eqb-true, own-led, apart, true≢false, eq-eqb)

    none-waits : (number : ℕ) → NoneWaits c (line_at number card) → NoneWaits c (line_at number (after e card))
    unfolding after_all
    none-waits number bare = (run-shows NoneWaits Passes rests passes steps card (e ∷ []) number s (All-cons (IsAtLine card) e [] here (All-nil (IsAtLine card))) bare).1

  run-led : (card : Card) (events : List CardEvent) (number : ℕ) → CardIsSound card → AreAtLines card events → NoneWaits card.config (line_at number card)
      → (es : List link.Event) → Led card.config es (line_at number card)
      → Led card.config (fold (joins card.config service tei number) es (moments card events)) (line_at number (after_all card events))
  unfolding moments after_all
  run-led card [] number s all bare es led = led
  run-led card (e ∷ events) number s all bare es led =
      let here = All-head (IsAtLine card) e events all in
      run-led (after e card) events number (after_is_sound card e s here) (All-tail (IsAtLine card) e events all) (none-waits card s e here es number bare)
      (joins card.config service tei number es (record { card = card; event = e; answer = card_answer e card })) (moment-led card s e here es number bare led)

  -- From a fresh card on.
  module _ (c : Config) (events : List CardEvent) (number : ℕ) (ranged : IsInRange c) (all : AreAtLines (fresh c) events) (within : number < c.lines) where
    start : line_at number (fresh c) ≡ fresh_line c
    start = get_or-replicate c.lines number (fresh_line c) (fresh_line c) within

    abbrev its : Line
    its = line_at number (after_all (fresh c) events)

    its-led : Led c (events_of_link c service tei number events) its
    unfolding links.after_all
    its-led =
        run-led (fresh c) events number (fresh_is_sound c ranged) all (subst (λ (l : Line). NoneWaits c l) (sym start) (fresh-none c)) []
        (ap (link_of service tei) start ∙ off-fresh service tei (fresh_line c) (nowhere c tei))

    ranges : (place : ℕ) → place_in its tei ≡ Some place → link_sound.IsInRange (terms c service tei)
    ranges place on =
        terms_in_range c ranged service tei ((line-at-end c events number ranged all within).management.table.range place tei (place_of-is its.management.places tei place on).1)

    its-counts : (o : Option ℕ) → place_in its tei ≡ o → option_map (counts_in its service) o ≡ cond (is_some o) (Some (counted_in c service tei (events_of_link c service tei number events))) None
    its-counts o off = grind (arith, fresh_link, its-led, counts-are, ranges)

pub link-counters-count : Always LinkCountersCount
link-counters-count c events number ranged all within service tei = grind (arith, fresh, lt-ltb, config-stays, its-counts)
