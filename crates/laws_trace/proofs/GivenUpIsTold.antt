-- What is granted is acknowledged, waits or is given up, and what is given up is told: the law.
use Rattle.laws_trace.proofs.Vocabulary.{◌≡◌, ℕ, ◌<◌, ◌==◌, ◌&&◌, ◌||◌, Bool, true, false, cond, not, List, length, Option, Some, None, option_map, refl, sym, ap, ◌∙◌, subst, ◌⊎◌, inl, inr, ⊎_elim, arith, eq-eqb, true≢false, or-true, PoolFull, Refusal, Service, Timer, Link, Terms, queue_of, empties, cleared, Config, Aim, at_none, at_link, of_aim}
use Rattle.laws_trace.proofs.Vocabulary.{at_units, at_management, at_no_link, aim_of_expiry, aim_of_heard, hears, expiry, request, next, Answer, refused, told, next_of, taken, Line, has_tei}
use Rattle.laws_trace.proofs.Vocabulary.{link_of, link_in, place_in, aim_of, unless_refused, unless_refused_told, aim_of_request, IsDeactivated, heard_aims, IsProper, heard_proper, expiry_proper, request_proper, IsInRange, terms, is-off, is_on-at}
use Rattle.laws_trace.proofs.Vocabulary.{service-same, same_service, other-none, own-gone, given_up_in, given_up_of, by-down, notes_of, Card, line_at, at, fresh, after, card_answer as answer, after_all, AreAtLines, managing_is_on as is_on, View, views, moment_of, outgoing_of, link_told}
use Rattle.laws_trace.proofs.Vocabulary.{seen, Always, Event, IsSound, refusal, Request, CardIsSound, CardEvent, StreamEvent}
use Rattle.model_line.proofs.Downs.{given_up as down_given_up}
use Rattle.model_line.specs.Effect.{at_terminal}
use Rattle.model_line.specs.Machine as lines
use Rattle.std.specs.Option.{option_or, unwrap_or}
use Rattle.std.specs.Prelude.{zero, suc}
use Rattle.std.proofs.lemmas.Bool.{ne_eqb}
use Rattle.std.proofs.lemmas.Option.{none-some}
use Rattle.lapd_frame.specs.declared.services.Service.TheVariants.{Call, Packet}
use Rattle.laws_trace.specs.GivenUpIsTold.{asked_by, first_of, given_up, given_up_tei, named_by, GivenUpIsTold}
use Rattle.laws_trace.specs.Outgoing.{loses}
use Rattle.laws_trace.proofs.Addressed.{at-some-place}
use Rattle.laws_trace.proofs.KeptOfLine.{lost-is, none-lost}
use Rattle.laws_trace.proofs.LineAtEnd.{link-at-end}
use Rattle.laws_trace.proofs.LinkLed.{on-line, own-is}
use Rattle.laws_trace.proofs.ManagedLink.{management-leaving, own-leaving}
use Rattle.laws_trace.proofs.NewsOfLeaving.{one-stays}
use Rattle.laws_trace.proofs.ObservedRun.{holds-behind}
use Rattle.laws_trace.proofs.NotedTei.{noted-tei}
use Rattle.laws_trace.proofs.OneTei.{at-card, ending, full-ends, named-tei, one-tei}
use Rattle.laws_trace.proofs.OneLink.{Goes, HasOne, IsGivenUp, is_at_link, event-goes}
use Rattle.laws_trace.proofs.Outgoing.{next-quiet, view-is, kept-now, here-at}
use Rattle.laws_trace.proofs.PlacesSeen.{gives_up_of, lost_in, lost-so, asked-loses}
use Rattle.laws_trace.proofs.SeenAs.{tei-seen}
use Rattle.laws_trace.proofs.TimersAreTimely.{sound-now}
use Rattle.laws_trace.proofs.ToldGivenUp.{of-its, none-in, none-refused, none-gave}
use Rattle.model_card.specs.Event as card_event

-- What concerns no part gives nothing up.
abbrev NoneGone : Aim → Type 0
NoneGone (at_none what) = (what.given_up ≡ 0) × (what.given_up_16 ≡ 0)
NoneGone other = Unit {0}

module _ (c : Config) (l : Line) where
  heard-none : (what : StreamEvent) → NoneGone (aim_of_heard c l what)
  heard-none what = heard_aims c l NoneGone (λ cause. (refl, refl)) (λ its by place what at. tt) (λ info. tt) (λ parts service to. (refl, refl)) what

  expiry-none : (timer : Timer) → NoneGone (aim_of_expiry timer l)
  expiry-none timer = grind arith

  request-none : (r : Request) → NoneGone (aim_of_request r l)
  request-none r = grind arith

-- One event of a line.
module _ (c : Config) (ranged : IsInRange c) (l : Line) (s : IsSound c l) (service : Service) (e : Event) where
  abbrev a : Answer
  a = lines.answer c e l

  abbrev new : Line
  new = lines.after c e l

  -- whether the link of a TEI gives up what it keeps, and how much that is
  abbrev pub ends : ℕ → Bool
  ends tei = has_tei tei l && (lost_in service tei (seen e a) || not (has_tei tei new))

  abbrev pub kept : ℕ → ℕ
  kept tei = length (queue_of (link_of service tei l))

  -- it does, and so many are told
  abbrev pub IsAllTold : ℕ → Type 0
  IsAllTold tei = (ends tei ≡ true) × (given_up_in service a ≡ kept tei)

  module _ (tei place : ℕ) (on : place_in l tei ≡ Some place) where
    abbrev t : Terms
    t = terms c service tei

    abbrev own : Link
    own = link_of service tei l

    ends-by : (lost there : Bool) → lost_in service tei (seen e a) ≡ lost → has_tei tei new ≡ there → ends tei ≡ (lost || not there)
    ends-by lost there is left =
        ap (λ b. b && (lost_in service tei (seen e a) || not (has_tei tei new))) (on-line l tei place on)
        ∙ ap (λ b. b || not (has_tei tei new)) is ∙ ap (λ b. lost || not b) left

    -- an event of the link gives up nothing, or all
    one-told : HasOne c service tei e l new a → ((ends tei ≡ false) × (given_up_in service a ≡ 0)) ⊎ IsAllTold tei
    one-told x = go (empties t x.event own) refl
      where
        there : has_tei tei new ≡ true
        there = one-stays service tei c e l s (on-line l tei place on) x.place x.event x.aimed

        gone : given_up_in service a ≡ cond (empties t x.event own) (kept tei) 0
        gone = x.given_up ∙ own-gone t own (link-at-end c l ranged s service tei place on) x.event

        go : (b : Bool) → empties t x.event own ≡ b → ((ends tei ≡ false) × (given_up_in service a ≡ 0)) ⊎ IsAllTold tei
        go true all = inr (ends-by true true (lost-is c ranged l s service tei e x ∙ all) there, gone ∙ ap (λ b. cond b (kept tei) 0) all)
        go false some = inl (ends-by false true (lost-is c ranged l s service tei e x ∙ some) there, gone ∙ ap (λ b. cond b (kept tei) 0) some)

    all-gone : given_up_of service (link_told t cleared own) ≡ kept tei
    all-gone = own-gone t own (link-at-end c l ranged s service tei place on) cleared

    -- so does its deactivation,
    lost-by : IsDeactivated e a service tei → lost_in service tei (seen e a) ≡ true
    lost-by by = grind (arith, lost_in, seen, asked-loses, gives_up_of, own-is)

    ended : IsGivenUp c service tei e l new a → IsAllTold tei
    ended x = (ends-by true (has_tei tei new) (lost-by x.by) refl, x.given_up ∙ all-gone)

    -- and that its TEI leaves
    left : has_tei tei new ≡ false → given_up_in service a ≡ given_up_of service (link_told t cleared own) → IsAllTold tei
    left off gone = (ends-by (lost_in service tei (seen e a)) false refl off ∙ or-true (lost_in service tei (seen e a)), gone ∙ all-gone)

    pub told-so : (ends tei ≡ false) ⊎ IsAllTold tei
    told-so = go (event-goes c e l service tei s)
      where
        go : Goes c service tei e l new a → (ends tei ≡ false) ⊎ IsAllTold tei
        go (inr (inl x)) = ⊎_elim (λ none. inl none.0) (λ all. inr all) (one-told x)
        go (inr (inr x)) = inr (ended x)
        go (inl x) = by-tei (has_tei tei new) refl
          where
            by-tei : (b : Bool) → has_tei tei new ≡ b → (ends tei ≡ false) ⊎ IsAllTold tei
            by-tei true there = inl (ends-by false true (none-lost c ranged l s service tei place on e x.aims there) there)
            by-tei false off = inr (left off (x.gone (on-line l tei place on) off))

    -- The answer to an event of the link, or of its TEI that leaves, tells what the link gives up.
    pub its-told : (is_at_link service tei (aim_of c e l) ≡ true) ⊎ (has_tei tei new ≡ false) → (given_up_in service a ≡ 0) ⊎ IsAllTold tei
    its-told how = go (event-goes c e l service tei s)
      where
        go : Goes c service tei e l new a → (given_up_in service a ≡ 0) ⊎ IsAllTold tei
        go (inr (inl x)) = ⊎_elim (λ none. inl none.1) (λ all. inr all) (one-told x)
        go (inr (inr x)) = inr (ended x)
        go (inl x) = ⊎_elim (λ at. absurd (true≢false (sym at ∙ x.aims))) (λ off. inr (left off (x.gone (on-line l tei place on) off))) how

  -- Whatever is told as given up is of a link of some TEI.
  abbrev pub OfSome : Type 0
  OfSome = (given_up_in service a ≡ 0) ⊎ ((tei : ℕ) × IsAllTold tei)

  of-one : (tei : ℕ) → has_tei tei l ≡ true → (is_at_link service tei (aim_of c e l) ≡ true) ⊎ (has_tei tei new ≡ false) → OfSome
  of-one tei on how =
      let p = at-some-place l tei on in
      ⊎_elim (λ none. inl none) (λ all. inr (tei, all)) (its-told tei p.0 p.1 how)

  -- by what the event aims at
  by-aim : (aim : Aim) → aim_of c e l ≡ aim → IsProper c l aim → NoneGone aim → given_up_in service a ≡ given_up_in service (told (of_aim c aim l).told) → new ≡ (of_aim c aim l).line → OfSome
  by-aim (at_none what) is proper none tells line = inl (tells ∙ none-in what none.0 none.1 service)
  by-aim (at_units unit) is proper none tells line = inl (tells ∙ none-in (of_aim c (at_units unit) l).told refl refl service)
  by-aim at_no_link is proper none tells line =
      inl (tells ∙ by-down c l s (λ f. given_up_in service (told f.told) ≡ 0) (none-in (down_given_up l).told refl refl service))
  by-aim (at_management me) is proper none tells line =
      ⊎_elim (λ zero. inl (tells ∙ zero)) (λ x. of-one x.0 x.1 (inr (ap (has_tei x.0) line ∙ x.2))) (management-leaving c l s service 0 me proper)
  by-aim (at_terminal te) is proper none tells line =
      ⊎_elim (λ zero. inl (tells ∙ zero)) (λ x. of-one x.0 x.1 (inr (ap (has_tei x.0) line ∙ x.2))) (own-leaving c l s service 0 te proper)
  by-aim (at_link its by place event) is proper none tells line = go (same_service its service) refl
    where
      go : (b : Bool) → same_service its service ≡ b → OfSome
      go true same =
          of-one by (is_on-at l.management.places place by proper)
          (inl (ap (is_at_link service by) is ∙ ap (λ b. b && by == by) same ∙ eq-eqb by by refl))
      go false other =
          inl (tells ∙ of-its service (link_told (terms c its by) event (link_in l its place))
          ∙ other-none (terms c its by) event (link_in l its place) service
          (λ same. true≢false (sym (ap (λ z. same_service z service) same ∙ service-same service) ∙ other)))

module _ (c : Config) (ranged : IsInRange c) (l : Line) (s : IsSound c l) (service : Service) where
  asked-so : (r : Request) (o : Option Refusal) → refusal c false r l ≡ o → OfSome c ranged l s service (request r)
  unfolding lines.after lines.answer
  asked-so r None none =
      by-aim c ranged l s service (request r) (aim_of_request r l) (ap (λ o. unless_refused o (aim_of_request r l)) none)
      (subst (λ o. IsProper c l (unless_refused o (aim_of_request r l))) none (request_proper c l r)) (request-none c l r)
      (ap (λ o. given_up_in service (unless_refused_told o (of_aim c (unless_refused o (aim_of_request r l)) l))) none)
      (ap (λ o. (of_aim c (unless_refused o (aim_of_request r l)) l).line) none)
  asked-so r (Some why) some =
      inl (ap (λ o. given_up_in service (unless_refused_told o (of_aim c (unless_refused o (aim_of_request r l)) l))) some ∙ none-refused why service)

  pub given-so : (e : Event) → OfSome c ranged l s service e
  unfolding lines.after lines.answer
  given-so (hears what) =
      by-aim c ranged l s service (hears what) (aim_of_heard c l what) refl (heard_proper c l what) (heard-none c l what) refl refl
  given-so (expiry timer) =
      by-aim c ranged l s service (expiry timer) (aim_of_expiry timer l) refl (expiry_proper c l timer) (expiry-none c l timer) refl refl
  given-so (request r) = asked-so r (refusal c false r l) refl
  given-so next = inl (none-gave (option_map next_of (taken c l)) service)

-- An event of a card.
module _ (card : Card) (number : ℕ) (what : Event) (s : CardIsSound card) (here : number < card.config.lines) (service : Service) where
  abbrev line : Line
  line = line_at number card

  abbrev ends_at : ℕ → Line → Answer → Bool
  ends_at tei x b = has_tei tei line && (lost_in service tei (seen what b) || not (has_tei tei x))

  abbrev kept_at : ℕ → ℕ
  kept_at tei = length (queue_of (link_of service tei line))

  abbrev IsToldAt : ℕ → Line → Answer → Type 0
  IsToldAt tei x b = (ends_at tei x b ≡ true) × (given_up_in service b ≡ kept_at tei)

  abbrev pub Tells : Line → Answer → Type 0
  Tells x b = ((tei : ℕ) → (ends_at tei x b ≡ false) ⊎ IsToldAt tei x b) × ((given_up_in service b ≡ 0) ⊎ ((tei : ℕ) × IsToldAt tei x b))

  full-tells : lines.takes_slot card.config what line ≡ true → Tells line (refused PoolFull)
  full-tells takes = (λ tei. inl (full-ends service tei card number what takes), inl (none-refused PoolFull service))

  room-tells : IsSound card.config line → Tells (lines.after card.config what line) (lines.answer card.config what line)
  room-tells safe = (λ tei. go tei safe (place_in line tei) refl, given-so card.config s.config line safe service what)
    where
      go : (tei : ℕ) → IsSound card.config line → (p : Option ℕ) → place_in line tei ≡ p
          → let b = lines.answer card.config what line in let x = lines.after card.config what line in (ends_at tei x b ≡ false) ⊎ IsToldAt tei x b
      go tei safe None off = inl (ap (λ b. b && (lost_in service tei (seen what (lines.answer card.config what line)) || not (has_tei tei (lines.after card.config what line)))) (is-off line.management.places tei off))
      go tei safe (Some place) on = told-so card.config s.config line safe service what tei place on

  pub tells : Tells (line_at number (after (card_event.at number what) card)) (answer (card_event.at number what) card)
  tells = at-card card number what s here Tells full-tells room-tells

-- The observer has it so.
module _ (c : Config) (events : List CardEvent) (number : ℕ) (ranged : IsInRange c) (all : AreAtLines (fresh c) events) (within : number < c.lines) (service : Service) (what : Event) where
  abbrev card_now : Card
  card_now = after_all (fresh c) events

  abbrev its : Line
  its = line_at number card_now

  abbrev answered : Answer
  answered = answer (card_event.at number what) card_now

  abbrev behind : Line
  behind = line_at number (after (card_event.at number what) card_now)

  abbrev Ends : ℕ → Bool
  Ends tei = has_tei tei its && (lost_in service tei (seen what answered) || not (has_tei tei behind))

  module _ (tei : ℕ) where
    abbrev view : View
    view = (outgoing_of c service tei number events).view

    on-before : is_on tei view.teis ≡ has_tei tei its
    on-before = ap (λ (v : View). is_on tei v.teis) (view-is c number ranged within service tei events) ∙ tei-seen c events number ranged all within service tei

    on-behind : is_on tei (views c service tei number view (moment_of c events number what)).teis ≡ has_tei tei behind
    on-behind =
        ap (λ (v : View). is_on tei (views c service tei number v (moment_of c events number what)).teis) (view-is c number ranged within service tei events)
        ∙ (holds-behind c events number ranged all within service tei what).follows.on.same tei

    ends-so : (is_on tei view.teis && (loses service tei what answered || not (is_on tei (views c service tei number view (moment_of c events number what)).teis))) ≡ Ends tei
    ends-so = grind (arith, loses, on-before, lost-so, next-quiet, lost_in, seen, on-behind)

    pub gives : given_up c service tei number events what ≡ cond (Ends tei) (length (queue_of (link_of service tei its))) 0
    gives = ap (λ b. cond b (length (outgoing_of c service tei number events).kept) 0) ends-so ∙ go (place_in its tei) refl
      where
        go : (p : Option ℕ) → place_in its tei ≡ p → cond (Ends tei) (length (outgoing_of c service tei number events).kept) 0 ≡ cond (Ends tei) (length (queue_of (link_of service tei its))) 0
        go None off =
            let none : Ends tei ≡ false = ap (λ b. b && (lost_in service tei (seen what answered) || not (has_tei tei behind))) (is-off its.management.places tei off) in
            ap (λ b. cond b (length (outgoing_of c service tei number events).kept) 0) none ∙ sym (ap (λ b. cond b (length (queue_of (link_of service tei its))) 0) none)
        go (Some place) on = ap (λ xs. cond (Ends tei) (length xs) 0) (kept-now c number ranged within service tei events all place on)

  its-tells : Tells card_now number what (sound-now c events number ranged all within service 0) (here-at c number ranged within service 0 events all) service behind answered
  its-tells = tells card_now number what (sound-now c events number ranged all within service 0) (here-at c number ranged within service 0 events all) service

-- Two links that give up a number are of one TEI.
module _ (c : Config) (events : List CardEvent) (number : ℕ) (ranged : IsInRange c) (all : AreAtLines (fresh c) events) (within : number < c.lines) (what : Event) where
  no-more : (z : Service) (n : ℕ) → Ends c events number ranged all within z what n ≡ false → given_up c z n number events what ≡ 0
  no-more z n none = grind (arith, gives, fresh)

  named-is : (service : Service) (tei by : ℕ) (r : Request) → what ≡ request r → named_by r ≡ Some by → (given_up c service tei number events what ≡ 0) ⊎ (tei ≡ by)
  named-is service tei by r is named =
      let card = after_all (fresh c) events in
      ⊎_elim (λ none. inl (no-more service tei none)) (λ same. inr same)
      (subst (λ e. (ending service tei e (line_at number card) (line_at number (after (card_event.at number e) card)) (answer (card_event.at number e) card) ≡ false) ⊎ (tei ≡ by)) (sym is)
      (named-tei service tei by r named card number (sound-now c events number ranged all within service 0) (here-at c number ranged within service 0 events all)))

  whose-is : (service other : Service) (tei by : ℕ) → (given_up c service tei number events what ≡ 0) ⊎ (given_up c other by number events what ≡ 0) ⊎ (tei ≡ by)
  whose-is service other tei by =
      ⊎_elim (λ none. inl (no-more service tei none)) (λ rest. inr (⊎_elim (λ none. inl (no-more other by none)) (λ same. inr same) rest))
      (one-tei service other tei by (after_all (fresh c) events) number what (sound-now c events number ranged all within service 0) (here-at c number ranged within service 0 events all))

  noted-is : (service : Service) (tei : ℕ) → asked_by what ≡ None
      → (given_up c service tei number events what ≡ 0) ⊎ (first_of (notes_of (moment_of c events number what).answer) ≡ Some tei)
  noted-is service tei un =
      ⊎_elim (λ none. inl (no-more service tei none)) (λ first. inr first)
      (noted-tei service tei what un (after_all (fresh c) events) number (sound-now c events number ranged all within service 0) (here-at c number ranged within service 0 events all))

  and-false : (b : Bool) → (b && false) ≡ false
  and-false true = refl
  and-false false = refl

  -- so the TEI that is told is that of a link that gives up a number
  some-told : (service : Service) → (given_up_in service (moment_of c events number what).answer ≡ 0 → ⊥)
      → ((given_up_in Call (moment_of c events number what).answer == 0) && (given_up_in Packet (moment_of c events number what).answer == 0)) ≡ false
  some-told Call some = ap (λ b. b && (given_up_in Packet (moment_of c events number what).answer == 0)) (ne_eqb (given_up_in Call (moment_of c events number what).answer) 0 some)
  some-told Packet some = ap (λ b. (given_up_in Call (moment_of c events number what).answer == 0) && b) (ne_eqb (given_up_in Packet (moment_of c events number what).answer) 0 some)
      ∙ and-false (given_up_in Call (moment_of c events number what).answer == 0)

  by-asked : (service : Service) (tei : ℕ) (o : Option ℕ) → asked_by what ≡ o
      → (given_up c service tei number events what ≡ 0) ⊎ (unwrap_or (option_or o (first_of (notes_of (moment_of c events number what).answer))) 255 ≡ tei)
  by-asked service tei None un = ⊎_elim (λ none. inl none) (λ first. inr (ap (λ o. unwrap_or o 255) first)) (noted-is service tei un)
  by-asked service tei (Some by) named = by-event what refl
    where
      by-event : (e : Event) → what ≡ e → (given_up c service tei number events what ≡ 0) ⊎ (by ≡ tei)
      by-event (request r) is = ⊎_elim (λ none. inl none) (λ same. inr (sym same)) (named-is service tei by r is (sym (ap asked_by is) ∙ named))
      by-event (hears h) is = absurd (none-some by (sym (ap asked_by is) ∙ named))
      by-event (expiry t) is = absurd (none-some by (sym (ap asked_by is) ∙ named))
      by-event next is = absurd (none-some by (sym (ap asked_by is) ∙ named))

  told-tei : (service : Service) (tei : ℕ)
      → (given_up c service tei number events what ≡ 0) ⊎ (given_up_in service (moment_of c events number what).answer ≡ given_up c service tei number events what)
      → (given_up c service tei number events what ≡ 0) ⊎ (given_up_tei what (moment_of c events number what).answer ≡ tei)
  told-tei service tei (inl none) = inl none
  told-tei service tei (inr tells) = go (given_up_in service (moment_of c events number what).answer) refl
    where
      go : (n : ℕ) → given_up_in service (moment_of c events number what).answer ≡ n
          → (given_up c service tei number events what ≡ 0) ⊎ (given_up_tei what (moment_of c events number what).answer ≡ tei)
      go zero none = inl (sym tells ∙ none)
      go (suc n) some =
          ⊎_elim (λ none. inl none)
          (λ is. inr (ap (λ b. cond b 255 (unwrap_or (option_or (asked_by what) (first_of (notes_of (moment_of c events number what).answer))) 255))
          (some-told service (λ none. omega (arith, some, none))) ∙ is)) (by-asked service tei (asked_by what) refl)

pub given-up-is-told : Always GivenUpIsTold
given-up-is-told c events number ranged all within service what =
    let t = its-tells c events number ranged all within service what in
    let gone = gives c events number ranged all within service what in
    let kept_by = λ (tei : ℕ). length (queue_of (link_of service tei (line_at number (after_all (fresh c) events)))) in
    record {
      told = λ tei. ⊎_elim (λ none. inl (gone tei ∙ ap (λ b. cond b (kept_by tei) 0) none)) (λ x. inr (x.1 ∙ sym (gone tei ∙ ap (λ b. cond b (kept_by tei) 0) x.0))) (t.0 tei);
      given = ⊎_elim (λ none. inl none) (λ x. inr (x.0, gone x.0 ∙ ap (λ b. cond b (kept_by x.0) 0) x.1.0 ∙ sym x.1.1)) t.1;
      whose = λ tei other by. whose-is c events number ranged all within what service other tei by;
      named = λ tei. told-tei c events number ranged all within what service tei
          (⊎_elim (λ none. inl (gone tei ∙ ap (λ b. cond b (kept_by tei) 0) none)) (λ x. inr (x.1 ∙ sym (gone tei ∙ ap (λ b. cond b (kept_by tei) 0) x.0))) (t.0 tei));
    }
