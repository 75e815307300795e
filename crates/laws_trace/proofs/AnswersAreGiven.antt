-- What answers a poll, SABME or DISC is given within a number of calls: the law.
use Rattle.laws_trace.proofs.Vocabulary.{◌≡◌, ℕ, ◌+◌, ◌-◌, ◌<◌, ◌==◌, ◌&&◌, Bool, true, false, cond, List, [], ◌∷◌, ◌++◌, map, length, take, drop, filter, Some, refl, sym, ap, ◌∙◌, subst, arith, append_assoc, option_map_or, All-head, All-cons, All-nil, Service, ControlFrame, Config, Line, IsInRange, control_text, deactivates, place_in, tei_at, link_at, link_in, link_number, link_count}
use Rattle.laws_trace.proofs.Vocabulary.{place_of-is, place_at-number, service_at-number, number_within, at-within, line_at, at, moments, fresh, fresh_link, fresh_is_sound, always_sound, config-stays, all-left, all-right, CardEvent as Event, after, Card, after_all, IsAtLine, AreAtLines, after_all-append, Always, not, and_parts, eq-eqb, Answer, Managed, managed_after}
use Rattle.laws_trace.proofs.Vocabulary.{managing_is_on as is_on}
use Rattle.laws_trace.proofs.Vocabulary.{has_tei, View, Outgoing, outgoing_of, lost_in, take-length, length-map, is_take, takes_of, frames_given, waiting-taken, most_frames_before, changed, command_of, put_in, is_frame_of, Observed, by_event, enters, in_state, moment_of, view_of, views, outgoing_waits as waits, trace_frame_in as frame_in, Moment, text}
use Rattle.model_line.specs.Event as line_event
use Rattle.model_line.specs.Line.{is_terminal}
use Rattle.model_line.specs.Sound.{IsOfSide}
use Rattle.laws_line.specs.card.Among.{AreAmong}
unfoldable use Rattle.laws_line.specs.card.PromisesOfTakes.{StaysAt, priority_added_at}
use Rattle.laws_line.specs.card.PromisesOfTakes.{IsNotDeactivated, is_deactivated_at}
use Rattle.laws_trace.specs.NoLossInVain.{puts_by}
use Rattle.laws_trace.specs.AnswersAreGiven.{texts, priority_waiting, QueueIsSent, AnswersAreSent}
unfoldable use Rattle.laws_trace.specs.AnswersAreGiven.{Stays, priority_added}
use Rattle.laws_line.specs.Among as at_line
use Rattle.laws_trace.proofs.Addressed.{at-some-place}
use Rattle.laws_trace.specs.Managing.{own_of}
use Rattle.laws_trace.specs.ManagingTerminal.{OfTerminal}
use Rattle.laws_trace.proofs.Known.{Knows, knows-now}
use Rattle.laws_trace.proofs.LineAtEnd.{line-at-end}
use Rattle.laws_trace.proofs.Outgoing.{then-is, view-is}
use Rattle.laws_trace.proofs.Plain.{all-wait}
use Rattle.laws_trace.proofs.TeisAreManaged.{follows-now}
use Rattle.laws_trace.proofs.TurnsKept.{keeps-there}
use Rattle.laws_trace.proofs.UnitsGoOut.{waiting-is}
use Rattle.laws_trace.proofs.WaitingNow.{waiting-now}

-- An observer's words, and those of the card.
module _ (c : Config) (number : ℕ) (ranged : IsInRange c) (within : number < c.lines) where
  abbrev card : List Event → Card
  card events = after_all (fresh c) events

  abbrev end : List Event → Line
  end events = line_at number (card events)

  -- the messages that wait are owed, of whatever side
  messages-are : (events : List Event) → AreAtLines (fresh c) events → let w = managed_after c number events in
      length w.owed + length (own_of c w).owed ≡ length (end events).management.waiting + length (end events).own.waiting
  messages-are events all = go (is_terminal c) refl
    where
      w : Managed
      w = managed_after c number events

      l : Line
      l = end events

      knows : Knows c w l
      knows = knows-now c events number ranged all within

      sides : IsOfSide (is_terminal c) l.management l.own
      sides = (line-at-end c events number ranged all within).own

      go : (b : Bool) → is_terminal c ≡ b → length w.owed + length (own_of c w).owed ≡ length l.management.waiting + length l.own.waiting
      go true is =
          let unused = (subst (λ b. IsOfSide b l.management l.own) is sides).1 in
          ap (λ ms. length ms + length (own_of c w).owed) (knows.none_owed is) ∙ ap (λ (t : OfTerminal). 0 + length t.owed) (knows.terminal is)
          ∙ sym (ap (λ ms. length ms + length l.own.waiting) unused.waiting)
      go false net =
          let none = subst (λ b. IsOfSide b l.management l.own) net sides in
          ap (λ (v : Managed). length v.owed + length (own_of c v).owed) (knows.network net) ∙ sym (ap (λ ms. length l.management.waiting + length ms) none.1)

  -- the frames that go first
  first-are : (events : List Event) → AreAtLines (fresh c) events → priority_waiting c number events ≡ at_line.priority_waiting (end events)
  first-are events all = grind (arith, waiting-is, length-map, messages-are)

  card-then : (before : List Event) (e : Event) → card (before ++ e ∷ []) ≡ after e (card before)
  unfolding after_all
  card-then before e = after_all-append (fresh c) before (e ∷ [])

  pub come-so : (before events : List Event) → AreAtLines (fresh c) (before ++ events) → priority_added c number before events ≡ priority_added_at number (card before) events
  unfolding priority_added priority_added_at
  come-so before [] all = refl
  come-so before (e ∷ events) all =
      let whole = subst (AreAtLines (fresh c)) (sym (append_assoc before (e ∷ []) events)) all in
      let was = first-are before (all-left (IsAtLine (fresh c)) before (e ∷ events) all) in
      let now = first-are (before ++ e ∷ []) (all-left (IsAtLine (fresh c)) (before ++ e ∷ []) events whole)
      ∙ ap (λ k. at_line.priority_waiting (line_at number k)) (card-then before e) in
      let rest = come-so (before ++ e ∷ []) events whole ∙ ap (λ k. priority_added_at number k events) (card-then before e) in
      ap (λ n. cond (e.line == number && is_take e.what) 0 (n - priority_waiting c number before) + priority_added c number (before ++ e ∷ []) events) now
      ∙ ap (λ n. cond (e.line == number && is_take e.what) 0 (at_line.priority_waiting (line_at number (after e (card before))) - n) + priority_added c number (before ++ e ∷ []) events) was
      ∙ ap (λ n. cond (e.line == number && is_take e.what) 0 (at_line.priority_waiting (line_at number (after e (card before))) - at_line.priority_waiting (end before)) + n) rest

  module _ (service : Service) (tei : ℕ) where
    is-there : (before : List Event) → AreAtLines (fresh c) before → is_on tei (managed_after c number before) ≡ true → has_tei tei (end before) ≡ true
    is-there before all on = sym ((follows-now c before number ranged all within).on.same tei) ∙ on

    stays-now : (before events : List Event) → Stays c number service tei before events → is_on tei (managed_after c number before) ≡ true
    unfolding Stays
    stays-now before [] on = on
    stays-now before (e ∷ events) on = on.0

    -- the TEI keeps its place
    stays-there : (p : ℕ) (before events : List Event) → AreAtLines (fresh c) (before ++ events) → Stays c number service tei before events
        → tei_at p (end before) ≡ Some tei → StaysAt number (link_number p service) tei (card before) events
    unfolding Stays StaysAt
    stays-there p before [] all on at = ap (λ q. tei_at q (end before)) (place_at-number p service) ∙ at
    stays-there p before (e ∷ events) all on at = (
      ap (λ q. tei_at q (end before)) (place_at-number p service) ∙ at,
      subst (λ k. StaysAt number (link_number p service) tei k events) (card-then before e) (stays-there p (before ++ e ∷ []) events whole on.2 then),
    )
      where
        whole : AreAtLines (fresh c) ((before ++ e ∷ []) ++ events)
        whole = subst (AreAtLines (fresh c)) (sym (append_assoc before (e ∷ []) events)) all

        front-lines : AreAtLines (fresh c) before
        front-lines = all-left (IsAtLine (fresh c)) before (e ∷ events) all

        here : IsAtLine (card before) e
        here = subst (λ (d : Config). e.line < d.lines) (sym (config-stays (fresh c) before)) (All-head (IsAtLine (fresh c)) e events (all-right (IsAtLine (fresh c)) before (e ∷ events) all))

        kept : has_tei tei (line_at number (after e (card before))) ≡ true → tei_at p (line_at number (after e (card before))) ≡ Some tei
        kept = keeps-there (card before) e number p tei (always_sound (fresh c) before (fresh_is_sound c ranged) front-lines) here at

        then : tei_at p (end (before ++ e ∷ [])) ≡ Some tei
        then =
            subst (λ (k : Card). has_tei tei (line_at number k) ≡ true → tei_at p (line_at number k) ≡ Some tei) (sym (card-then before e)) kept
            (is-there (before ++ e ∷ []) (all-left (IsAtLine (fresh c)) (before ++ e ∷ []) events whole) (stays-now (before ++ e ∷ []) events on.2))

    not-ended : (p : ℕ) (before events : List Event) → Stays c number service tei before events → IsNotDeactivated number (link_number p service) tei events
    unfolding Stays
    not-ended p before [] on = All-nil (λ e. is_deactivated_at number (link_number p service) tei e ≡ false)
    not-ended p before (e ∷ events) on =
        All-cons (λ e. is_deactivated_at number (link_number p service) tei e ≡ false) e events
        (ap (λ s. e.line == number && deactivates s tei e.what) (service_at-number p service) ∙ on.1) (not-ended p (before ++ e ∷ []) events on.2)

    -- a control frame, as it goes
    text-so : (p : ℕ) (f : ControlFrame) → control_text c (link_number p service) tei f ≡ text c service tei f.command f.control []
    text-so p f = grind (arith, service_at-number p service)

    texts-so : (p : ℕ) (fs : List ControlFrame) → map (control_text c (link_number p service) tei) fs ≡ texts c service tei fs
    texts-so p [] = refl
    texts-so p (f ∷ fs) = ap (λ x. x ∷ map (control_text c (link_number p service) tei) fs) (text-so p f) ∙ ap (λ xs. text c service tei f.command f.control [] ∷ xs) (texts-so p fs)

    module _ (before behind : List Event) (all : AreAtLines (fresh c) (before ++ behind)) (stays : Stays c number service tei before behind) where
      front-lines : AreAtLines (fresh c) before
      front-lines = all-left (IsAtLine (fresh c)) before behind all

      pub P : (place : ℕ) × (place_in (end before) tei ≡ Some place)
      P = at-some-place (end before) tei (is-there before front-lines (stays-now before behind stays))

      abbrev pub link : ℕ
      link = link_number P.0 service

      at-place : tei_at P.0 (end before) ≡ Some tei
      at-place = (place_of-is (end before).management.places tei P.0 P.1).1

      pub link-few : link < link_count c
      link-few =
          let s = line-at-end c before number ranged front-lines within in
          number_within P.0 c.terminals service (omega (arith, s.places, at-within (end before).management.places P.0 tei at-place))

      pub link-stays : StaysAt number link tei (card before) behind
      link-stays = stays-there P.0 before behind all stays at-place

      pub link-up : IsNotDeactivated number link tei behind
      link-up = not-ended P.0 before behind stays

      pub waiting-so : (outgoing_of c service tei number before).waiting ≡ (link_at link (end before)).waiting
      waiting-so =
          waiting-now c number ranged within service tei before front-lines P.0 P.1
          ∙ all-wait c before number ranged front-lines within service tei P.0 P.1
          ∙ ap (λ o. (option_map_or (link_in (end before) service) o fresh_link).waiting) P.1

      pub texts-are : map (control_text c link tei) (link_at link (end before)).waiting ≡ texts c service tei (outgoing_of c service tei number before).waiting
      texts-are = texts-so P.0 (link_at link (end before)).waiting ∙ ap (texts c service tei) (sym waiting-so)

      abbrev ws : List ControlFrame
      ws = (link_at link (end before)).waiting

      abbrev given : List (List ℕ)
      given = frames_given number (moments (card before) behind)

      AreTaken : Config → Type 0
      AreTaken d = number < d.lines → link < link_count d → most_frames_before d + priority_added_at number (card before) behind < takes_of number behind
          → AreAmong (map (control_text d link tei) ws) given

      taken : AreTaken (card before).config
      unfolding AreTaken after_all
      taken few some less = grind (arith, waiting-taken, always_sound, fresh, fresh_is_sound, front-lines, config-stays, all-right, link-stays, link-up)

      pub given-in-order : most_frames_before c + priority_added c number before behind < takes_of number behind → AreAmong (texts c service tei (outgoing_of c service tei number before).waiting) (frames_given number (moments (after_all (fresh c) before) behind))
      unfolding AreTaken
      given-in-order enough = grind (arith, config-stays, fresh, taken, texts-are, link-few, come-so)

pub waiting-is-given : Always QueueIsSent
waiting-is-given c events number ranged all within before behind service tei split stays enough = grind (arith, given-in-order, fresh)

-- ---- what an event puts waits last

-- A deactivation puts none.
none-by-same : (o : Observed) → changed o o ++ (cond (enters o o) (command_of o) []) ≡ []
none-by-same o = grind (arith, eq-eqb)

none-when-down : (o : Observed) → changed o (in_state 4) ++ (cond (enters o (in_state 4)) (command_of (in_state 4)) []) ≡ []
none-when-down o = grind arith

none-put : (c : Config) (service : Service) (tei : ℕ) (what : line_event.Event) → deactivates service tei what ≡ true → (o : Observed) (a : Answer) (k : Card) (n : ℕ)
    → put_in c service tei o (by_event c service tei what a o) (record { card = k; event = at n what; answer = a }) ≡ []
none-put c service tei what is o a k n = grind (arith, none-by-same, none-when-down)

last-wait : (stays own down : Bool) (fs puts : List ControlFrame) (n lost : ℕ) → own ≡ true → lost ≡ 0 → (stays ≡ true → down ≡ true → puts ≡ [])
    → (earlier : List ControlFrame) × (cond stays (cond own (cond down [] (drop n fs ++ take (length puts - lost) puts)) fs) [] ≡ earlier ++ cond stays puts [])
last-wait false own down fs puts n lost here none quiet = ([], refl)
last-wait true own true fs puts n lost here none quiet = ([], ap (λ b. cond b [] fs) here ∙ sym (quiet refl refl))
last-wait true own false fs puts n lost here none quiet =
    let all : length puts - lost ≡ length puts = omega (arith, none) in
    (drop n fs, ap (λ b. cond b (drop n fs ++ take (length puts - lost) puts) fs) here ∙ ap (λ m. drop n fs ++ take m puts) all ∙ ap (λ xs. drop n fs ++ xs) (take-length puts))

module _ (c : Config) (number : ℕ) (ranged : IsInRange c) (within : number < c.lines) (service : Service) (tei : ℕ) (before : List Event) (what : line_event.Event) where
  abbrev o : Outgoing
  o = outgoing_of c service tei number before

  abbrev m : Moment
  m = moment_of c before number what

  abbrev PutsLast : View → Type 0
  PutsLast was =
      let now = views c service tei number was m in
      let stays = is_on tei now.teis && is_on tei was.teis in
      (earlier : List ControlFrame) × (cond stays (cond (number == number) (waits c service tei was.link now.link m o.waiting) o.waiting) [] ≡ earlier ++ cond stays (put_in c service tei was.link now.link m) [])

  puts-last : lost_in m.answer ≡ 0 → (was : View) → PutsLast was
  puts-last none was =
      let now = views c service tei number was m in
      last-wait (is_on tei now.teis && is_on tei was.teis) (number == number) (deactivates service tei what) o.waiting (put_in c service tei was.link now.link m)
      (length (filter (is_frame_of c service tei) (frame_in m.answer))) (lost_in m.answer) (eq-eqb number number refl) none
      (λ stays down.
      let on = and_parts (is_on tei now.teis) (is_on tei was.teis) stays in
      ap (λ b. put_in c service tei was.link (cond (not b) (in_state 1) (cond (is_on tei was.teis) (cond (number == number) (by_event c service tei what m.answer was.link) was.link) (in_state 4))) m) on.0
      ∙ ap (λ b. put_in c service tei was.link (cond b (cond (number == number) (by_event c service tei what m.answer was.link) was.link) (in_state 4)) m) on.1
      ∙ ap (λ b. put_in c service tei was.link (cond b (by_event c service tei what m.answer was.link) was.link) m) (eq-eqb number number refl)
      ∙ none-put c service tei what down was.link m.answer m.card number)

  pub wait-last : lost_in m.answer ≡ 0
      → (earlier : List ControlFrame) × ((outgoing_of c service tei number (before ++ at number what ∷ [])).waiting ≡ earlier ++ puts_by c number before what service tei)
  wait-last none =
      let x : PutsLast (view_of c service tei number before) = puts-last none (view_of c service tei number before) in (
        x.0,
        ap (λ (o : Outgoing). o.waiting) (then-is c number ranged within service tei before (at number what))
            ∙ ap (λ (v : View). let now = views c service tei number v m in
            cond (is_on tei now.teis && is_on tei v.teis) (cond (number == number) (waits c service tei v.link now.link m o.waiting) o.waiting) []) (view-is c number ranged within service tei before)
            ∙ x.1,
      )

pub answers-are-given : Always AnswersAreSent
answers-are-given c events number ranged all within past what later service tei split none =
    let last = wait-last c number ranged within service tei past what none in
    record { earlier = last.0; queue_is = last.1 }
