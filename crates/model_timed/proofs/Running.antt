-- The timers that run at the clock of a card of frames are those that its lines run.
use Rattle.std.proofs.Common.{arith, ◌≡◌, ℕ, ◌<◌, ◌==◌, ◌&&◌, ◌||◌, Bool, true, false, cond, List, [], ◌∷◌, drop, Option, Some, None, refl, sym, ap, ◌∙◌, subst, eq-eqb, eqb-true, true≢false}
use Rattle.std.proofs.lemmas.List.Elements.{All-head, All-tail}
use Rattle.std.proofs.lemmas.Bool.{and_parts}
use Rattle.std.specs.Prelude.{is_some}
use Rattle.std.specs.List.{AllByRecursion}
use Rattle.lapd_clock.specs.Timer.{Timer, Order, Start, Stop, Lengths, is_same}
use Rattle.lapd_clock.specs.Timers.{Expiry, is_held, is_of}
use Rattle.lapd_clock.specs.Moments.{moment_of}
use Rattle.model_link.specs.Timed as link
use Rattle.model_link.specs.Timed.{IsTimed}
use Rattle.model_link.proofs.TimedRows.{timed-after}
use Rattle.model_line.specs.Event as line_event
use Rattle.model_line.specs.Event.{Answer}
use Rattle.model_line.specs.Expiry.{is_running}
use Rattle.model_line.specs.Laws.{orders_in}
use Rattle.model_line.specs.Line.{Line, link_at}
use Rattle.model_line.specs.Machine as lines
use Rattle.model_line.specs.Runs.{runs_then, ArePlaced}
use Rattle.model_line.specs.Runs as runs
use Rattle.model_line.specs.declared.config.Config.{Config}
use Rattle.model_line.proofs.LinkMoves.{all-after}
use Rattle.model_line.proofs.Placed.{in-place}
use Rattle.model_line.proofs.TimersFollow.{runs-follow, none-run}
use Rattle.model_teis.specs.Table.{IsAt}
use Rattle.model_card.specs.Card.{Card, fresh, line_at}
use Rattle.model_card.specs.Event.{Event, at}
use Rattle.model_card.specs.Machine.{after, answer}
use Rattle.model_card.specs.Run.{IsAtLine, AreAtLines, after_all}
use Rattle.model_card.specs.Reached.{AreTimed, IsReached}
use Rattle.model_card.specs.Sound.{IsSound}
use Rattle.model_card.proofs.CardSound.{after_is_sound}
use Rattle.model_card.proofs.Reaching.{at-first, fresh-at, past}
use Rattle.model_card.proofs.Steps.{by_line, has_lines, line_sound}
use Rattle.model_timed.specs.Clock as clocks
use Rattle.model_timed.specs.Clock.{Clock}
use Rattle.model_timed.specs.RunTheSame.{left_at, left_by, as_they_are, RunAs}
use Rattle.model_timed.proofs.Orders.{equal, itself, start-moves, stop-moves, held-is}

-- Two timers are the same one by their order exactly where they are so by their names.
named : (a b : Timer) → link.is_same a b ≡ true → a ≡ b
named a b e = grind (arith, eqb-true)

named-itself : (a : Timer) → link.is_same a a ≡ true
named-itself a = grind (arith, eq-eqb)

pub agree : (a b : Timer) → is_same a b ≡ link.is_same a b
agree a b = go (is_same a b) (link.is_same a b) refl refl
  where
    go : (p q : Bool) → is_same a b ≡ p → link.is_same a b ≡ q → p ≡ q
    go true true e f = refl
    go false false e f = refl
    go true false e f = absurd (true≢false (sym (subst (λ x. link.is_same a x ≡ true) (equal a b e) (named-itself a)) ∙ f))
    go false true e f = absurd (true≢false (sym (subst (λ x. is_same a x ≡ true) (named a b f) (itself a)) ∙ e))

-- What runs at the clock after orders at a line: on that line what obeys them, on another what ran.
some-cond : (b : Bool) (n : ℕ) (m : Option ℕ) → is_some (cond b (Some n) m) ≡ cond b true (is_some m)
some-cond true n m = refl
some-cond false n m = refl

none-cond : (b : Bool) (m : Option ℕ) → is_some (cond b None m) ≡ cond b false (is_some m)
none-cond true m = refl
none-cond false m = refl

start-held : (line l : ℕ) (timer t : Timer) (c : Clock) → is_held l t (clocks.obey line c (Start timer)).running ≡ cond (line == l && is_same timer t) true (is_held l t c.running)
start-held line l timer t c =
    held-is l t (clocks.obey line c (Start timer)).running ∙ ap is_some (start-moves line timer c l t)
    ∙ some-cond (line == l && is_same timer t) _ (moment_of l t c.running) ∙ ap (λ b. cond (line == l && is_same timer t) true b) (sym (held-is l t c.running))

stop-held : (line l : ℕ) (timer t : Timer) (c : Clock) → is_held l t (clocks.obey line c (Stop timer)).running ≡ cond (line == l && is_same timer t) false (is_held l t c.running)
stop-held line l timer t c =
    held-is l t (clocks.obey line c (Stop timer)).running ∙ ap is_some (stop-moves line timer c l t)
    ∙ none-cond (line == l && is_same timer t) (moment_of l t c.running) ∙ ap (λ b. cond (line == l && is_same timer t) false b) (sym (held-is l t c.running))

own : (line : ℕ) (timer t : Timer) → (line == line && is_same timer t) ≡ link.is_same timer t
own line timer t = ap (λ b. b && is_same timer t) (eq-eqb line line refl) ∙ agree timer t

pub held-here : (line : ℕ) (t : Timer) (c : Clock) (orders : List Order) → is_held line t (clocks.obeyed line orders c).running ≡ link.obeyed t (is_held line t c.running) orders
held-here line t c [] = refl
held-here line t c (Start timer ∷ orders) =
    held-here line t (clocks.obey line c (Start timer)) orders
    ∙ ap (λ b. link.obeyed t b orders) (start-held line line timer t c ∙ ap (λ b. cond b true (is_held line t c.running)) (own line timer t))
held-here line t c (Stop timer ∷ orders) =
    held-here line t (clocks.obey line c (Stop timer)) orders
    ∙ ap (λ b. link.obeyed t b orders) (stop-held line line timer t c ∙ ap (λ b. cond b false (is_held line t c.running)) (own line timer t))

pub held-elsewhere : (line l : ℕ) (t : Timer) (c : Clock) (orders : List Order) → (line == l) ≡ false → is_held l t (clocks.obeyed line orders c).running ≡ is_held l t c.running
held-elsewhere line l t c [] other = refl
held-elsewhere line l t c (Start timer ∷ orders) other =
    held-elsewhere line l t (clocks.obey line c (Start timer)) orders other
    ∙ start-held line l timer t c ∙ ap (λ b. cond (b && is_same timer t) true (is_held l t c.running)) other
held-elsewhere line l t c (Stop timer ∷ orders) other =
    held-elsewhere line l t (clocks.obey line c (Stop timer)) orders other
    ∙ stop-held line l timer t c ∙ ap (λ b. cond (b && is_same timer t) false (is_held l t c.running)) other

-- What an event leaves of a line's TEIs, also of a line that it is not at.
pub record StaysInPlace (l now : Line) : Type 0 where
  pub once : (i j tei : ℕ) → IsAt l.management.places i tei → IsAt now.management.places j tei → i ≡ j
  pub alone : (i tei other : ℕ) → IsAt l.management.places i tei → IsAt now.management.places i other → tei ≡ other

module _ (card : Card) (e : Event) (s : IsSound card) (here : e.line < card.config.lines) where
  module _ (timed : AreTimed card) (number : ℕ) (within : number < card.config.lines) where
    abbrev l : Line
    l = line_at number card

    -- a request that finds the pool full is no expiry
    no-expiry : (what : line_event.Event) → lines.takes_slot card.config what l ≡ true → (timer : Timer) (b : Bool) → runs.left_by what timer b ≡ b
    unfolding lines.takes_slot
    no-expiry what takes timer b = grind arith

    abbrev Runs : Timer → Bool → Line → Answer → Type 0
    Runs timer true now a = runs_then timer (is_running timer l) e.what a ≡ is_running timer now
    Runs timer false now a = is_running timer l ≡ is_running timer now

    pub line-runs : (timer : Timer) → Runs timer (e.line == number) (line_at number (after e card)) (answer e card)
    line-runs timer =
        by_line card e number (has_lines card s) here (Runs timer) (λ a. refl) (λ takes. no-expiry e.what takes timer (is_running timer l))
        (λ own room. runs-follow card.config e.what l timer (line_sound card number (has_lines card s) within) (timed number within))

    abbrev Timed : Bool → Line → Answer → Type 0
    Timed b now a = (n : ℕ) → IsTimed (link_at n now)

    pub line-timed : (n : ℕ) → IsTimed (link_at n (line_at number (after e card)))
    line-timed =
        by_line card e number (has_lines card s) here Timed (λ a. timed number within) (λ takes. timed number within)
        (λ own room. all-after IsTimed (record { timer = refl }) (λ t ev x range sound is. timed-after t ev x is) card.config s.config e.what l
        (line_sound card number (has_lines card s) within) (timed number within))

  pub timed-then : AreTimed card → AreTimed (after e card)
  timed-then timed line within = line-timed timed line within

  -- the TEIs stay in their places
  line-itself : (number : ℕ) → number < card.config.lines → StaysInPlace (line_at number card) (line_at number card)
  line-itself number within =
      let table = (line_sound card number (has_lines card s) within).management.table in
      record { once = table.once; alone = λ i tei other a b. the-same tei other (sym a ∙ b) }
    where
      the-same : (a b : ℕ) → Some a ≡ Some b → a ≡ b
      the-same a b e = cc

  pub stays-in-place : (number : ℕ) → number < card.config.lines → StaysInPlace (line_at number card) (line_at number (after e card))
  stays-in-place number within =
      by_line card e number (has_lines card s) here (λ b now a. StaysInPlace (line_at number card) now) (λ a. line-itself number within) (λ takes. line-itself number within)
      (λ own room. let x = in-place card.config e.what (line_at number card) (line_sound card number (has_lines card s) within) in record { once = x.once; alone = x.alone })

  -- and what is started is of TEIs on the line
  abbrev Places : Bool → Line → Answer → Type 0
  Places true now a = ArePlaced now (orders_in a)
  Places false now a = Unit {0}

  pub are-placed : ArePlaced (line_at e.line (after e card)) (orders_in (answer e card))
  are-placed =
      subst (λ b. Places b (line_at e.line (after e card)) (answer e card)) (eq-eqb e.line e.line refl)
      (by_line card e e.line (has_lines card s) here Places (λ a. tt) (λ takes. tt)
      (λ own room. (in-place card.config e.what (line_at e.line card) (line_sound card e.line (has_lines card s) here)).placed))

  -- An event that was handed to the card, with the timer left out that it says has expired: what runs then, runs at both.
  left-here : (what : line_event.Event) (timer : Timer) (b : Bool) → left_at what e.line e.line timer b ≡ runs.left_by what timer b
  left-here (line_event.expiry expired) timer b = ap (λ x. cond x false b) (own e.line expired timer)
  left-here (line_event.hears h) timer b = refl
  left-here (line_event.request r) timer b = refl
  left-here line_event.next timer b = refl

  left-there : (what : line_event.Event) (line : ℕ) (timer : Timer) (b : Bool) → (e.line == line) ≡ false → left_at what e.line line timer b ≡ b
  left-there (line_event.expiry expired) line timer b other = ap (λ x. cond (x && is_same expired timer) false b) other
  left-there (line_event.hears h) line timer b other = refl
  left-there (line_event.request r) line timer b other = refl
  left-there line_event.next line timer b other = refl

  pub run-on : AreTimed card → (clock : Clock) → RunAs (left_by e) card clock → RunAs as_they_are (after e card) (clocks.obeyed e.line (orders_in (answer e card)) clock)
  run-on timed clock run line timer within = go (e.line == line) refl (line-runs timed line within timer)
    where
      orders : List Order
      orders = orders_in (answer e card)

      go : (b : Bool) → (e.line == line) ≡ b → Runs timed line within timer b (line_at line (after e card)) (answer e card)
          → is_held line timer (clocks.obeyed e.line (orders_in (answer e card)) clock).running ≡ is_running timer (line_at line (after e card))
      go true own h =
          subst (λ n. is_held line timer (clocks.obeyed n (orders_in (answer e card)) clock).running ≡ is_running timer (line_at line (after e card))) (sym (eqb-true e.line line own))
          (held-here line timer clock (orders_in (answer e card))
          ∙ ap (λ b. link.obeyed timer b (orders_in (answer e card)))
          (run line timer within ∙ subst (λ n. left_at e.what e.line n timer (is_running timer (line_at line card)) ≡ runs.left_by e.what timer (is_running timer (line_at line card)))
          (eqb-true e.line line own) (left-here e.what timer (is_running timer (line_at line card))))
          ∙ h)
      go false other h =
          held-elsewhere e.line line timer clock (orders_in (answer e card)) other ∙ run line timer within
          ∙ left-there e.what line timer (is_running timer (line_at line card)) other ∙ h

-- Over runs.
timed-all : (card : Card) (events : List Event) → IsSound card → AreTimed card → AreAtLines card events → AreTimed (after_all card events)
unfolding after_all
timed-all card [] s timed all = timed
timed-all card (e ∷ events) s timed all =
    let here = All-head (IsAtLine card) e events all in
    timed-all (after e card) events (after_is_sound card e s here) (timed-then card e s here timed) (All-tail (IsAtLine card) e events all)

pub timed-reached : (card : Card) → IsReached card → AreTimed card
timed-reached card r = let p = past card r in subst AreTimed (sym p.same) (timed-all p.first p.events p.begins.sound p.begins.timed (at-first card p))

pub run-fresh : (c : Config) (lengths : Lengths) → RunAs as_they_are (fresh c) (clocks.stopped lengths)
run-fresh c lengths line timer within = sym (ap (is_running timer) (fresh-at c line within) ∙ none-run c timer)

-- The first timer is taken out: it runs at its line alone, until its expiry has happened there.
none-held : (line : ℕ) (timer : Timer) (es : List Expiry) → AllByRecursion (λ e. is_of line timer e ≡ false) es → is_held line timer es ≡ false
none-held line timer [] all = refl
none-held line timer (e ∷ es) all = ap (λ b. b || is_held line timer es) all.0 ∙ none-held line timer es all.1

left-held : (l : ℕ) (t : Timer) (x : Expiry) (rest : List Expiry) (r : Bool) → AllByRecursion (λ other. is_of x.line x.timer other ≡ false) rest
    → is_held l t (x ∷ rest) ≡ r → is_held l t rest ≡ cond (x.line == l && is_same x.timer t) false r
left-held l t x rest r alone h =
    (elim (x.line == l && is_same x.timer t) as (λ b. (x.line == l && is_same x.timer t) ≡ b → (b || is_held l t rest) ≡ r → is_held l t rest ≡ cond b false r) [
      | true ↦ λ its _. let split = and_parts (x.line == l) (is_same x.timer t) its in
          none-held l t rest
          (subst (λ n. AllByRecursion (λ other. is_of n t other ≡ false) rest) (eqb-true x.line l split.0)
          (subst (λ y. AllByRecursion (λ other. is_of x.line y other ≡ false) rest) (equal x.timer t split.1) alone))
      | false ↦ λ _ was. was
    ]) refl h

pub taken-left : (card : Card) (clock : Clock) (x : Expiry) (rest : List Expiry) → clock.running ≡ x ∷ rest → AllByRecursion (λ other. is_of x.line x.timer other ≡ false) rest
    → RunAs as_they_are card clock → RunAs (left_by (at x.line (line_event.expiry x.timer))) card (clocks.without_first clock)
taken-left card clock x rest is alone run line timer within =
    ap (λ es. is_held line timer (drop 1 es)) is
    ∙ left-held line timer x rest (is_running timer (line_at line card)) alone (ap (is_held line timer) (sym is) ∙ run line timer within)
