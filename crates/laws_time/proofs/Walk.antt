-- A timed card as it goes on: when the timers of a link fall due.
use Rattle.laws_time.proofs.Vocabulary.{All-append, All-cons, All-nil, AreAtLines, Bool, Clock, Config, Event, IsAtLine, IsInRange, Lengths, LinkTimer, List, None, Observed, Service, Some, TimedCard, Timer, View, [], after_all-append, ap, arith, at, cond, duration, false, frames_after_all as after_all, is_anew, moment_of, not, orders_in, refl, runs, subst, sym, timer_of, true}
use Rattle.laws_time.proofs.Vocabulary.{eq-eqb, filter, is_news, moment_at, news-is-told-so, news_in, notes_due, notes_of, of_frames, true≢false, view_behind, view_of, ℕ, ◌&&◌, ◌++◌, ◌+◌, ◌<◌, ◌||◌, ◌∙◌, ◌∷◌, ◌≡◌, ◌≤◌}
use Rattle.model_line.specs.Event as line_event
use Rattle.model_card.specs.Card.{fresh}
use Rattle.model_card.specs.Machine.{after, answer}
use Rattle.laws_time.proofs.TimedFrames.{with_event}
use Rattle.laws_time.proofs.Links.{view-then}
use Rattle.laws_time.proofs.Moments.{now-stays, lengths-stay}
use Rattle.laws_time.proofs.Ordered.{left, moment-left}

module _ (c : Config) (lengths : Lengths) (late number : ℕ) (ranged : IsInRange c) (within : number < c.lines) (service : Service) (tei : ℕ) where
  abbrev pub its : LinkTimer → Timer
  its timer = timer_of service tei timer

  -- It is a card that began, after these events.
  pub record Stands (events : List Event) (t : TimedCard) : Type 0 where
    pub card : t.card ≡ after_all (fresh c) events
    pub all : AreAtLines (fresh c) events
    pub lengths_are : t.clock.lengths ≡ lengths

  abbrev pub seen : List Event → Observed
  seen events = (view_of c service tei number events).link

  -- A timer that runs falls due at a moment of which this holds, and is overdue by no more.
  abbrev pub IsDue : LinkTimer → Clock → (ℕ → Type 0) → Type 0
  IsDue timer clock P = (m : ℕ) × (moment_of number (its timer) clock.running ≡ Some m) × (clock.now ≤ m + late) × P m

  abbrev pub Holds : LinkTimer → List Event → Clock → (ℕ → Type 0) → Type 0
  Holds timer events clock P = runs timer (seen events) ≡ true → IsDue timer clock P

  all-then : (events : List Event) (e : Event) → AreAtLines (fresh c) events → e.line < c.lines → AreAtLines (fresh c) (events ++ e ∷ [])
  all-then events e all here = All-append (IsAtLine (fresh c)) events (e ∷ []) all (All-cons (IsAtLine (fresh c)) e [] here (All-nil (IsAtLine (fresh c))))

  pub stands-then : (events : List Event) (t : TimedCard) (e : Event) → Stands events t → e.line < c.lines → Stands (events ++ e ∷ []) (with_event e t)
  unfolding after_all
  stands-then events t e s here = grind (arith, after, after_all-append, fresh, all-then, lengths-stay, orders_in, answer)

  -- What is told as an event of the line comes.
  pub own-news : (events : List Event) (t : TimedCard) → Stands events t → (what : line_event.Event)
      → news_in of_frames service tei number (Some (at number what)) t.card ≡ notes_due c service tei (seen events) (view_behind c service tei number events what).link what (moment_at c events number what).answer
  own-news events t s what =
      ap (λ b. cond b (filter (is_news service tei) (notes_of (answer (at number what) t.card))) []) (eq-eqb number number refl)
      ∙ ap (λ card. filter (is_news service tei) (notes_of (answer (at number what) card))) s.card
      ∙ news-is-told-so c (events ++ at number what ∷ []) number ranged ((stands-then events t (at number what) s within).all) within service tei events what [] refl

  -- An event of the line.
  module _ (events : List Event) (t : TimedCard) (s : Stands events t) (what : line_event.Event) (timer : LinkTimer) where
    abbrev q : Observed
    q = (view_behind c service tei number events what).link

    abbrev then_clock : Clock
    then_clock = (with_event (at number what) t).clock

    pub q-is : seen (events ++ at number what ∷ []) ≡ q
    q-is = ap (λ (v : View). v.link) (view-then c service tei number events (at number what))

    moment-then : moment_of number (its timer) then_clock.running ≡ left c service tei timer (seen events) q what (t.clock.now + duration lengths (its timer)) (moment_of number (its timer) t.clock.running)
    moment-then = grind (arith, moment-left)

    now-then : then_clock.now ≡ t.clock.now
    now-then = now-stays number t.clock (orders_in (answer (at number what) t.card))

    abbrev begins : Bool
    begins = not (runs timer (seen events)) || is_anew c service tei timer (seen events) q what

    by-begins : (P Q : ℕ → Type 0) → (runs timer (seen events) ≡ true → is_anew c service tei timer (seen events) q what ≡ false → IsDue timer t.clock P)
        → (runs timer q ≡ true → (m : ℕ) → t.clock.now ≤ m + late → P m → Q m) → (begins ≡ true → runs timer q ≡ true → Q (t.clock.now + duration lengths (its timer)))
        → runs timer q ≡ true → (b : Bool) → begins ≡ b → IsDue timer then_clock Q
    by-begins P Q kept more anew run true is = grind (arith, duration, moment_of, moment-then, cond, runs, not, now-then)
    by-begins P Q kept more anew run false is = go (runs timer (seen events)) refl (is_anew c service tei timer (seen events) q what) refl
      where
        go : (r : Bool) → runs timer (seen events) ≡ r → (a : Bool) → is_anew c service tei timer (seen events) q what ≡ a → IsDue timer then_clock Q
        go false er a ea = absurd (true≢false (sym (ap (λ b. not b || is_anew c service tei timer (seen events) q what) er) ∙ is))
        go true er true ea = absurd (true≢false (sym (ap (λ b. not b || is_anew c service tei timer (seen events) q what) er ∙ ea) ∙ is))
        go true er false ea =
            let h = kept er ea in (
              h.0,
              moment-then ∙ ap (λ b. cond (runs timer q && b) (Some (t.clock.now + duration lengths (its timer))) (cond (runs timer (seen events) && not (runs timer q)) None (moment_of number (its timer) t.clock.running))) is
                  ∙ ap (λ r. cond (r && false) (Some (t.clock.now + duration lengths (its timer))) (cond (runs timer (seen events) && not r) None (moment_of number (its timer) t.clock.running))) run ∙ ap (λ r. cond (r && false) None (moment_of number (its timer) t.clock.running)) er ∙ h.1,
              subst (λ n. n ≤ h.0 + late) (sym now-then) h.2,
              more run h.0 h.2 h.3,
            )

    pub step : (P Q : ℕ → Type 0) → (runs timer (seen events) ≡ true → is_anew c service tei timer (seen events) q what ≡ false → IsDue timer t.clock P)
        → (runs timer q ≡ true → (m : ℕ) → t.clock.now ≤ m + late → P m → Q m) → (begins ≡ true → runs timer q ≡ true → Q (t.clock.now + duration lengths (its timer)))
        → Holds timer (events ++ at number what ∷ []) then_clock Q
    step P Q kept more anew run = by-begins P Q kept more anew (ap (runs timer) (sym q-is) ∙ run) begins refl
