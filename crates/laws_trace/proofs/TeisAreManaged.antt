-- TEIs are managed as the procedures say: runs of a card, and the law.
use Rattle.laws_trace.proofs.Vocabulary.{◌≡◌, ℕ, zero, suc, ◌%◌, ◌<◌, ◌==◌, Bool, true, false, cond, List, [], ◌∷◌, get_or, replicate, None, refl, sym, ap, ◌∙◌, subst, arith, eq-eqb, true≢false, fold, and_parts, option_map_or, get_or-replicate, get_or-set_same, All-head, All-tail, PoolFull, Config, Answer, refused, Line, Management, fresh_line, IsInRange, Card, line_at, is_full, at}
use Rattle.laws_trace.proofs.Vocabulary.{after_is_sound, fresh_is_sound, has_lines, by_room, config-stays, eqb-true}
use Rattle.laws_trace.proofs.Vocabulary.{fresh, CardEvent as Event, after, card_answer as answer, after_all, IsAtLine, AreAtLines, always_sound, line_sound as sound-at, Managed, none_on, nothing_due, due, led, managed_after, managing_by_event as by_event, TeisAreManaged, Always, CardIsSound as IsSound, IsSound as IsSoundLine, Request}
use Rattle.std.specs.Option.{unwrap_or}
use Rattle.model_line.specs.Event as line_event
use Rattle.model_line.specs.Line.{Own, is_terminal}
use Rattle.model_line.specs.Machine as lines
use Rattle.model_line.specs.Requested.{carries_contents}
use Rattle.laws_trace.specs.Managing.{at_terminal, of_terminal}
use Rattle.laws_trace.specs.ManagingTerminal as terminal
use Rattle.laws_trace.specs.ManagingTerminal.{teis_of}
use Rattle.laws_trace.proofs.FollowsRequests.{network-event-shows}
use Rattle.laws_trace.proofs.FollowsTerminal.{known}
use Rattle.laws_trace.proofs.FollowsTerminalRequests.{terminal-event-shows}
use Rattle.laws_trace.proofs.ManagingPlaces.{none-placed}
use Rattle.laws_trace.proofs.ManagingTables.{none-on}
use Rattle.laws_trace.proofs.Runs.{apart}
use Rattle.laws_trace.proofs.Tracked.{OfSide, Tracks, TracksLine, Shows, IsQuiet, none-granted}

-- What is known is so while nothing is due.
kept-quiet : (c : Config) (w : Managed) (m : Management) (own : Own) → Tracks c w m own → Tracks c (nothing_due w) m own
kept-quiet c w m own x = grind (arith, nothing_due)

is-quiet : (w : Managed) → IsQuiet (nothing_due w)
is-quiet w = record { notes = refl; orders = refl; lost = refl; begins = refl; granted = refl }

-- Any event of a line, of whatever side.
pub event-shows : (c : Config) (l : Line) → IsSoundLine c l → (w : Managed) → Tracks c w l.management l.own → (e : line_event.Event) → Shows c l e (due c e w) (lines.answer c e l) (lines.after c e l)
event-shows c l s w h e = go (is_terminal c) refl (kept-quiet c w l.management l.own h).side
  where
    go : (b : Bool) → is_terminal c ≡ b → OfSide c b (nothing_due w) l.management l.own
        → Shows c l e (cond b (at_terminal c e (nothing_due w)) (by_event c e (nothing_due w))) (lines.answer c e l) (lines.after c e l)
    go false net x = network-event-shows c l s net (nothing_due w) x e
    go true is x =
        subst (λ k. Shows c l e (option_map_or (of_terminal (nothing_due w)) (terminal.by_event c e k) (nothing_due w)) (lines.answer c e l) (lines.after c e l)) (sym x.own_is)
        (terminal-event-shows c l s is (nothing_due w) (is-quiet w) x e)

-- A request that finds the pool full shows nothing, and is none of management.
abbrev Answers : Config → Line → Managed → line_event.Event → Answer → Line → Type 0
Answers c l w e a new = Shows c l e (due c e w) a new

none-due : (c : Config) (r : Request) (w : Managed) → carries_contents r ≡ true → due c (line_event.request r) w ≡ nothing_due w
none-due c r w carries = grind arith

refused-shows : (c : Config) (e : line_event.Event) (l : Line) (w : Managed) → lines.takes_slot c e l ≡ true → Tracks c w l.management l.own → Answers c l w e (refused PoolFull) l
unfolding lines.takes_slot
refused-shows c e l w takes h = grind (arith, refused, none-due, and_parts, none-granted, nothing_due, kept-quiet, true≢false)

pub own-shows : (k : Card) (e : Event) (w : Managed) → IsSound k → IsAtLine k e → TracksLine k.config w (line_at e.line k)
    → Answers k.config (line_at e.line k) w e.what (answer e k) (line_at e.line (after e k))
own-shows k e w s here h =
    let c = k.config in
    let l = line_at e.line k in
    by_room (λ ls a. Answers c l w e.what a (get_or ls e.line (fresh_line c))) e k
    (λ full. refused-shows c e.what l w (and_parts (lines.takes_slot c e.what l) (is_full k) full).0 h)
    (λ room.
    subst (λ (x : Line). Answers c l w e.what (lines.answer c e.what l) x) (sym (get_or-set_same k.lines e.line (lines.after c e.what l) (fresh_line c) (omega (arith, s.count, here))))
    (event-shows c l (sound-at k e.line (has_lines k s) here) w h e.what))

-- The observer follows each moment,
pub moment-follows : (k : Card) (e : Event) (number : ℕ) (w : Managed) → IsSound k → IsAtLine k e → TracksLine k.config w (line_at number k)
    → TracksLine k.config (cond (e.line == number) (due k.config e.what w) w) (line_at number (after e k))
moment-follows k e number w s here h = go (e.line == number) refl
  where
    go : (b : Bool) → (e.line == number) ≡ b → TracksLine k.config (cond b (due k.config e.what w) w) (line_at number (after e k))
    go true is =
        let same = eqb-true e.line number is in
        subst (λ n. TracksLine k.config (due k.config e.what w) (line_at n (after e k))) same
        (own-shows k e w s here (subst (λ n. TracksLine k.config w (line_at n k)) (sym same) h)).follows
    go false other =
        subst (TracksLine k.config w) (sym (apart k e number (λ same. true≢false (sym (eq-eqb e.line number (sym same)) ∙ other)))) h

-- and so a run.
run-follows : (k : Card) (events : List Event) (number : ℕ) (w : Managed) → IsSound k → AreAtLines k events → TracksLine k.config w (line_at number k)
    → TracksLine k.config (fold (led k.config number) w events) (line_at number (after_all k events))
unfolding after_all
run-follows k [] number w s all h = h
run-follows k (e ∷ events) number w s all h =
    let here = All-head (IsAtLine k) e events all in
    run-follows (after e k) events number (cond (e.line == number) (due k.config e.what w) w) (after_is_sound k e s here) (All-tail (IsAtLine k) e events all)
    (moment-follows k e number w s here h)

none-there : (n : ℕ) → [] ≡ teis_of (replicate n None)
none-there zero = refl
none-there (suc n) = none-there n

pub fresh-follows : (c : Config) → TracksLine c none_on (fresh_line c)
fresh-follows c = record { on = none-on c.terminals; side = go (is_terminal c) refl }
  where
    go : (b : Bool) → is_terminal c ≡ b → OfSide c b none_on (fresh_line c).management (fresh_line c).own
    go false net = record { is = refl; on = none-on c.terminals; placed = none-placed c.terminals; order = tt }
    go true is = record {
      own_is = ap (λ b. known (record { reading = c.reading; places = replicate c.terminals None; number = cond b (unwrap_or c.seed 0 % 65536) 0; procedure = None; waiting = [] })) (sym is);
      on_is = none-there c.terminals;
      owed = refl;
    }

pub follows-now : (c : Config) (events : List Event) (number : ℕ) → IsInRange c → AreAtLines (fresh c) events → number < c.lines
    → TracksLine c (managed_after c number events) (line_at number (after_all (fresh c) events))
follows-now c events number ranged all within =
    run-follows (fresh c) events number none_on (fresh_is_sound c ranged) all
    (subst (TracksLine c none_on) (sym (get_or-replicate c.lines number (fresh_line c) (fresh_line c) within)) (fresh-follows c))

-- What an event behind them shows.
pub shows-behind : (c : Config) (events : List Event) (number : ℕ) → IsInRange c → AreAtLines (fresh c) events → number < c.lines → (what : line_event.Event)
    → let k = after_all (fresh c) events in Answers c (line_at number k) (managed_after c number events) what (answer (at number what) k) (line_at number (after (at number what) k))
shows-behind c events number ranged all within what =
    let k = after_all (fresh c) events in
    let kept = config-stays (fresh c) events in
    subst (λ (d : Config). Answers d (line_at number k) (managed_after c number events) what (answer (at number what) k) (line_at number (after (at number what) k))) kept
    (own-shows k (at number what) (managed_after c number events) (always_sound (fresh c) events (fresh_is_sound c ranged) all) (subst (λ (d : Config). number < d.lines) (sym kept) within)
    (subst (λ (d : Config). TracksLine d (managed_after c number events) (line_at number k)) (sym kept) (follows-now c events number ranged all within)))

pub teis-are-managed : Always TeisAreManaged
teis-are-managed c events number ranged all within what = (shows-behind c events number ranged all within what).as_due
