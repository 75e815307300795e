-- A caller that obeys the orders runs the timers that are needed: over runs of a card.
use Rattle.laws_line.proofs.Vocabulary.{◌≡◌, ℕ, ◌<◌, ◌==◌, Bool, true, false, cond, List, [], ◌∷◌, get_or, set, refl, sym, ap, ◌∙◌, subst, arith, eq-eqb, true≢false, and_parts, get_or-set_same, get_or-replicate, All-head, All-tail, Timer, Config, Line, fresh_line, Card, line_at, is_full, moments, after_all, IsAtLine, AreAtLines, after_is_sound, moment_of, has_lines, by_room, line_sound, eqb-true}
use Rattle.laws_line.proofs.Vocabulary.{is_needed, runs_then, left_by, HaveTheirTimers, CardEvent as Event, card_fresh as fresh, card_after as after, card_answer as answer, CardIsSound as IsSound, RunsWhatIsNeeded, line_one_more as one_more, runs_at_callers, AllHaveTheirTimers}
use Rattle.model_line.specs.Event as line_event
use Rattle.model_line.specs.Machine as lines
use Rattle.laws_line.proofs.TimersFollow.{timely-line, followed, begins-timely, begins-with-none}
use Rattle.laws_line.proofs.OfCard.Meanwhile.{at-another}

-- a request that finds the pool full is no expiry, and orders nothing
module _ (card : Card) (e : Event) (s : IsSound card) (timely : AllHaveTheirTimers card) (here : IsAtLine card e) where
  abbrev l : Line
  l = line_at e.line card

  abbrev own : Line
  own = lines.after card.config e.what l

  now : get_or (set card.lines e.line own) e.line (fresh_line card.config) ≡ own
  now = get_or-set_same card.lines e.line own (fresh_line card.config) (omega (arith, s.count, here))

  left-by : (what : line_event.Event) → lines.takes_slot card.config what (line_at e.line card) ≡ true → (timer : Timer) (b : Bool) → left_by what timer b ≡ b
  unfolding lines.takes_slot
  left-by what takes timer b = grind arith

  -- at the event's line
  own-line : (timer : Timer) → runs_then timer (is_needed timer (line_at e.line card)) e.what (answer e card) ≡ is_needed timer (line_at e.line (after e card))
  own-line timer =
      by_room (λ ls a. runs_then timer (is_needed timer (line_at e.line card)) e.what a ≡ is_needed timer (get_or ls e.line (fresh_line card.config))) e card
      (λ full. left-by e.what (and_parts (lines.takes_slot card.config e.what (line_at e.line card)) (is_full card) full).0 timer (is_needed timer (line_at e.line card)))
      (λ room.
      followed card.config e.what (line_at e.line card) timer s.config (line_sound card e.line (has_lines card s) here) (timely.lines e.line here)
      ∙ ap (is_needed timer) (sym now))

  -- at any line
  pub moment-runs : (line : ℕ) (timer : Timer) → one_more line timer (is_needed timer (line_at line card)) (moment_of card e) ≡ is_needed timer (line_at line (after e card))
  moment-runs line timer = go (e.line == line) refl
    where
      go : (b : Bool) → (e.line == line) ≡ b → cond b (runs_then timer (is_needed timer (line_at line card)) e.what (answer e card)) (is_needed timer (line_at line card))
          ≡ is_needed timer (line_at line (after e card))
      go true is = subst (λ n. runs_then timer (is_needed timer (line_at n card)) e.what (answer e card) ≡ is_needed timer (line_at n (after e card))) (eqb-true e.line line is) (own-line timer)
      go false other = ap (is_needed timer) (sym (at-another card line e (λ same. true≢false (sym (eq-eqb e.line line (sym same)) ∙ other))))

  own-timely : HaveTheirTimers (line_at e.line (after e card))
  own-timely =
      by_room (λ ls a. HaveTheirTimers (get_or ls e.line (fresh_line card.config))) e card (λ full. timely.lines e.line here)
      (λ room.
      subst (λ (x : Line). HaveTheirTimers x) (sym now)
      (timely-line card.config e.what (line_at e.line card) s.config (line_sound card e.line (has_lines card s) here) (timely.lines e.line here)))

  pub timely-after : AllHaveTheirTimers (after e card)
  timely-after = record { lines = λ line within. go line within (line == e.line) refl }
    where
      go : (line : ℕ) → line < card.config.lines → (b : Bool) → (line == e.line) ≡ b → HaveTheirTimers (line_at line (after e card))
      go line within true is = subst (λ n. HaveTheirTimers (line_at n (after e card))) (sym (eqb-true line e.line is)) own-timely
      go line within false other =
          subst (λ (x : Line). HaveTheirTimers x) (sym (at-another card line e (λ same. true≢false (sym (eq-eqb line e.line same) ∙ other)))) (timely.lines line within)

-- Over a run.
pub needed-run : (card : Card) (events : List Event) → IsSound card → AllHaveTheirTimers card → AreAtLines card events → RunsWhatIsNeeded card events
unfolding moments after_all
needed-run card [] s timely all line timer within = refl
needed-run card (e ∷ events) s timely all line timer within =
    let here = All-head (IsAtLine card) e events all in
    ap (λ b. runs_at_callers line timer b (moments (after e card) events)) (moment-runs card e s timely here line timer)
    ∙ needed-run (after e card) events (after_is_sound card e s here) (timely-after card e s timely here) (All-tail (IsAtLine card) e events all) line timer within

pub timely-all : (card : Card) (events : List Event) → IsSound card → AllHaveTheirTimers card → AreAtLines card events → AllHaveTheirTimers (after_all card events)
unfolding after_all
timely-all card [] s timely all = timely
timely-all card (e ∷ events) s timely all =
    let here = All-head (IsAtLine card) e events all in
    timely-all (after e card) events (after_is_sound card e s here) (timely-after card e s timely here) (All-tail (IsAtLine card) e events all)

pub needs-none : (c : Config) (line : ℕ) (timer : Timer) → line < c.lines → is_needed timer (line_at line (fresh c)) ≡ false
needs-none c line timer within = ap (is_needed timer) (get_or-replicate c.lines line (fresh_line c) (fresh_line c) within) ∙ begins-with-none c timer

pub begins-timely-card : (c : Config) → AllHaveTheirTimers (fresh c)
begins-timely-card c = grind (arith, get_or-replicate, begins-timely)
