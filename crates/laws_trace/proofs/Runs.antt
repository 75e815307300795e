-- What holds of every event of a line, and of what it shows, holds of the trace of a run.
use Rattle.laws_trace.proofs.Vocabulary.{false, true≢false, ◌∙◌}
use Rattle.laws_trace.proofs.Vocabulary.{◌≡◌, ◌≢◌, ℕ, ◌==◌, Bool, true, cond, List, [], ◌∷◌, ◌++◌, get_or, refl, sym, subst, arith, eq-eqb, and_parts, get_or-set_same, get_or-set_other, All-head, All-tail, PoolFull, Config, refused, Line, fresh_line, Card, line_at, is_full, moments, after_is_sound, has_lines, by_room, line_sound, eqb-true, CardEvent as Event, after, card_answer as answer}
use Rattle.laws_trace.proofs.Vocabulary.{after_all, IsAtLine, AreAtLines, CardIsSound as IsSound, Seen, seen, trace}
use Rattle.model_line.specs.Event as line_event
use Rattle.model_line.specs.Machine as lines
use Rattle.model_line.specs.Sound as line

-- A request that finds the pool full shows nothing, and no other event does find it.
pub nothing-seen : (c : Config) (e : line_event.Event) (l : Line) → lines.takes_slot c e l ≡ true → seen e (refused PoolFull) ≡ []
unfolding lines.takes_slot
nothing-seen c e l takes = grind arith

-- An event of one line leaves the others as they are.
pub apart : (card : Card) (e : Event) (other : ℕ) → other ≢ e.line → line_at other (after e card) ≡ line_at other card
apart card e other away = grind (arith, by_room, get_or-set_other)

-- An invariant of lines, and what a trace is to the line before it and the one after it.
module _ (Stands : Config → Line → Type 0) (Shows : Config → Line → List Seen → Line → Type 0)
    (rests : (c : Config) (l : Line) → Shows c l [] l)
    (joins : (c : Config) (k l m : Line) (t u : List Seen) → Shows c k t l → Shows c l u m → Shows c k (t ++ u) m)
    (steps : (c : Config) → line.IsInRange c → (e : line_event.Event) (l : Line) → line.IsSound c l → Stands c l
    → Shows c l (seen e (lines.answer c e l)) (lines.after c e l) × Stands c (lines.after c e l)) where
  abbrev Both : Config → Line → List Seen → Line → Type 0
  Both c l t m = Shows c l t m × Stands c m

  own-line : (card : Card) (e : Event) → IsSound card → IsAtLine card e → Stands card.config (line_at e.line card)
      → Both card.config (line_at e.line card) (seen e.what (answer e card)) (line_at e.line (after e card))
  own-line card e s here stands =
      let c = card.config in
      let l = line_at e.line card in
      by_room (λ ls a. Both c l (seen e.what a) (get_or ls e.line (fresh_line c))) e card
      (λ full. (
        subst (λ t. Shows c l t l) (sym (nothing-seen c e.what l (and_parts (lines.takes_slot c e.what l) (is_full card) full).0)) (rests c l),
        stands,
      ))
      (λ room.
      subst (λ (x : Line). Both c l (seen e.what (lines.answer c e.what l)) x)
      (sym (get_or-set_same card.lines e.line (lines.after c e.what l) (fresh_line c) (omega (arith, s.count, here))))
      (steps c s.config e.what l (line_sound card e.line (has_lines card s) here) stands))

  moment : (card : Card) (e : Event) (number : ℕ) → IsSound card → IsAtLine card e → Stands card.config (line_at number card)
      → (b : Bool) → (e.line == number) ≡ b
      → Both card.config (line_at number card) (cond b (seen e.what (answer e card)) []) (line_at number (after e card))
  moment card e number s here stands true is =
      subst (λ n. Both card.config (line_at n card) (seen e.what (answer e card)) (line_at n (after e card))) (eqb-true e.line number is)
      (own-line card e s here (subst (λ n. Stands card.config (line_at n card)) (sym (eqb-true e.line number is)) stands))
  moment card e number s here stands false other =
      subst (λ (x : Line). Both card.config (line_at number card) [] x) (sym (apart card e number (λ same. true≢false (sym (eq-eqb e.line number (sym same)) ∙ other))))
      (rests card.config (line_at number card), stands)

  pub run-shows : (card : Card) (events : List Event) (number : ℕ) → IsSound card → AreAtLines card events → Stands card.config (line_at number card)
      → Both card.config (line_at number card) (trace number (moments card events)) (line_at number (after_all card events))
  unfolding moments after_all
  run-shows card [] number s all stands = (rests card.config (line_at number card), stands)
  run-shows card (e ∷ events) number s all stands =
      let here = All-head (IsAtLine card) e events all in
      let first = moment card e number s here stands (e.line == number) refl in
      let rest = run-shows (after e card) events number (after_is_sound card e s here) (All-tail (IsAtLine card) e events all) first.1 in (
        joins card.config (line_at number card) (line_at number (after e card)) (line_at number (after_all (after e card) events))
            (cond (e.line == number) (seen e.what (answer e card)) []) (trace number (moments (after e card) events)) first.0 rest.0,
        rest.1,
      )
