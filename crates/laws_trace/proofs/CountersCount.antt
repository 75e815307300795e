-- Counters count what is seen: the law.
use Rattle.laws_trace.proofs.Vocabulary.{◌≡◌, ℕ, ◌==◌, Bool, cond, List, [], ◌∷◌, ◌++◌, refl, ap, ◌∙◌, append-nil, flat_map, More, Side, Config, shown, answer_shown, Answer, Card, after, moments, arith, CardEvent as Event, card_answer as answer, Moment, notes_of, lost_in, trace_frame_in as frame_in}
use Rattle.std.specs.Prelude.{map}
use Rattle.std.specs.Option.{option_map_or}
use Rattle.lapd_count.specs.declared.counter.Counter.TheVariants.{Dropped}
use Rattle.lapd_count.specs.Shown.{begun_shown, note_shown, lost_shown}
use Rattle.model_card.specs.Counted.{all_shown}
use Rattle.model_line.specs.Event as line_event
use Rattle.model_line.specs.Laws.{cause_in}
use Rattle.laws_trace.specs.CountersCount.{names, CountersCount}

-- What an answer shows.
abbrev answer_names : Side → Answer → List More
answer_names side a =
    flat_map (begun_shown side) (frame_in a) ++ map note_shown (notes_of a)
    ++ option_map_or (λ cause. (Dropped cause, 1) ∷ []) (cause_in a) [] ++ lost_shown (lost_in a)

of-answer : (side : Side) (a : Answer) → answer_shown side a ≡ answer_names side a
of-answer side a = grind (arith, append-nil)

of-event : (c : Config) (e : line_event.Event) (a : Answer) → shown c e a ≡ names c.side e a
of-event c e a = grind (arith, of-answer, append-nil)

-- At a line, and nothing at another;
there : (c : Config) (e : line_event.Event) (a : Answer) (b : Bool) → cond b (shown c e a) [] ≡ cond b (names c.side e a) []
there c e a b = grind (arith, of-event)

-- and so in all moments of a run.
abbrev named_in : Side → ℕ → Moment → List More
named_in side number m = cond (m.event.line == number) (names side m.event.what m.answer) []

run-counts : (number : ℕ) (card : Card) (events : List Event) → all_shown number (moments card events) ≡ flat_map (named_in card.config.side number) (moments card events)
unfolding moments
run-counts number card [] = refl
run-counts number card (e ∷ events) =
    let a : Answer = answer e card in
    let b : Bool = e.line == number in
    ap (λ xs. xs ++ all_shown number (moments (after e card) events)) (there card.config e.what a b)
    ∙ ap (λ xs. cond b (names card.config.side e.what a) [] ++ xs) (run-counts number (after e card) events)

pub counters-count : CountersCount
counters-count card events number = run-counts number card events
