-- Counters count what is seen, and what is dropped.
use Rattle.std.specs.Prelude.{◌≡◌, ℕ, ◌==◌, List, [], ◌∷◌, ◌++◌, map, flat_map, Some, if◌then◌else◌}
use Rattle.std.specs.Option.{option_map_or}
use Rattle.lapd_count.specs.declared.counter.Counter.TheVariants.{Dropped}
use Rattle.lapd_count.specs.Counters.{More}
use Rattle.lapd_count.specs.Shown.{begun_shown, heard_shown, note_shown, lost_shown}
use Rattle.lapd_frame.specs.declared.addresses.Side.{Side}
use Rattle.model_line.specs.Event as line_event
use Rattle.model_line.specs.Event.{Answer}
use Rattle.model_line.specs.Laws.{cause_in}
use Rattle.laws_line.specs.Frames.{lost_in}
use Rattle.laws_line.specs.Heard.{notes_of}
use Rattle.model_card.specs.Card.{Card}
use Rattle.model_card.specs.Counted.{all_shown}
use Rattle.model_card.specs.Event.{Event}
use Rattle.model_card.specs.Run.{Moment, moments}
use Rattle.laws_trace.specs.Trace.{frame_in}
use Rattle.laws_trace.specs.Words.{heard_in}

-- The names of what is seen: of a frame that is heard or begins its kind, its octets, whether it is a poll, and which message of
-- TEI management it has, if any; of each note its own; the cause of a drop, as `CausesAreTold` has it; and how many frames were
-- lost.
abbrev pub names : Side → line_event.Event → Answer → List More
names side what a =
    flat_map (λ e. heard_shown side (Some e)) (heard_in what) ++ (flat_map (begun_shown side) (frame_in a) ++ map note_shown (notes_of a)
    ++ option_map_or (λ cause. (Dropped cause, 1) ∷ []) (cause_in a) [] ++ lost_shown (lost_in a))

-- Just these the moments of a run at a line show to its counters, in order.
abbrev pub CountersCount : Type 0
CountersCount =
    (card : Card) (events : List Event) (number : ℕ) → let ms = moments card events in
    all_shown number ms ≡ flat_map (λ (m : Moment). if m.event.line == number then names card.config.side m.event.what m.answer else []) ms
