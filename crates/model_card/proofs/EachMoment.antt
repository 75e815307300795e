-- What holds of every sound card and event at a line of it holds in every moment of a run.
use Rattle.model_card.proofs.Vocabulary.{List, [], ◌∷◌, All, All-nil, All-cons, All-head, All-tail, Card, Event, after, answer, Moment, moments, IsAtLine, AreAtLines, IsSound, arith}
use Rattle.model_card.proofs.CardSound.{after_is_sound}

abbrev pub moment_of : Card → Event → Moment
moment_of card e = record { card = card; event = e; answer = answer e card }

pub each_moment : (P : Moment → Type 0) → ((card : Card) (e : Event) → IsSound card → IsAtLine card e → P (moment_of card e))
    → (card : Card) (events : List Event) → IsSound card → AreAtLines card events → All P (moments card events)
unfolding moments
each_moment P one card [] s within = All-nil P
each_moment P one card (e ∷ events) s within =
    let here = All-head (IsAtLine card) e events within in
    All-cons P (moment_of card e) (moments (after e card) events) (one card e s here)
    (each_moment P one (after e card) events (after_is_sound card e s here) (All-tail (IsAtLine card) e events within))

-- and so does what holds of every card and event
pub every_moment : (P : Moment → Type 0) → ((card : Card) (e : Event) → P (moment_of card e))
    → (card : Card) (events : List Event) → All P (moments card events)
unfolding moments
every_moment P one card [] = All-nil P
every_moment P one card (e ∷ events) = grind (arith, All-cons, (every_moment P one (after e card) events))
