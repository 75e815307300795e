-- When the state of a link changed last, on a card that keeps its own timers.
use Rattle.std.specs.Prelude.{◌≡◌, ℕ, ◌==◌, List, [], ◌∷◌, Option, None, Some, is_some, if◌then◌else◌}
use Rattle.std.specs.Option.{option_or, unwrap_or}
use Rattle.lapd_clock.specs.Timer.{Lengths}
use Rattle.model_link.specs.Link.{state_number}
use Rattle.model_line.specs.Line.{Line, tei_at, place_at, link_at}
use Rattle.model_line.specs.declared.config.Config.{Config}
use Rattle.model_card.specs.Card as cards
use Rattle.model_card.specs.Card.{line_at}
use Rattle.model_card.specs.ports.Card.{OctetCard}
use Rattle.model_timed.specs.Clock.{with_lengths}
use Rattle.model_timed.specs.Timed.{Kind, Timed, Step, after, after_all}

-- The state of a link, by the link's number: 4 to 8 (Q.921, annex B). Where the TEI of its place is not on the line, it is 0,
-- which counts as one state more (profile).
abbrev pub standing : ℕ → Line → ℕ
standing number l = if is_some (tei_at (place_at number) l) then state_number (link_at number l).state else 0

-- What is noted of a link: its state, and the moment at which this became so; 0 if it has been so since the start.
pub record Mark : Type 0 where
  pub state : ℕ
  pub moment : ℕ

-- That of each link of a card, by its line and its number.
abbrev pub Marks : Type 0
Marks = ℕ → ℕ → Mark

-- As a card begins: no TEI is on a line.
abbrev pub unmarked : Marks
unmarked line number = record { state = 0; moment = 0 }

-- A link is seen in a state at a moment: its mark stays if that is the state noted, and else it is another from then on.
abbrev pub seen : ℕ → ℕ → Mark → Mark
seen now state before = if before.state == state then before else record { state = state; moment = now }

-- All links of a card are.
abbrev pub noted : ℕ → cards.Card → Marks → Marks
noted now card marks line number = seen now (standing number (line_at line card)) (marks line number)

-- The card of frames that is seen, in a card of either kind; and the marks after a step, and after a list of them.
abbrev pub Seen : Type 0 → Type 0
Seen Card = Card → cards.Card

abbrev pub itself : Seen cards.Card
itself card = card

abbrev pub inside : Seen OctetCard
inside m = m.card

abbrev pub marked : {Card : Type 0} → Seen Card → Timed Card → Marks → Marks
marked of t marks = noted t.clock.now (of t.card) marks

unfoldable pub marks_after : {Card Event : Type 0} → Kind Card Event → Seen Card → List (Step Event) → Timed Card → Marks → Marks
marks_after k of [] t marks = marks
marks_after k of (s ∷ steps) t marks = marks_after k of steps (after k s t) (marked of (after k s t) marks)

-- Said of the steps alone: the moment of a step, if the state of a link is another after it than before; and that of the last
-- step by which it became another.
abbrev pub standing_in : cards.Card → ℕ → ℕ → ℕ
standing_in card line number = standing number (line_at line card)

abbrev pub changed_by : {Card : Type 0} → Seen Card → Timed Card → Timed Card → ℕ → ℕ → Option ℕ
changed_by of before t line number =
    if standing_in (of before.card) line number == standing_in (of t.card) line number then None else Some t.clock.now

unfoldable pub last_change : {Card Event : Type 0} → Kind Card Event → Seen Card → List (Step Event) → Timed Card → ℕ → ℕ → Option ℕ
last_change k of [] t line number = None
last_change k of (s ∷ steps) t line number = option_or (last_change k of steps (after k s t) line number) (changed_by of t (after k s t) line number)

-- What is noted of a link is true: it is the link's state.
abbrev pub AreTrue : {Card : Type 0} → Seen Card → Timed Card → Marks → Type 0
AreTrue of t marks = (line number : ℕ) → (marks line number).state ≡ standing_in (of t.card) line number

-- So it is at a fresh card. From any card of which it is, after any steps it is so again; and the moment noted of a link is that of
-- the last step by which its state became another, or what it was before if there is none. Other lengths change neither a card nor
-- what is noted: so this goes on over any list between whose steps lengths are set.
pub record ChangesAreTold {Card Event : Type 0} (k : Kind Card Event) (of : Seen Card) (fresh : Config → Lengths → Timed Card) : Type 0 where
  pub fresh_is : (c : Config) (lengths : Lengths) → AreTrue of (fresh c lengths) unmarked
  pub state : (t : Timed Card) (marks : Marks) (steps : List (Step Event)) → AreTrue of t marks → AreTrue of (after_all k steps t) (marks_after k of steps t marks)
  pub moment : (t : Timed Card) (marks : Marks) (steps : List (Step Event)) (line number : ℕ) → AreTrue of t marks
      → (marks_after k of steps t marks line number).moment ≡ unwrap_or (last_change k of steps t line number) (marks line number).moment
  pub lengths : (t : Timed Card) (marks : Marks) (lengths : Lengths) → AreTrue of t marks → AreTrue of (record t { clock = with_lengths lengths t.clock }) marks
