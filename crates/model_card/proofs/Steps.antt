-- An event at a card is one at one of its lines, or finds the pool full.
use Rattle.model_card.proofs.Vocabulary.{◌≡◌, ◌==◌, ℕ, eqb-true, eq-eqb, and_parts, get_or-set_same, get_or-set_other, ◌+◌, ◌<◌, Bool, true, false, List, ◌∷◌, length, set, ◌∙◌, cond, arith, length-set, sum_by, count_by, All, length-replicate, All-set, All-replicate, sum_by-set, sum_by-cons, PoolFull, Config, Answer, refused, Line, fresh_line, after_sound, fresh_sound, Event, Card, fresh, line_at}
use Rattle.model_card.proofs.Vocabulary.{wants_room, after, answer, IsSound}
use Rattle.model_line.specs.Machine as lines
use Rattle.model_line.specs.Sound as line

-- A card of sound lines.
pub record HasLines (card : Card) : Type 0 where
  pub config : line.IsInRange card.config
  pub count : length card.lines ≡ card.config.lines
  pub lines : All (line.IsSound card.config) card.lines

pub has_lines : (card : Card) → IsSound card → HasLines card
has_lines card s = record { config = s.config; count = s.count; lines = s.lines }

-- What an event is to a card: either it finds the pool full, or it is one of its line.
pub by_room : (P : List Line → Answer → Type 0) (e : Event) (card : Card)
    → (wants_room e card ≡ true → P card.lines (refused PoolFull))
    → (wants_room e card ≡ false → P (set card.lines e.line (lines.after card.config e.what (line_at e.line card))) (lines.answer card.config e.what (line_at e.line card)))
    → P (after e card).lines (answer e card)
by_room P e card full served = grind arith

pub line_sound : (card : Card) (number : ℕ) → HasLines card → number < card.config.lines → line.IsSound card.config (line_at number card)
line_sound card number h within = grind arith

-- What an event is to one line of a card: nothing if it is at another line, else as to the card.
by_line_there : (card : Card) (e : Event) (number : ℕ) → e.line < length card.lines → (P : Bool → Line → Answer → Type 0)
    → ((a : Answer) → P false (line_at number card) a)
    → (lines.takes_slot card.config e.what (line_at number card) ≡ true → P true (line_at number card) (refused PoolFull))
    → (e.line ≡ number → wants_room e card ≡ false
    → P true (lines.after card.config e.what (line_at number card)) (lines.answer card.config e.what (line_at number card)))
    → P (e.line == number) (line_at number (after e card)) (answer e card)
by_line_there card e number here P elsewhere full served = grind (arith, by_room, eqb-true, and_parts, eq-eqb, get_or-set_other, get_or-set_same)

pub by_line : (card : Card) (e : Event) (number : ℕ) → HasLines card → e.line < card.config.lines → (P : Bool → Line → Answer → Type 0)
    → ((a : Answer) → P false (line_at number card) a)
    → (lines.takes_slot card.config e.what (line_at number card) ≡ true → P true (line_at number card) (refused PoolFull))
    → (e.line ≡ number → wants_room e card ≡ false
    → P true (lines.after card.config e.what (line_at number card)) (lines.answer card.config e.what (line_at number card)))
    → P (e.line == number) (line_at number (after e card)) (answer e card)
by_line card e number h here = let count = h.count in by_line_there card e number (omega (arith, count, here))

pub after_lines : (e : Event) (card : Card) → HasLines card → e.line < card.config.lines → HasLines (after e card)
after_lines e card h within =
    by_room (λ ls a. HasLines (record { config = card.config; lines = ls })) e card
    (λ full. record { config = h.config; count = h.count; lines = h.lines })
    (λ served. record {
      config = h.config;
      count = length-set card.lines e.line _ ∙ h.count;
      lines =
          All-set (line.IsSound card.config) card.lines e.line (lines.after card.config e.what (line_at e.line card))
          (after_sound card.config h.config e.what (line_at e.line card) (line_sound card e.line h within)) h.lines;
    })

pub fresh_lines : (c : Config) → line.IsInRange c → HasLines (fresh c)
fresh_lines c ranged = record {
  config = ranged;
  count = length-replicate c.lines (fresh_line c);
  lines = All-replicate (line.IsSound c) c.lines (fresh_line c) (fresh_sound c ranged);
}

-- a sum over the lines, of which one is another
pub one_line : (f : Line → ℕ) (card : Card) (number : ℕ) (x : Line) → HasLines card → number < card.config.lines
    → sum_by f (set card.lines number x) + f (line_at number card) ≡ sum_by f card.lines + f x
one_line f card number x h within = sum_by-set f card.lines number x (fresh_line card.config) (omega (arith, h.count, within))

pub count_cons : {X : Type 0} (p : X → Bool) (x : X) (xs : List X) → count_by p (x ∷ xs) ≡ cond (p x) 1 0 + count_by p xs
count_cons p x xs = sum_by-cons (λ y. cond (p y) 1 0) x xs
