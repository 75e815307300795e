-- An event at a card that finds room is one of its line.
use Rattle.lapd_card.proofs.Vocabulary.{◌≡◌, ℕ, Bool, true, false, ◌&&◌, if◌then◌else◌, None, set, refl, sym, ap, ◌∙◌, none-some, PoolFull, Timer, Config, Request, refusal, refused_by_the_table, Card, line_at, is_full, at, wants_room, after}
use Rattle.model_bits.specs.Stream as stream
use Rattle.model_card.specs.Machine.{answer}
use Rattle.model_line.specs.Event as line_event
use Rattle.model_line.specs.Line as line
use Rattle.model_line.specs.Machine as lines

-- what takes no slot finds room
abbrev pub TakesNoSlot : line_event.Event → Type 0
TakesNoSlot e = (c : Config) (l : line.Line) → lines.takes_slot c e l ≡ false

pub heard_takes : (e : stream.Event) → TakesNoSlot (line_event.hears e)
unfolding lines.takes_slot
heard_takes e c l = refl

pub expiry_takes : (timer : Timer) → TakesNoSlot (line_event.expiry timer)
unfolding lines.takes_slot
expiry_takes timer c l = refl

pub next_takes : TakesNoSlot line_event.next
unfolding lines.takes_slot
next_takes c l = refl

pub has_room : (number : ℕ) (e : line_event.Event) → TakesNoSlot e → (m : Card) → wants_room (at number e) m ≡ false
has_room number e takes m = ap (λ b. b && is_full m) (takes m.config (line_at number m))

-- an event that finds room is one of its line
pub after_served : (number : ℕ) (e : line_event.Event) (m : Card) → wants_room (at number e) m ≡ false → after (at number e) m ≡ record m { lines = set m.lines number (lines.after m.config e (line_at number m)) }
after_served number e m room = ap (λ b. record m { lines = if b then m.lines else set m.lines number (lines.after m.config e (line_at number m)) }) room

pub answer_served : (number : ℕ) (e : line_event.Event) (m : Card) → wants_room (at number e) m ≡ false → answer (at number e) m ≡ lines.answer m.config e (line_at number m)
answer_served number e m room = ap (λ b. if b then line_event.refused PoolFull else lines.answer m.config e (line_at number m)) room

-- a request that is not refused does
pub accepted_has_room : (r : Request) (number : ℕ) (m : Card) → refusal m.config (is_full m) r (line_at number m) ≡ None → wants_room (at number (line_event.request r)) m ≡ false
accepted_has_room r number m none = go (wants_room (at number (line_event.request r)) m) refl
  where
    go : (b : Bool) → wants_room (at number (line_event.request r)) m ≡ b → b ≡ false
    go false is = refl
    go true is =
        let refused : answer (at number (line_event.request r)) m ≡ line_event.refused PoolFull =
        ap (λ b. if b then line_event.refused PoolFull else lines.answer m.config (line_event.request r) (line_at number m)) is in
        absurd (none-some PoolFull (sym none ∙ (refused_by_the_table.refused_exactly m number r PoolFull).0 refused))
