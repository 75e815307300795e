-- An expiry at a card starts at most one timer.
use Rattle.model_card.proofs.Vocabulary.{ℕ, ◌≤◌, Timer, expiry, orders_in, starts, Card, line_at, at, answer}
use Rattle.model_line.specs.Machine as lines
use Rattle.model_line.proofs.Starts as line

pub expiry_starts : (number : ℕ) (timer : Timer) (card : Card) → starts (orders_in (answer (at number (expiry timer)) card)) ≤ 1
unfolding lines.takes_slot
expiry_starts number timer card = line.expiry_starts card.config timer (line_at number card)
