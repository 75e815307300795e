-- A law of the machine holds at a line of a card.
use Rattle.lapd_card.proofs.Vocabulary.{ℕ, ◌<◌, sym, subst, Card, IsSound, reached-sound, Store, Held, line_count, FrameStands}

-- a law of every sound card and line holds of a line of the card
pub at_line : {S : Type 0} (store : S → Store) {card : Held S} {line : ℕ} → line < line_count card → {P : Card → Type 0} → ((m : Card) → IsSound m → line < m.config.lines → P m) → (m : Card) → FrameStands store card m → P m
at_line store {line = line} within law m s = law m (reached-sound m s.reached) (subst (λ c. line < c.lines) (sym s.config) within)
