-- What is noted of the links of a card with its timers, one step on.
use Rattle.std.proofs.Common.{◌≡◌, ◌≢◌, ℕ, ◌*◌, ◌<◌, Option, Some, None, refl, sym, ap, subst}
use Rattle.lapd_card.specs.FrameCard.{Held}
use Rattle.lapd_card.specs.FrameStands.{FrameStands}
use Rattle.lapd_card.specs.Kinds.{shelf_of}
use Rattle.lapd_store.specs.Store.{Store}
use Rattle.model_card.specs.Card.{Card, line_at}
use Rattle.model_card.specs.Event as frame
use Rattle.model_card.specs.Machine as machine
use Rattle.model_card.specs.Reached.{IsReached}
use Rattle.model_card.proofs.Reaching.{reached-sound}
use Rattle.model_line.specs.Machine as lines
use Rattle.model_timed.specs.Changes.{Marks, standing, noted}
use Rattle.model_timed.specs.Clock.{Clock}
use Rattle.lapd_timed.specs.Carried.{AreNoted}
use Rattle.lapd_timed.specs.Marked.{AreMarks}
use Rattle.lapd_timed.specs.Stands.{ChangesStand, ChangesStandIn, TimersStandIn}
use Rattle.lapd_timed.specs.declared.card_timers.CardTimers.{CardTimers}
use Rattle.lapd_timed.proofs.Marked.{nothing-noted}
use Rattle.lapd_timed.proofs.Touching.{KeepsOthers}
use Rattle.lapd_timed.proofs.Touched.{touched, untouched}

-- What was noted stays so while timers are started and stopped, and while the time goes on.
pub still-marked : {o : Option CardTimers} {old : CardTimers} → o ≡ Some old → (new : CardTimers) (m : Card) (marks : Marks) → new.lines ≡ old.lines → new.terminals ≡ old.terminals → new.changes ≡ old.changes
    → ChangesStandIn o m marks → ChangesStand new m marks
still-marked {old = old} is new m marks lines terminals changes stood =
    subst (λ n. AreMarks n (2 * new.terminals) new.changes m marks) (sym lines)
    (subst (λ n. AreMarks old.lines (2 * n) new.changes m marks) (sym terminals)
    (subst (λ h. AreMarks old.lines (2 * old.terminals) h m marks) (sym changes) (subst (λ o. ChangesStandIn o m marks) is stood)))

-- Where all links stand as they did, noting them changes nothing.
pub noted-same : (timers : Option CardTimers) (m new : Card) (now : ℕ) (marks : Marks) → new.config ≡ m.config → ((other number : ℕ) → standing number (line_at other new) ≡ standing number (line_at other m))
    → ChangesStandIn timers m marks → ChangesStandIn timers new (noted now new marks)
noted-same None m new now marks config same stood = absurd stood
noted-same (Some t) m new now marks config same stood = nothing-noted t.lines (2 * t.terminals) now t.changes m new marks config (λ other more there less. same other more) stood

pub noted-again : (timers : Option CardTimers) (m : Card) (now : ℕ) (marks : Marks) → ChangesStandIn timers m marks → ChangesStandIn timers m (noted now m marks)
noted-again timers m now marks stood = noted-same timers m m now marks refl (λ other number. refl) stood

-- An event of a card that touches a TEI; and one that touches none.
module _ (m : Card) (reached : IsReached m) (e : frame.Event) (here : e.line < m.config.lines) (marks : Marks) where
  pub event-marked : (card : Held Store) (mid new : Option CardTimers) (c : Clock) (tei : ℕ) → KeepsOthers tei m.config (line_at e.line m) (lines.after m.config e.what (line_at e.line m)) → FrameStands shelf_of card (machine.after e m)
      → AreNoted card e.line tei mid new → TimersStandIn new (machine.after e m) c → ChangesStandIn mid m marks → ChangesStandIn new (machine.after e m) (noted c.now (machine.after e m) marks)
  event-marked card mid new c tei keeps stands are_noted timed stood =
      are_noted.noted m (machine.after e m) c marks stands (λ of_lines links. touched m (reached-sound m reached) e here of_lines links tei keeps) timed stood

  pub unmarked-event : (new : Option CardTimers) (now : ℕ) → ((number : ℕ) → standing number (lines.after m.config e.what (line_at e.line m)) ≡ standing number (line_at e.line m)) → ChangesStandIn new m marks
      → ChangesStandIn new (machine.after e m) (noted now (machine.after e m) marks)
  unmarked-event new now keeps stood =
      noted-same new m (machine.after e m) now marks refl (λ other number. untouched m (reached-sound m reached) e here 0 0 keeps other number) stood

-- Where links are noted of a card that is as before, too.
pub noted-still : (m now : Card) (card : Held Store) (line tei : ℕ) (mid new : Option CardTimers) (c : Clock) (marks : Marks) → FrameStands shelf_of card now → AreNoted card line tei mid new
    → TimersStandIn new now c → now ≡ m → ChangesStandIn mid m marks → ChangesStandIn new now (noted c.now now marks)
noted-still m now card line tei mid new c marks stands are_noted timed is stood =
    are_noted.noted m now c marks stands
    (λ of_lines links. record { config = ap (λ (x : Card). x.config) is; others = λ other number there less not. ap (λ (x : Card). standing number (line_at other x)) is }) timed stood
