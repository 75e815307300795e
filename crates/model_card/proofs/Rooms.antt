-- A room says why data is refused.
use Rattle.model_card.proofs.Vocabulary.{◌≡◌, ℕ, ◌-◌, ◌==◌, Bool, true, false, not, nat_le, nat_lt, Option, Some, None, Ok, Err, cond, arith, eqb-suc-zero, sub-eq-zero_of_le, leb-true, leb-false, le-ltb, Refusal, BadTei, NoLink, WrongState, TooLong, Service, Room, unless, Card, room, RefusesBy}

-- None is left exactly where all are taken.
none_left : (all taken : ℕ) → nat_le all taken ≡ (all - taken == 0)
none_left all taken = grind (arith, nat_le, eqb-suc-zero, sub-eq-zero_of_le, leb-true, leb-false)

-- Where there is a room, the first two rows don't hold.
no_room : {X : Type 0} (why : Refusal) (r : Room) → Err why ≡ Ok r → X
no_room why r e = absurd (cc)

same_room : (is r : Room) → unless None is ≡ Ok r → is ≡ r
same_room is r e = cc

there : (bad missing : Bool) (rest : Option Refusal) (is r : Room)
    → unless (cond bad (Some BadTei) (cond missing (Some NoLink) None)) is ≡ Ok r
    → (cond bad (Some BadTei) (cond missing (Some NoLink) rest) ≡ rest) × (is ≡ r)
there bad missing rest is r e = grind (arith, no_room, same_room)

-- Nor do the next two.
fits : (served long : Bool) (rest : Option Refusal) → served ≡ true → long ≡ false
    → cond (not served) (Some WrongState) (cond long (Some TooLong) rest) ≡ rest
fits served long rest is short = grind arith

-- So the last two are left, which are those of the room.
pub refuses_by : (card : Card) (number : ℕ) (service : Service) (tei : ℕ) (r : Room) → room number service tei card ≡ Ok r
    → RefusesBy r number service tei card
refuses_by card number service tei r is contents up short = grind (arith, nat_le, nat_lt, there, le-ltb, none_left)
