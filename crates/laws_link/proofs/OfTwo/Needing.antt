-- A link runs the timer that it needs: from what each event keeps.
use Rattle.laws_link.proofs.Vocabulary.{◌≡◌, ◌≢◌, ◌⊎◌, ℕ, ◌≤◌, ◌==◌, Bool, true, false, not, cond, ◌||◌, Option, None, Some, refl, ◌∙◌, arith, eq-eqb, State, TeiAssigned, AwaitingEstablishment, Established, LinkTimer, T200, T203, Terms, Link, fresh, Event, after, IsSound, eqb-true, IsTimedIn, IsTimed, HeedsIn, needed_in, IsCalmIn, HasItsTimer, or_parts}
use Rattle.model_link.proofs.TimedRows.{timed-after}
use Rattle.laws_link.proofs.OfTwo.Awaiting.{Awaits, event-awaits}
use Rattle.laws_link.proofs.OfTwo.HeedingEvents.{heeds-after}

-- What is needed, by what it speaks of.
abbrev need : State → Bool → ℕ → ℕ → Option LinkTimer
need TeiAssigned busy a s = None
need Established busy a s = cond (not (s == a) || busy) (Some T200) (Some T203)
need other busy a s = Some T200

abbrev calm : State → Bool → Type 0
calm AwaitingEstablishment busy = busy ≡ false
calm other busy = Unit {0}

needs : (here : State) (l : Link) → needed_in here l ≡ need here l.peer_busy l.a l.s
needs here l = grind arith

or-true : (x : Bool) → (x || true) ≡ true
or-true x = grind arith

to-heeds : (here : State) (busy : Bool) (running : Option LinkTimer) (a s : ℕ) → running ≡ need here busy a s → calm here busy → HeedsIn here busy running
to-heeds here busy running a s e h = grind (arith, or-true)

to-awaits : (here : State) (busy : Bool) (running : Option LinkTimer) (a s : ℕ) → running ≡ need here busy a s → Awaits here running busy a s
to-awaits here busy running a s e is timer = grind (arith, eq-eqb)

-- and the other way round
from-timed : (here : State) (l : Link) → IsTimedIn here l → HeedsIn here l.peer_busy l.running → (here ≡ Established → l.running ≡ Some T200 → (l.peer_busy ≡ true) ⊎ (l.a ≢ l.s)) → l.a ≤ l.s
    → l.running ≡ needed_in here l
from-timed here l timed heeds awaits ordered = grind (arith, or-true, eqb-true, eq-eqb)

to-calm : (here : State) (l : Link) → IsCalmIn here l → calm here l.peer_busy
to-calm here l h = grind arith

pub is-timed : (l : Link) → HasItsTimer l → IsTimed l
is-timed l h = record { timer = grind (arith, eqb-true, or_parts) }

pub timely-after : (t : Terms) (e : Event) (l : Link) → IsSound t l → IsSound t (after t e l) → HasItsTimer l → HasItsTimer (after t e l)
timely-after t e l s sound h =
    let is = h.running ∙ needs l.state l in
    let x = after t e l in
    let heeds = heeds-after t e l (record { heeds = to-heeds l.state l.peer_busy l.running l.a l.s is (to-calm l.state l h.calm) }) in
    let awaits = (event-awaits t l (to-awaits l.state l.peer_busy l.running l.a l.s is) s.ordered e).holds in
    record { running = from-timed x.state x (timed-after t e l (is-timed l h)).timer heeds.heeds awaits sound.ordered; calm = grind arith }

pub timely-fresh : HasItsTimer fresh
timely-fresh = record { running = refl; calm = tt }
