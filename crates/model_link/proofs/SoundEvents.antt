-- Every event leads from a sound link to a sound link.
use Rattle.model_link.proofs.Vocabulary.{◌≡◌, false, sym, IsTrue, true≢false, ℕ, ◌-◌, ◌≤◌, List, [], ◌∷◌, length, drop, refl, arith, length-drop, Terms, Link, fresh, queue_of, IsInRange, IsSound, Course, begun, Event, after, after_all, course}
use Rattle.model_link.specs.Link.{most_rc}
use Rattle.model_link.specs.Sound.{IsOwing}
use Rattle.model_link.proofs.Kept.{any_event}
use Rattle.model_link.proofs.Careful.{Queues, any_contents}
use Rattle.model_link.proofs.Rows.{event_by}
use Rattle.model_link.proofs.OwedRows.{owed-after}
use Rattle.model_link.proofs.Repeats.{few-after}
use Rattle.model_link.proofs.SoundRows.{CourseStands, stand, begins}

-- A sound link stands, with any number of contents that its queue has; and the other way round.
pub sound-stands : (t : Terms) (q : ℕ) (l : Link) → length (queue_of l) ≤ q → IsSound t l → CourseStands t q (begun l)
sound-stands t q l few h = grind (arith, length-drop)

stands-sound : (t : Terms) (c : Course) → c.link.repeats ≤ most_rc t → (IsTrue c.link.owed → IsOwing t c.link) → CourseStands t t.queue c → IsSound t c.link
stands-sound t c few owed h = grind (arith, length-drop)

none-owed : {P : Type 0} → IsTrue false → P
none-owed on = absurd (true≢false (sym on))

-- A sound link stays sound.
pub sound-after : (t : Terms) → IsInRange t → (e : Event) (l : Link) → IsSound t l → IsSound t (after t e l)
sound-after t r e l h =
    stands-sound t (course t e l) (few-after t e l h.repeats) (owed-after t e l h)
    ((event_by (stand t r.tei t.queue (Unit {0}) (λ x. refl)) tt tt e (any_event e) (grind (arith, any_contents))).leads (begun l) (sound-stands t t.queue l h.queue h))

pub sound-fresh : (t : Terms) → IsInRange t → IsSound t fresh
sound-fresh t r = stands-sound t (begun fresh) (omega arith) none-owed (begins t r.tei t.queue (Unit {0}) (λ x. refl) (begun fresh))

pub sound-all : (t : Terms) → IsInRange t → (es : List Event) (l : Link) → IsSound t l → IsSound t (after_all t es l)
unfolding after_all
sound-all t r [] l h = h
sound-all t r (e ∷ es) l h = sound-all t r es (after t e l) (sound-after t r e l h)

-- The queue grows by contents that are asked for alone.
pub queue-stays : (t : Terms) → t.tei ≤ 126 → (e : Event) (l : Link) → Queues ⊥ e → IsSound t l
    → length (queue_of (after t e l)) ≤ length (queue_of l)
queue-stays t r e l may h =
    let c = course t e l in
    let room = ((event_by (stand t r (length (queue_of l)) ⊥ (λ x. absurd x)) tt tt e (any_event e) may).leads (begun l) (sound-stands t (length (queue_of l)) l (omega arith) h)).queue in
    let e : length (drop c.link.a c.link.contents) ≡ length c.link.contents - c.link.a = length-drop c.link.a c.link.contents in
    omega (arith, room)
