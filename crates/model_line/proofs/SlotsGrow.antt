-- By how many slots a line's contents grow.
use Rattle.model_line.proofs.Vocabulary.{◌≡◌, ℕ, ◌+◌, ◌≤◌, Bool, false, length, is_some, IfSome, refl, cond, arith, length-drop, Service, Link, queue_of, queue-after, Config, Event, one, Line, fresh_line, link_count, service_at, place_at, link_at, terms, after, takes_slot, Taken, taken, IsInRange, IsSound, slots_of, LinkEvent, offer, link_after, rises_grows, aim_of}
use Rattle.model_line.proofs.EventWalk.{by_part}
use Rattle.model_line.proofs.ProperAims.{event_aims, event_proper}
use Rattle.model_line.proofs.TakenWalk.{taken_walk, next_walk}
use Rattle.model_line.proofs.Sums.{Rise, price_at, aim_rises, one_changed, all_begin}

abbrev kept : Service → Link → ℕ
kept service x = length (queue_of x)

abbrev grows_of : Config → Service → ℕ → LinkEvent → Link → ℕ
grows_of c service tei e x = rises_grows (terms c service tei) e x

grows : (c : Config) → Rise c kept (grows_of c)
grows c = grind (arith, queue-after)

-- an event takes as many as it may
at_most_one : (b : Bool) → cond {A = ℕ} b 0 1 ≤ 1
at_most_one b = grind arith

event_takes : (c : Config) (l : Line) (e : Event) → price_at false (grows c) l (aim_of c e l) ≤ one (takes_slot c e l)
event_takes c l =
    event_aims c l (λ takes aim. price_at false (grows c) l aim ≤ one takes) (λ takes. omega arith) (λ cause. omega arith) (λ parts service to. omega arith)
    (λ service tei place e at. grind (arith, at_most_one, is_some)) (λ e range. omega arith) (λ e proper. omega arith) (λ unit is few. omega arith) (omega arith)

-- calls for the next frame take none
abbrev GrowsNot : Config → Line → Taken → Type 0
GrowsNot c l t = slots_of c t.line ≤ slots_of c l

taken_grows : (c : Config) (l : Line) → IsSound c l → IfSome (taken c l) (GrowsNot c l)
taken_grows c l s =
    taken_walk c l s (GrowsNot c l) (λ octets m own out. omega arith) (λ u us e. omega (arith, length-drop 1 l.units))
    (λ n tei few at sound g e.
    let t = terms c (service_at n) tei in
    omega (arith, (queue-after t (s.management.table.range (place_at n) tei at) offer (link_at n l) sound), one_changed c kept l.links n (link_after t offer (link_at n l)) s.count few))

pub slots_grow : (c : Config) (e : Event) (l : Line) → IsInRange c → IsSound c l → slots_of c (after c e l) ≤ slots_of c l + one (takes_slot c e l)
slots_grow c e l ranged s =
    by_part c l (λ what m. slots_of c m ≤ slots_of c l + one (takes_slot c what l))
    (λ what. omega (arith, aim_rises false (grows c) l (aim_of c what l) ranged s (event_proper c l what), event_takes c l what))
    (omega (arith, (next_walk c l (GrowsNot c l) (λ o m. slots_of c m ≤ slots_of c l) (taken_grows c l s) (omega arith) (λ t h. h)))) e

-- a line that begins has none
pub fresh_slots : (c : Config) → slots_of c (fresh_line c) ≡ 0
fresh_slots c = omega (arith, all_begin c kept (λ service. refl) 0 (link_count c))
