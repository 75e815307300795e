-- Two cards on one wire, one of which was granted more before: nothing else is other.
use Rattle.laws_wire.proofs.Vocabulary.{◌≡◌, ℕ, suc, ◌==◌, Bool, false, cond, List, [], ◌∷◌, ◌++◌, length, refl, append-nil, eqb-true, arith, LineTold, Service, LinkEndpoint, Config, next, zero, subst, All, flat_map, Control, Parts, NoneGoes, giving, is_poll, is_final, IsTimelyOf, timer_T200, read_as}
use Rattle.laws_wire.specs.Wire.{Endpoint, Wire, answered, happens, unless_refused, contents_in, Step as EndStep, expires}
use Rattle.laws_wire.proofs.Standing.{StationStands}

-- These were granted before.
abbrev pub before : List (List ℕ) → Endpoint → Endpoint
before g s = record s { granted = g ++ s.granted }

abbrev pub with_before : List (List ℕ) → Wire → Wire
with_before g w = record w { far = before g w.far }

-- what was granted does not matter to what stands for a station
pub regranted : (k : Config) (service : Service) (tei place : ℕ) (s : Endpoint) (n : LinkEndpoint) (g : List (List ℕ)) → StationStands k service tei place s n → StationStands k service tei place (record s { granted = g }) n
regranted k service tei place s n g h = record { config = h.config; sound = h.sound; within = h.within; speaks = h.speaks; terms = h.terms; way = h.way; carried = h.carried }

pub split : (b : Bool) (g : List (List ℕ)) → g ≡ cond b g [] ++ cond b [] g
split b g = grind (arith, append-nil)

-- what T200 asks does not look at it
giving-with : (k : ℕ) (g : List (List ℕ)) (s : Endpoint) → (giving k (record s { granted = g })).way ≡ (giving k s).way
unfolding giving
giving-with zero g s = refl
giving-with (suc k) g s = giving-with k (g ++ unless_refused (answered next s) (contents_in next)) (happens next s)

none-with : (of : Bool → Control → Bool) (g : List (List ℕ)) (s : Endpoint) → NoneGoes of (record s { granted = g }) → NoneGoes of s
none-with of g s none = λ k. subst (λ way. All (λ (f : Parts). of f.address.command f.control ≡ false) (flat_map (read_as s.card.config) way)) (giving-with k g s) (none k)

pub timely-with : (act : EndStep) (s r : Endpoint) (g g' : List (List ℕ)) → IsTimelyOf act (record { near = record s { granted = g }; far = record r { granted = g' } })
    → IsTimelyOf act (record { near = s; far = r })
timely-with (expires (timer_T200 service tei)) s r g g' (long, may) =
    ((λ awaits. let x = long awaits in record { commands = none-with is_poll g s x.commands; responses = none-with is_final g' r x.responses }), may)
timely-with act s r g g' x = grind arith

-- ---- a list that has something

pub more-told : (ts : List LineTold) (t : LineTold) → (length (ts ++ t ∷ []) == 0) ≡ false
more-told [] t = grind (arith, eqb-true)
more-told (s ∷ ts) t = grind (arith, eqb-true)
