-- How often a frame is taken: at most half as often as there are turns, since each was given first.
use Rattle.laws_order.proofs.Vocabulary.{◌≡◌, ℕ, ◌+◌, ◌*◌, ◌≤◌, Bool, false, List, [], ◌∷◌, ◌++◌, length, arith, length-append, All, if◌then◌else◌, All-head, All-tail, Service, Wire, EndStep, StepAt, is_any, asks-way, takes-way, All-cons, All-nil, IsTalk, wire_at_near, wire_is_turn, turned, wire_doing, wire_doing_all, wire_turns, wire_at_far, receives, IsCall}
unfoldable use Rattle.laws_wire.specs.Wire.{doing_all, turns}
use Rattle.laws_order.specs.circuit.Circuit.{Step as OctetStep, requests as octet_requests, sends as octet_sends, receives as octet_receives, StepAt as OctetStepAt, at_near, at_far}

abbrev pub is_taking_of : EndStep → Wire → Bool
is_taking_of receives f = is_any f.far.way
is_taking_of other f = false

abbrev pub is_taking : StepAt → Wire → Bool
is_taking (wire_at_near act) f = is_taking_of act f
is_taking (wire_at_far act) f = is_taking_of act (turned f)

unfoldable pub takings : List StepAt → Wire → ℕ
takings [] f = 0
takings (d ∷ ds) f = (if is_taking d f then 1 else 0) + takings ds (wire_doing d f)

pub takings-append : (ds es : List StepAt) (f : Wire) → takings (ds ++ es) f ≡ takings ds f + takings es (wire_doing_all ds f)
unfolding takings doing_all
takings-append [] es f = omega arith
takings-append (d ∷ ds) es f =
    let rest : takings (ds ++ es) (wire_doing d f) ≡ takings ds (wire_doing d f) + takings es (wire_doing_all ds (wire_doing d f)) = takings-append ds es (wire_doing d f) in
    omega (arith, rest)

-- ---- each frame that is taken was given

abbrev pub on_ways : Wire → ℕ
on_ways f = length f.near.way + length f.far.way

record Paid (taking turn : Bool) (before after : ℕ) : Type 0 where
  paid : 2 * (if taking then 1 else 0) + after ≤ (if turn then 1 else 0) + before

module _ (service : Service) (tei : ℕ) where
  one-paid : (d : StepAt) → IsCall service tei d → (f : Wire) → Paid (is_taking d f) (wire_is_turn d f) (on_ways f) (on_ways (wire_doing d f))
  one-paid d is f = grind (arith, asks-way, length-append, takes-way)

  joined : (t t' k k' a b c : ℕ) → 2 * t + b ≤ k + a → 2 * t' + c ≤ k' + b → 2 * (t + t') + c ≤ (k + k') + a
  joined t t' k k' a b c h h' = omega (arith, h, h')

  pub all-paid : (ds : List StepAt) → All (IsCall service tei) ds → (f : Wire) → 2 * takings ds f + on_ways (wire_doing_all ds f) ≤ wire_turns ds f + on_ways f
  unfolding takings doing_all turns
  all-paid [] all f = omega arith
  all-paid (d ∷ ds) all f =
      let g = wire_doing d f in
      let one = one-paid d (All-head (IsCall service tei) d ds all) f in
      joined (if is_taking d f then 1 else 0) (takings ds g) (if wire_is_turn d f then 1 else 0) (wire_turns ds g) (on_ways f) (on_ways g) (on_ways (wire_doing_all ds g)) one.paid
      (all-paid ds (All-tail (IsCall service tei) d ds all) g)

-- Pulls and hearings alone: how often each is done at either end, and that they are what is done in a call.

abbrev pub IsMuteOf : OctetStep → Type 0
IsMuteOf (octet_requests r) = ⊥
IsMuteOf other = Unit {0}

abbrev pub IsMute : OctetStepAt → Type 0
IsMute (at_near act) = IsMuteOf act
IsMute (at_far act) = IsMuteOf act

abbrev pub one_pull : OctetStep → ℕ
one_pull octet_sends = 1
one_pull other = 0

abbrev pub one_hearing : OctetStep → ℕ
one_hearing octet_receives = 1
one_hearing other = 0

-- how often something is done at either end
abbrev pub count_near : (OctetStep → ℕ) → List OctetStepAt → ℕ
count_near one [] = 0
count_near one (at_near act ∷ ds) = one act + count_near one ds
count_near one (at_far act ∷ ds) = count_near one ds

abbrev pub count_far : (OctetStep → ℕ) → List OctetStepAt → ℕ
count_far one [] = 0
count_far one (at_near act ∷ ds) = count_far one ds
count_far one (at_far act ∷ ds) = one act + count_far one ds

pub mute-talk : (service : Service) (tei : ℕ) (x : OctetStepAt) → IsMute x → IsTalk service tei x
mute-talk service tei x h = grind arith

pub all-talk : (service : Service) (tei : ℕ) (ds : List OctetStepAt) → All IsMute ds → All (IsTalk service tei) ds
all-talk service tei [] all = All-nil (IsTalk service tei)
all-talk service tei (x ∷ ds) all =
    All-cons (IsTalk service tei) x ds (mute-talk service tei x (All-head IsMute x ds all)) (all-talk service tei ds (All-tail IsMute x ds all))
