-- What the ends of a wire were told before changes nothing that is done, and no turn.
use Rattle.laws_wire.proofs.Vocabulary.{◌≡◌, ℕ, ◌+◌, List, [], ◌∷◌, ◌++◌, refl, ap, ◌∙◌, append_assoc, arith, if◌then◌else◌, came, hears, expiry, request, next, Event, LineTold, Endpoint, Wire, StepAt, EndStep, answered, happens, told_by, with_first_of, requests, expires, sends, receives, loses, at_near, at_far, acting, turned, doing, is_turn, calls_back, ◌||◌}
unfoldable use Rattle.laws_wire.specs.Wire.{doing_all, turns}
unfoldable use Rattle.laws_wire.specs.Call.{both_call}

abbrev with_told : List LineTold → Endpoint → Endpoint
with_told before s = record s { told = before ++ s.told }

abbrev pub with_past : List LineTold → List LineTold → Wire → Wire
with_past near far w = record { near = with_told near w.near; far = with_told far w.far }

happens-after : (before : List LineTold) (e : Event) (s : Endpoint) → happens e (with_told before s) ≡ with_told before (happens e s)
happens-after before e s = λ i. record (happens e s) { told = append_assoc before s.told (told_by (answered e s)) i }

comes-after : (before : List LineTold) (way : List (List ℕ)) (s : Endpoint) → with_first_of way (with_told before s) ≡ with_told before (with_first_of way s)
comes-after before [] s = refl
comes-after before (octets ∷ more) s = happens-after before (hears (came s.card.config.n201 octets)) s

module _ (near far : List LineTold) where
  pub acts-after : (act : EndStep) (w : Wire) → acting act (with_past near far w) ≡ with_past near far (acting act w)
  acts-after (requests r) w = λ i. record { near = happens-after near (request r) w.near i; far = with_told far w.far }
  acts-after (expires timer) w = λ i. record { near = happens-after near (expiry timer) w.near i; far = with_told far w.far }
  acts-after sends w = λ i. record { near = happens-after near next w.near i; far = with_told far w.far }
  acts-after receives w = λ i. record { near = comes-after near w.far.way w.near i; far = record w.far { way = (acting receives w).far.way; told = far ++ w.far.told } }
  acts-after loses w = refl

module _ (near far : List LineTold) where
  does-after : (d : StepAt) (w : Wire) → doing d (with_past near far w) ≡ with_past near far (doing d w)
  does-after (at_near act) w = acts-after near far act w
  does-after (at_far act) w = ap turned (acts-after far near act (turned w))

  pub all-after : (ds : List StepAt) (w : Wire) → doing_all ds (with_past near far w) ≡ with_past near far (doing_all ds w)
  unfolding doing_all
  all-after [] w = refl
  all-after (d ∷ ds) w = ap (doing_all ds) (does-after d w) ∙ all-after ds (doing d w)

  turn-after : (d : StepAt) (w : Wire) → is_turn d (with_past near far w) ≡ is_turn d w
  turn-after d w = grind arith

  pub turns-after : (ds : List StepAt) (w : Wire) → turns ds (with_past near far w) ≡ turns ds w
  unfolding turns
  turns-after [] w = refl
  turns-after (d ∷ ds) w =
      ap (λ b. (if b then 1 else 0) + turns ds (doing d (with_past near far w))) (turn-after d w)
      ∙ ap (λ v. (if is_turn d w then 1 else 0) + turns ds v) (does-after d w) ∙ ap (λ n. (if is_turn d w then 1 else 0) + n) (turns-after ds (doing d w))

  calls-after : (d : StepAt) (w : Wire) → calls_back d (with_past near far w) ≡ calls_back d w
  calls-after d w = grind arith

  pub both-after : (ds : List StepAt) (w : Wire) → both_call ds (with_past near far w) ≡ both_call ds w
  unfolding both_call
  both-after [] w = refl
  both-after (d ∷ ds) w =
      ap (λ b. b || both_call ds (doing d (with_past near far w))) (calls-after d w)
      ∙ ap (λ v. calls_back d w || both_call ds v) (does-after d w) ∙ ap (λ b. calls_back d w || b) (both-after ds (doing d w))
