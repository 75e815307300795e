-- Runs of turns in any order, and where they end.
use Rattle.laws_link.proofs.Vocabulary.{◌≡◌, ℕ, suc, ◌+◌, ◌≤◌, false, List, [], ◌∷◌, length, refl, subst, ◌∙◌, arith, nat_lt, take-length, Endpoint, Ends, EndStep, sends, StepAt, acting, doing, doing_all, HasNothingToSend, IsReady, IsTaken, HasArrived, IsTurnOf, IsTurn, AreTurns, IsStill, weight, may_send_information}
use Rattle.laws_link.proofs.OfTwo.Plain.{plain}
use Rattle.laws_link.proofs.OfTwo.Arriving.{nothing-unsent}
use Rattle.laws_link.proofs.OfTwo.AnyOrder.{Lane, Steady, Direction, is-steady, gives, takes-first}

pub record Pair (e : Ends) : Type 0 where
  pub near : Steady e.near
  pub far : Steady e.far
  pub there : Direction e.near e.far
  pub back : Direction e.far e.near

-- a turn
record AfterTurn (e e' : Ends) : Type 0 where
  pair : Pair e'
  lighter : weight e' + 1 ≤ weight e
  near_kept : e'.near.link.contents ≡ e.near.link.contents
  far_kept : e'.far.link.contents ≡ e.far.link.contents

turn-near : (act : EndStep) (e : Ends) → Pair e → IsTurnOf act e.near e.far → AfterTurn e (acting act e)
turn-near sends e h t =
    let x = gives e.near e.far h.near h.there h.back t in
    grind arith
turn-near act e h t = grind (arith, takes-first)

turn-any : (d : StepAt) (e : Ends) → Pair e → IsTurn d e → AfterTurn e (doing d e)
turn-any d e h t = grind (arith, turn-near)

-- a run
pub record Ran (ds : List StepAt) (e e' : Ends) : Type 0 where
  pub pair : Pair e'
  pub bounded : length ds + weight e' ≤ weight e
  pub near_kept : e'.near.link.contents ≡ e.near.link.contents
  pub far_kept : e'.far.link.contents ≡ e.far.link.contents

none-more : (w : ℕ) → 0 + w ≤ w
none-more w = omega arith

one-more : (n w w' w'' : ℕ) → n + w'' ≤ w' → w' + 1 ≤ w → suc n + w'' ≤ w
one-more n w w' w'' h k = omega (arith, h, k)

runs : (ds : List StepAt) (e : Ends) → Pair e → AreTurns ds e → Ran ds e (doing_all ds e)
unfolding doing_all AreTurns
runs [] e h t = record { pair = h; bounded = none-more (weight e); near_kept = refl; far_kept = refl }
runs (d ∷ ds) e h t = grind (arith, turn-any, one-more, (runs ds (doing d e)))

pub all-turns : (ds : List StepAt) (e : Ends) → IsReady e.near → IsReady e.far → IsTaken e.near e.far → IsTaken e.far e.near → AreTurns ds e → Ran ds e (doing_all ds e)
all-turns ds e hn hm there back turns = grind (arith, runs, Lane, nat_lt)

-- where no turn is left
module _ (n m : Endpoint) (hn : Steady n) (there : Direction n m) (back : Direction m n) (rn : HasNothingToSend n.terms n.link) (rm : HasNothingToSend m.terms m.link)
    (en : n.way ≡ []) (em : m.way ≡ []) where
  by-lanes : (m.link.r ≡ n.link.s) × (n.link.a ≡ m.link.r)
  by-lanes = grind (arith, Lane)

  arrived-one : (cs : List (List ℕ)) → n.link.contents ≡ cs → HasArrived cs n m
  arrived-one cs kept =
      let all-sent : n.link.a ≡ n.link.s = by-lanes.1 ∙ by-lanes.0 in
      let may : may_send_information n.terms (plain n.link) ≡ false = subst (λ x. may_send_information n.terms x.link ≡ false) (is-steady n hn) rn.information in
      let ready : IsReady n = record { ranges = hn.ranges; sound = hn.sound; state = hn.state; peer_busy = hn.peer_busy; own_busy = hn.own_busy; waiting = hn.waiting; way = en } in
      let none : length n.link.contents ≤ n.link.s = nothing-unsent n ready all-sent may in
      let most : n.link.s ≤ length cs = subst (λ xs. n.link.s ≤ length xs) kept hn.sound.accepted in
      let all : length cs ≤ n.link.s = subst (λ xs. length xs ≤ n.link.s) kept none in
      let sent : n.link.s ≡ length cs = omega (arith, most, all) in
      grind (arith, take-length)

pub all-there : (ds : List StepAt) (e e' : Ends) → Ran ds e e' → IsStill e' → HasArrived e.near.link.contents e'.near e'.far × HasArrived e.far.link.contents e'.far e'.near
all-there ds e e' x still = grind (arith, arrived-one)
