-- The premises of the law on turns in any order are met: by the worked run in which both ways are busy at once, and after which
-- no turn is left.
use Rattle.laws_link.proofs.Vocabulary.{◌≡◌, ℕ, Bool, true, false, ◌&&◌, List, [], ◌∷◌, length, refl, true≢false, arith, ◌||◌, nat_le, and_parts, leb-true, seq, distance_of, named, supervisory_of, unnumbered_of, control_of, header_of, reading, Event, Data, requested, after_all, Endpoint, Ends, EndStep, sends, receives, StepAt, at_near, at_far, doing, doing_all, sound-all}
use Rattle.laws_link.proofs.Vocabulary.{usual_terms, up, IsReady, IsTaken, asked, IsTurnOf, IsTurn, AreTurns, IsStill, settling, settled, may_send_information}
use Rattle.laws_link.proofs.OfTwo.Premises.{begins}

-- a test of turns
unfoldable pub is_turn_of : EndStep → Endpoint → Endpoint → Bool
is_turn_of sends n m = may_send_information n.terms n.link || n.link.pending
is_turn_of receives n m = nat_le 1 (length m.way)
is_turn_of other n m = false

unfoldable pub is_turn : StepAt → Ends → Bool
is_turn (at_near act) e = is_turn_of act e.near e.far
is_turn (at_far act) e = is_turn_of act e.far e.near

unfoldable pub are_turns : List StepAt → Ends → Bool
are_turns [] e = true
are_turns (d ∷ ds) e = is_turn d e && are_turns ds (doing d e)

by-act : (act : EndStep) (n m : Endpoint) → is_turn_of act n m ≡ true → IsTurnOf act n m
unfolding is_turn_of
by-act other n m e = grind (arith, true≢false, leb-true, length)

by-doing : (d : StepAt) (e : Ends) → is_turn d e ≡ true → IsTurn d e
unfolding is_turn
by-doing h e h' = grind (arith, by-act)

by-test : (ds : List StepAt) (e : Ends) → are_turns ds e ≡ true → AreTurns ds e
unfolding AreTurns are_turns
by-test [] e h = tt
by-test (d ∷ ds) e h =
    let both = and_parts (is_turn d e) (are_turns ds (doing d e)) h in
    (by-doing d e both.0, by-test ds (doing d e) both.1)

pub settling-turns : AreTurns settling asked
unfolding seq distance_of named reading header_of control_of unnumbered_of supervisory_of after_all doing_all are_turns is_turn is_turn_of
settling-turns = by-test settling asked refl

pub still : IsStill settled
unfolding seq distance_of named reading header_of control_of unnumbered_of supervisory_of after_all doing_all
still =
    record {
      near = record { waiting = refl; information = refl; pending = refl };
      far = record { waiting = refl; information = refl; pending = refl };
      near_way = refl;
      far_way = refl;
    }

abbrev asks_for : ℕ → Event
asks_for n = requested (Data (n ∷ [])) false

pub ready-near : IsReady asked.near
unfolding seq distance_of named reading header_of control_of unnumbered_of supervisory_of after_all doing_all
ready-near = search (begins.ranges, sound-all usual_terms begins.ranges (asks_for 1 ∷ asks_for 2 ∷ asks_for 3 ∷ []) up begins.sound)

pub ready-far : IsReady asked.far
unfolding seq distance_of named reading header_of control_of unnumbered_of supervisory_of after_all doing_all
ready-far = search (begins.ranges, sound-all usual_terms begins.ranges (asks_for 4 ∷ asks_for 5 ∷ []) up begins.sound)

pub taken-near : IsTaken asked.near asked.far
unfolding seq distance_of named reading header_of control_of unnumbered_of supervisory_of after_all doing_all
taken-near = record { received = refl; delivered = refl; owed = λ less. absurd (omega (arith, less)); sizes = ready-near.sound.sizes }

pub taken-far : IsTaken asked.far asked.near
unfolding seq distance_of named reading header_of control_of unnumbered_of supervisory_of after_all doing_all
taken-far = record { received = refl; delivered = refl; owed = λ less. absurd (omega (arith, less)); sizes = ready-far.sound.sizes }
