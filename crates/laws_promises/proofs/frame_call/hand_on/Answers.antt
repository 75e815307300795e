-- Hand-written answers for `hand_on`.
use Rattle.laws_promises.proofs.Vocabulary.{◌<◌, ap, arith, Card, FrameStands}
use Rattle.std.specs.Prelude.{Result, OnOk, OnErr}
use Rattle.lapd_card.specs.FrameCard.{Held, room_for_frames}
use Rattle.model_line.proofs.Ranges.{ranges_of}
use Rattle.laws_promises.proofs.frame_call.hand_on.Goals as goal

on_ok : {T E : Type 0} (r : Result T E) (P : Type 0) → P → OnOk r P
on_ok r P p = grind arith

on_err : {T E : Type 0} (r : Result T E) (P : Type 0) → P → OnErr r P
on_err r P p = grind arith

-- there is room for the longest frame of all
pub returns-in-Err : goal.returns-in-Err
returns-in-Err g c =
    let small : 264 < room_for_frames c.args.card.now = c.in-Err.ensures.refused.few in
    let none : (m : Card) → FrameStands g.S.Shelf.store c.args.card.now m → ⊥ =
    λ m s. let few = (ranges_of m.config s.reached.config).n201.most in omega (arith, small, few, ap (λ d. d.n201) s.config) in
    record {
      leads = record { config = ap (λ (card : Held g.row.S.Denot). card.config) c.in-Err.ensures.refused.unchanged; stands = λ m s. absurd (none m s); counted = λ m s. absurd (none m s) };
      hands = record {
        failed = c.take-in-Err.ensures.failed;
        not_failed = c.take-in-Err.ensures.none_failed;
        taken = on_ok c.take-in-Err.result _ (λ m s. absurd (none m s));
        not_taken = on_err c.take-in-Err.result _ (λ m s. absurd (none m s));
      };
    }
