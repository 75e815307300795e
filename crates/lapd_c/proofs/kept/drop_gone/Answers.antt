-- Hand-written answers for `drop_gone`.
use Rattle.lapd_c.proofs.Vocabulary.{◌≡◌, true, false, nat_lt, refl, sym, ap, subst, arith, ◌∙◌, ◌&&◌, ltb-false}
use Rattle.std.proofs.lemmas.Bool.{ltb-true}
use Rattle.lapd_c.specs.LinkMarks.{SetsLink, is_marked}
use Rattle.lapd_c.specs.Reopened.{is_there, waits_there}
use Rattle.lapd_c.proofs.Reopening.{waits_so_far}
use Rattle.lapd_c.proofs.kept.drop_gone.Goals as goal

pub loop-place-preserved : goal.loop-place-preserved
loop-place-preserved c =
    let i = c.loop-place.invariant in let there = c.in-Some.place in let met = c.in-Some.ensures.marked in record {
      below = λ m s. waits_so_far (is_there c.args.line m) c.args.links.now c.loop-place.links c.set.new.self c.loop-place.from there (i.below m s) i.above met.0 met.2 c.in-Some.ensures.others
          (subst (λ marked. SetsLink there marked c.loop-place.links c.set.new.self) (c.is_there.ensures m s) c.set.ensures);
      above = λ place behind. c.set.ensures.others place (omega (arith, behind)) ∙ i.above place (omega (arith, behind, met.0));
    }

-- None is left from there on.
pub returns : goal.returns
returns c = λ m s place within.
    let i = c.loop-place.invariant in
    (elim (nat_lt place c.loop-place.from) as (λ b. nat_lt place c.loop-place.from ≡ b → is_marked c.loop-place.links place ≡ waits_there c.args.line m c.args.links.now place) [
      | true ↦ λ is. i.below m s place (ltb-true _ _ is)
      | false ↦ λ is. let behind = ltb-false _ _ is in let none = c.in_default.ensures.others place behind within in
          none ∙ sym (ap (λ b. b && is_there c.args.line m place) (sym (i.above place behind) ∙ none))
    ]) refl
