-- Hand-written answers for `link_all`.
use Rattle.lapd_store.proofs.Vocabulary.{◌+◌, ◌*◌, sym, subst, ◌∙◌, inl, inr, arith, cases_eq, Holds, link, or_end}
use Rattle.lapd_store.proofs.RawLemmas.{kept}
use Rattle.lapd_store.proofs.raw_shelf.link_all.Goals as goal

pub loop-slot-preserved : goal.loop-slot-preserved
loop-slot-preserved c =
    let at = c.loop-slot.slot in
    let width = c.args.width in
    let new = c.write_link.new.region in
    let same = c.write_link.ensures.others in
    record {
      linked = λ slot lt. elim (cases_eq slot at) [
        | inl e ↦ subst (λ k. Holds new (k * width) (link (or_end (k + 1) c.args.slots))) (sym e) (subst (λ n. Holds new (at * width) (link n)) c.slot_or_end-next.ensures c.write_link.ensures.linked)
        | inr ne ↦ kept c.loop-slot.region new width at slot 2 (link (or_end (slot + 1) c.args.slots)) same (omega (arith, c.requires.least)) ne (omega (arith, c.requires.least)) (c.loop-slot.invariant.linked slot (omega (arith, lt, ne)))
      ];
      size = same.size ∙ c.loop-slot.invariant.size;
    }
