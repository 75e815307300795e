-- Hand-written answers for `Setup::pull_all`.
use Rattle.lapd_sim.proofs.Vocabulary.{◌+◌, ◌∙◌, sym, subst, arith, take_more_set}
use Rattle.lapd_sim.proofs.Pulls.{Pulled, pulled_on}
use Rattle.lapd_sim.proofs.setup.Setup.pull_all.Goals as goal

pub loop-place-preserved : goal.loop-place-preserved
loop-place-preserved c =
    let i = c.loop-place.place-index in
    record {
      config = c.next_octet.ensures.config ∙ c.loop-place.invariant.config;
      kind = c.next_octet.ensures.kind ∙ c.loop-place.invariant.kind;
      pulled = λ m h.
          subst (λ octets. Pulled c.next_octet.new.self c.args.line (i + 1) octets m) (sym (take_more_set c.loop-place.room i c.next_octet.result (omega arith)))
          (pulled_on c.loop-place.self c.next_octet.new.self c.args.line i c.next_octet.result _ m (c.loop-place.invariant.pulled m h) c.next_octet.ensures.pulled c.next_octet.ensures.after);
    }
