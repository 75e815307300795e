-- The states of the links, place by place.
use Rattle.std.proofs.Common.{arith, ℕ, ◌+◌, ◌*◌, ◌∙◌, set, ap}
use Rattle.std.specs.Option.{unwrap_or}
use Rattle.model_card.specs.Card.{line_at}
use Rattle.lapd_timed.proofs.StatesSeen.{place-seen}
use Rattle.lapd_timed.proofs.Marked.{length-set}
use Rattle.lapd_timed.proofs.noting.states_of.Goals as goal

pub loop-place-preserved : goal.loop-place-preserved
loop-place-preserved g c =
    let place = c.loop-place.place in
    let states = c.loop-place.states in
    let both = c.unwrap_or-call.result in
    record {
      count = length-set (set states (2 * place) both.0) (2 * place + 1) both.1 ∙ length-set states (2 * place) both.0 ∙ c.loop-place.invariant.count;
      before = λ m stands.
          let is = c.unwrap_or-call.ensures ∙ ap (λ o. unwrap_or {T = ℕ × ℕ} o (0, 0)) (c.states_at.ensures m stands) in
          place-seen place both.0 both.1 states (line_at c.args.line m) c.loop-place.invariant.count (omega (arith, c.loop-place-test.true)) (ap (λ p. p.0) is) (ap (λ p. p.1) is) (c.loop-place.invariant.before m stands);
    }
