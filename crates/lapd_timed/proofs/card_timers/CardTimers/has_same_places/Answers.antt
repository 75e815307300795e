-- The places of a line, one after the other.
use Rattle.std.proofs.Common.{arith, ◌≡◌, ℕ, ◌*◌, ◌∙◌, inl, inr, is_some, Option, sym, ap}
use Rattle.std.proofs.lemmas.Bool.{cases_eq}
use Rattle.model_card.specs.Card.{line_at}
use Rattle.model_line.specs.Line.{tei_at}
use Rattle.lapd_timed.specs.Marked.{has_state}
use Rattle.lapd_timed.proofs.Marked.{slot-of}
use Rattle.lapd_timed.proofs.card_timers.CardTimers.has_same_places.Goals as goal

pub has_state-requires : goal.has_state-requires
has_state-requires g c =
    slot-of c.args.self.now.lines (2 * c.args.self.now.terminals) c.args.line (2 * c.loop-place.place) c.args.self.now.changes c.args.self.now.links c.args.self.now.marks c.requires.line (omega (arith, c.loop-place-test.true, c.loop-place.auto.place-end))

pub loop-place-preserved : goal.loop-place-preserved
loop-place-preserved g c =
    let alike : c.is_some.result ≡ c.has_state.result = grind (arith, c.if-is_some-has_state.false) in
    record {
      before = λ m stands before less. elim (cases_eq before c.loop-place.place) [
        | inl same ↦ ap (λ p. is_some (tei_at p (line_at c.args.line m))) same
            ∙ ap (λ (o : Option ℕ). is_some o) (sym (c.tei_at.ensures.is m stands)) ∙ sym c.is_some.ensures ∙ alike ∙ c.has_state.ensures
            ∙ ap (λ p. has_state c.args.self.now.changes c.args.line (2 * p)) (sym same)
        | inr apart ↦ c.loop-place.invariant.before m stands before (omega (arith, less, apart))
      ];
    }
