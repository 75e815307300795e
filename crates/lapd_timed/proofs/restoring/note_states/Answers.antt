-- The states of a line are noted.
use Rattle.std.proofs.Common.{arith, ◌≡◌, ◌<◌, inl, inr, get_or, ap, sym, subst, ◌∙◌}
use Rattle.std.proofs.lemmas.Bool.{cases_eq}
use Rattle.model_card.specs.Card.{line_at}
use Rattle.model_timed.specs.Changes.{standing}
use Rattle.lapd_timed.specs.Marked.{mark_in, slot_in}
use Rattle.lapd_timed.proofs.ChangesRead.{seen-state}
use Rattle.lapd_timed.proofs.restoring.note_states.Goals as goal

pub loop-line-preserved : goal.loop-line-preserved
loop-line-preserved g c = record {
  links = c.note_all.ensures.noted.links ∙ c.loop-line.invariant.links;
  size = c.note_all.ensures.noted.count ∙ c.loop-line.invariant.size;
  moments = c.note_all.ensures.noted.moments ∙ c.loop-line.invariant.moments;
  noted = λ m s line number less few.
      let new = c.note_all.new.self in
      let there : number < c.loop-line.changes.links = omega (arith, few, c.loop-line.invariant.links) in
      elim (cases_eq line c.loop-line.line) [
        | inl same ↦ subst (λ l. get_or new.states (slot_in new l number) 0 ≡ standing number (line_at l m)) (sym same)
            (ap (λ k. k.state) (c.note_all.ensures.noted.here number there) ∙ seen-state c.args.now _ (mark_in c.loop-line.changes c.loop-line.line number) ∙ c.states_of-states.ensures m s number (omega (arith, few, c.requires.links)))
        | inr apart ↦ ap (λ k. k.state) (c.note_all.ensures.noted.others line number there apart) ∙ c.loop-line.invariant.noted m s line number (omega (arith, less, apart)) few
      ];
}
