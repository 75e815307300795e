-- The links of a line are noted, one after the other.
use Rattle.std.proofs.Common.{arith, ◌≡◌, ◌+◌, ◌*◌, ◌<◌, ◌≤◌, ◌∙◌, inl, inr, get_or, length, ap, sym, subst}
use Rattle.std.specs.Prelude.{All}
use Rattle.std.proofs.lemmas.Bool.{cases_eq}
use Rattle.model_timed.specs.Changes.{seen}
use Rattle.lapd_timed.specs.Marked.{slot_in, marked_at, mark_in}
use Rattle.lapd_timed.proofs.Marked.{links-stay, states-stay, moments-stay, past-stay, at-slot, off-slot}
use Rattle.lapd_timed.proofs.changes.Changes.note_all.Goals as goal

pub loop-number-preserved : goal.loop-number-preserved
loop-number-preserved c =
    let h = c.loop-number.self in
    let line = c.args.line in
    let number = c.loop-number.number in
    let state = get_or c.args.states.now number 0 in
    let links : h.links ≡ c.args.self.now.links = c.loop-number.invariant.links in
    let few : number < h.links = omega (arith, c.loop-number-test.true, links, ap (λ k. k.links) c.self.view_is) in
    let there : slot_in h line number < length h.states = subst (λ n. slot_in h line number < n) (sym c.loop-number.invariant.count)
    (subst (λ d. line * d + number < length c.args.self.now.states) (sym links) (c.requires.there number (omega (arith, few, links)))) in
    let as_many : length h.moments ≡ length h.states = c.loop-number.invariant.moments ∙ ap (λ k. length k.moments) (sym c.self.view_is) ∙ c.self.invariant ∙ ap (λ k. length k.states) c.self.view_is ∙ sym c.loop-number.invariant.count in
    record {
      links = ap (λ k. k.links) c.note.ensures ∙ links-stay (slot_in h line number) state c.args.now h ∙ links;
      count = ap (λ k. length k.states) c.note.ensures ∙ states-stay (slot_in h line number) state c.args.now h ∙ c.loop-number.invariant.count;
      moments = ap (λ k. length k.moments) c.note.ensures ∙ moments-stay (slot_in h line number) state c.args.now h ∙ c.loop-number.invariant.moments;
      past = λ past. subst (λ k. All (λ moment. moment ≤ c.args.now) k.moments) (sym c.note.ensures)
          (past-stay (slot_in h line number) state c.args.now h c.args.now (omega arith) (c.loop-number.invariant.past past));
      so_far = λ more before less. ap (λ k. mark_in k line more) c.note.ensures ∙ elim (cases_eq more number) [
        | inl same ↦ ap (mark_in (marked_at (slot_in h line number) state c.args.now h) line) same ∙ at-slot line number state c.args.now h there as_many
            ∙ ap (seen c.args.now state) (c.loop-number.invariant.others line number (omega (arith, few, links)) (λ _ below. omega (arith, below)))
            ∙ ap (λ n. seen c.args.now (get_or c.args.states.now n 0) (mark_in c.args.self.now line n)) (sym same)
        | inr apart ↦ off-slot line number state c.args.now h line more few (omega (arith, less, links)) (λ _ e. apart e)
            ∙ c.loop-number.invariant.so_far more (omega (arith, before, apart)) less
      ];
      others = λ other more less not. ap (λ k. mark_in k other more) c.note.ensures
          ∙ off-slot line number state c.args.now h other more few (omega (arith, less, links)) (λ same e. not same (omega (arith, e)))
          ∙ c.loop-number.invariant.others other more less (λ same below. not same (omega (arith, below)));
    }
