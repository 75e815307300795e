-- Hand-written answers for `KeptCard::take_first`.
use Rattle.lapd_c.proofs.Vocabulary.{arith, sym, subst, ◌∙◌, card_in, AnyStands}
use Rattle.lapd_c.specs.LinkMarks.{AreMarked, marks_of}
use Rattle.lapd_c.specs.Reopened.{waits_on, waits_there}
use Rattle.lapd_c.proofs.Reopening.{same_behind, others_wait_on, all_wait_on}
use Rattle.std.proofs.Common.{refl, rules}
use Rattle.std.proofs.lemmas.Grind.{common_steps}
use Rattle.lapd_c.proofs.kept.KeptCard.take_first.Goals.{in-Some, in_default}
use Rattle.lapd_c.proofs.kept.KeptCard.take_first.Goals as goal

pub returns-in_err-links : goal.returns-in_err-links
returns-in_err-links c = record { timed = refl; first = grind (arith, common_steps); marks = λ m s w. same_behind _ c.args.self.now.refused c.args.line c.in_err-links.ensures.behind }

pub returns : goal.returns
returns c = record {
  timed = search rules;
  first = grind (arith, common_steps);
  marks = λ m s w.
      let line = c.args.line in let met = c.in_ok-links.ensures.there in
      let before : AreMarked c.drop_gone.new.links (waits_there line (card_in m) (marks_of c.args.self.now.refused line)) =
      subst (λ links. AreMarked c.drop_gone.new.links (waits_there line (card_in m) links)) met.1 (c.drop_gone.ensures (card_in m) (c.frames-frames.ensures.stands m (subst (λ card. AnyStands card m) (sym c.card-2.ensures) s))) in
      record {
        links = c.match-told.links;
        all = c.put.ensures;
        marks = λ within. elim c.match-told.branch [
          | in-Some w ↦ subst (λ links. AreMarked links (waits_on c.match-told.told line (card_in m) (marks_of c.args.self.now.refused line))) (sym w.links-is)
              (others_wait_on (waits_there line (card_in m) (marks_of c.args.self.now.refused line)) c.match-told.told w.in-Some.place c.drop_gone.new.links w.set.new.self w.told-is before w.set.ensures)
          | in_default w ↦ subst (λ links. AreMarked links (waits_on c.match-told.told line (card_in m) (marks_of c.args.self.now.refused line))) (sym w.links-is)
              (all_wait_on (waits_there line (card_in m) (marks_of c.args.self.now.refused line)) c.match-told.told c.drop_gone.new.links (w.told-is ∙ w.in_default.is) before)
        ];
      };
}
