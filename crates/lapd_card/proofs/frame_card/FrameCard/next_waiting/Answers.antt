-- Hand-written answers for `FrameCard::next_waiting`.
use Rattle.lapd_card.proofs.Vocabulary.{arith, ◌≡◌, sym, ◌∙◌, subst}
use Rattle.lapd_card.proofs.OneLine.{few_card}
use Rattle.lapd_card.proofs.Waiting.{first_marked, first_waiting}
use Rattle.lapd_card.specs.Waiting.{IsFirstWaiting, next_waiting}
use Rattle.lapd_card.proofs.frame_card.FrameCard.next_waiting.Goals as goal

pub returns-clause-next : goal.returns-clause-next
returns-clause-next g c = λ m s.
    let (are, all, few) = few_card g.S.Shelf.store c.self.view_is m s in
    first_marked c.self.inside.waiting m c.args.from c.lines.result c.first.result are (c.lines.ensures ∙ all) (omega (arith, few, c.lines.ensures)) c.first.ensures.marked c.first.ensures.others

pub returns-clause-first : goal.returns-clause-first
returns-clause-first g c = λ m s.
    let (are, all, few) = few_card g.S.Shelf.store c.self.view_is m s in
    let is : c.first.result ≡ next_waiting c.args.from m =
    first_marked c.self.inside.waiting m c.args.from c.lines.result c.first.result are (c.lines.ensures ∙ all) (omega (arith, few, c.lines.ensures)) c.first.ensures.marked c.first.ensures.others in
    subst (IsFirstWaiting c.args.from m) (sym is) (first_waiting c.args.from m)
