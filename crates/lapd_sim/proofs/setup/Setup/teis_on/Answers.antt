-- Hand-written answers for `Setup::teis_on`.
use Rattle.lapd_sim.proofs.Vocabulary.{◌≡◌, ◌+◌, length, take, filter, ap, sym, subst, ◌∙◌, arith, is_on_line, frames_of, FrameCardStands, SetupStands, range_with_len, is_some, length-set}
use Rattle.lapd_sim.specs.machine.Setup as machine
use Rattle.lapd_sim.specs.machine.Steps.{teis_on}
use Rattle.lapd_sim.proofs.Boards.{inside}
use Rattle.lapd_sim.proofs.GivingUp.{found, not_found}
use Rattle.lapd_sim.proofs.setup.Setup.teis_on.Goals as goal
use Rattle.lapd_sim.proofs.setup.Setup.teis_on.Goals.{then-is_some, else-is_some}

pub loop-tei-preserved : goal.loop-tei-preserved
loop-tei-preserved c =
    let before = c.loop-tei.invariant in
    let count = c.loop-tei.count in
    let tei = c.loop-tei.tei in
    let state = λ (m : machine.Setup) (h : SetupStands c.args.self.now m).
    ap is_some (c.state.ensures m.board.card.card (subst (λ f. FrameCardStands f m.board.card.card) (sym (c.frames-frames.ensures.card ∙ ap frames_of c.card.ensures)) (inside c.args.self.now.timed.card m.board h.board))) in
    elim c.if-is_some.branch [
      | then-is_some w ↦ record {
        size = ap (λ xs. length xs) w.room-is ∙ length-set c.loop-tei.room count tei ∙ before.size;
        few = omega (arith, w.count-is, before.few);
        teis = λ m h.
            ap (λ n. take n c.if-is_some.room) w.count-is ∙ ap (take (count + 1)) w.room-is
            ∙ found (is_on_line c.args.line m.board) tei count c.loop-tei.room (sym (w.if-is_some.ensures ∙ state m h)) (omega (arith, before.few, before.size, c.requires, c.loop-tei-test.true)) (before.teis m h);
      }
      | else-is_some w ↦ record {
        size = ap (λ xs. length xs) w.room-is ∙ before.size;
        few = omega (arith, w.count-is, before.few);
        teis = λ m h.
            ap (λ n. take n c.if-is_some.room) w.count-is ∙ ap (take count) w.room-is
            ∙ not_found (is_on_line c.args.line m.board) tei (take count c.loop-tei.room) (sym (w.if-is_some.ensures ∙ state m h)) (before.teis m h);
      }
    ]

pub returns-clause-teis : goal.returns-clause-teis
unfolding teis_on
returns-clause-teis c = λ m h.
    let all : c.loop-tei.tei ≡ 127 = omega (arith, c.loop-tei.auto.tei-end, c.loop-tei-test.false) in
    subst (λ n. take c.loop-tei.count c.loop-tei.room ≡ filter (is_on_line c.args.line m.board) (range_with_len 0 n)) all (c.loop-tei.invariant.teis m h)
