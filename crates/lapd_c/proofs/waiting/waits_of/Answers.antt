-- Hand-written answers for `waits_of`.
use Rattle.std.proofs.Common.{◌≡◌, ◌+◌, ◌<◌, ℕ, List, arith, ap, length, refl, subst, sym, ◌∙◌}
use Rattle.std.proofs.lemmas.List.{length-set}
use Rattle.model_card.specs.Card.{line_at}
use Rattle.model_card.proofs.Reaching.{reached-sound}
use Rattle.model_line.specs.declared.config.Config.{Config}
use Rattle.model_line.proofs.Ranges.{ranges_of}
use Rattle.lapd_c.specs.declared.link_marks.LinkMarks.{LinkMarks}
use Rattle.lapd_c.specs.Waiting.{line_waits}
use Rattle.model_bits.specs.Bits.{number_of}
use Rattle.lapd_c.proofs.Marking.{all_zeros, none_numbered, one_numbered, zeros_behind, zeros_on, AreZeros, NumbersSoFar}
use Rattle.lapd_c.proofs.waiting.waits_of.Goals.{in-Some, in_default}
use Rattle.lapd_c.proofs.waiting.waits_of.Goals as goal

pub loop-line-init : goal.loop-line-init
loop-line-init c = record { room = refl; zeros = λ k _. all_zeros 64 k; numbers = λ m s. record { numbers = refl } }

pub loop-line-preserved : goal.loop-line-preserved
loop-line-preserved c =
    let before = c.loop-line.invariant in
    let within : c.loop-line.line < length c.loop-line.waits = omega (arith, c.loop-line-test.true, c.min-line-end.ensures, before.room) in
    elim c.match-of.branch [
      | in-Some w ↦ record {
        room = ap (λ (ws : List ℕ). length ws) w.waits-is ∙ length-set c.loop-line.waits c.loop-line.line w.of_line.result ∙ before.room;
        zeros = subst (λ ws. AreZeros ws (c.loop-line.line + 1)) (sym w.waits-is) (zeros_behind c.loop-line.waits c.loop-line.line w.of_line.result before.zeros);
        numbers = λ m s.
            subst (λ ws. NumbersSoFar m c.args.refused.now ws (c.loop-line.line + 1)) (sym w.waits-is)
            (one_numbered m c.args.refused.now c.loop-line.waits c.loop-line.line w.of_line.result within
            (w.of_line.ensures m s ∙ ap (λ (links : LinkMarks). number_of (line_waits m.config (line_at c.loop-line.line m) links)) w.in-Some.ensures.there.1)
            (before.numbers m s));
      }
      | in_default w ↦ record {
        room = ap (λ (ws : List ℕ). length ws) w.waits-is ∙ before.room;
        zeros = subst (λ ws. AreZeros ws (c.loop-line.line + 1)) (sym w.waits-is) (zeros_on c.loop-line.waits c.loop-line.line before.zeros);
        numbers = λ m s.
            subst (λ ws. NumbersSoFar m c.args.refused.now ws (c.loop-line.line + 1)) (sym w.waits-is)
            (none_numbered m c.args.refused.now c.loop-line.waits c.loop-line.line within w.in_default.ensures.behind before.zeros (before.numbers m s));
      }
    ]

pub returns : goal.returns
returns c = λ m s.
    let sound = reached-sound m s.reached in
    let lines = ap (λ (d : Config). d.lines) s.config in
    let all : c.loop-line.line ≡ m.config.lines =
    omega (arith, c.loop-line-test.false, c.loop-line.auto.line-end, c.min-line-end.ensures, c.lines.ensures, lines, (ranges_of m.config sound.config).lines.most) in
    (subst (λ n. NumbersSoFar m c.args.refused.now c.loop-line.waits n) all (c.loop-line.invariant.numbers m s)).numbers
