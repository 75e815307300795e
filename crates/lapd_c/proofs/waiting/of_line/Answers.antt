-- Hand-written answers for `of_line`.
use Rattle.std.proofs.Common.{◌≡◌, ◌-◌, ◌<◌, arith, ap, map, ◌∙◌}
use Rattle.std.specs.List.{range_with_len}
use Rattle.model_bits.specs.Bits.{bit_value, number_of}
use Rattle.model_card.specs.Card.{line_at}
use Rattle.model_card.proofs.Reaching.{reached-sound}
use Rattle.model_card.proofs.Steps.{has_lines, line_sound}
use Rattle.model_line.specs.declared.config.Config.{Config}
use Rattle.model_line.proofs.Ranges.{ranges_of}
use Rattle.lapd_c.specs.Waiting.{is_waiting}
use Rattle.lapd_c.proofs.Marking.{all_numbers, bit_told, next_numbered, next_small}
use Rattle.lapd_c.proofs.waiting.of_line.Goals as goal

pub loop-behind-preserved : goal.loop-behind-preserved
loop-behind-preserved c =
    let bit = bit_told c.is_waiting-waits_too.result c.from.result c.from.ensures in record {
      small = next_small c.is_waiting-waits_too.result c.loop-behind.waits c.from.result c.loop-behind.behind c.loop-behind.invariant.small bit;
      numbers = λ m s.
          next_numbered (is_waiting (line_at c.args.line m) c.args.links.now) c.loop-behind.behind c.loop-behind.waits c.from.result (16 - 1 - c.loop-behind.behind)
          (omega (arith, c.loop-behind-test.true)) (c.loop-behind.invariant.numbers m s) (bit ∙ ap bit_value (c.is_waiting-waits_too.ensures m s));
    }

pub returns : goal.returns
returns c = λ m s.
    let sound = reached-sound m s.reached in
    let all : c.loop-behind.behind ≡ 16 = omega (arith, c.loop-behind-test.false, c.loop-behind.auto.behind-end) in
    let within : c.args.line < m.config.lines = omega (arith, c.requires, ap (λ (d : Config). d.lines) s.config) in
    c.loop-behind.invariant.numbers m s
    ∙ (λ i. number_of (map (is_waiting (line_at c.args.line m) c.args.links.now) (range_with_len (16 - all i) (all i))))
    ∙ all_numbers m.config (line_at c.args.line m) (line_sound m c.args.line (has_lines m sound) within) c.args.links.now (ranges_of m.config sound.config).terminals.most
