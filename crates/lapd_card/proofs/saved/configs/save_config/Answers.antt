-- Hand-written answers for `save_config`.
use Rattle.lapd_card.proofs.Vocabulary.{arith, ranges_of, sym, ap, ◌∙◌}
use Rattle.lapd_image.proofs.Puts.{puts-none, puts-same, puts-then}
use Rattle.model_line.specs.ConfigImage.{seed}
use Rattle.lapd_image.specs.Numbers.{number}
use Rattle.lapd_card.proofs.Configs.{config_put}
use Rattle.lapd_card.proofs.saved.configs.save_config.Goals as goal

pub overflow_cast-front-9 : goal.overflow_cast-front-9
overflow_cast-front-9 c = let few = (ranges_of c.args.config.now c.requires.range).sapi.most in grind (arith, few)

pub returns-in-Some : goal.returns-in-Some
returns-in-Some c =
    puts-same (config_put c.args.config.now c.flags.ensures c.from.ensures c.from-2.ensures (ap (number 2) c.from-in-Some.ensures ∙ ap seed (sym c.in-Some.is)))
    (puts-then c.put_octets-at.ensures (puts-then c.put_number-at.ensures (puts-then c.put_number-at-2.ensures c.put_number.ensures)))

pub returns-in-None : goal.returns-in-None
returns-in-None c =
    puts-same (config_put c.args.config.now c.flags.ensures c.from.ensures c.from-2.ensures (ap seed (sym c.in-None.is)))
    (puts-then c.put_octets-at.ensures (puts-then c.put_number-at.ensures (puts-then c.put_number-at-2.ensures (puts-none c.put_number-at-2.ensures.within))))
