-- Hand-written answers for `lapd_image_octets`.
use Rattle.std.proofs.Common.{true, arith, ap, sym, ◌∙◌}
use Rattle.model_line.specs.Most.{most_octets}
use Rattle.model_line.specs.declared.config.Config.{Config}
use Rattle.lapd_c.specs.Config.{config_fault, config_in}
use Rattle.lapd_c.proofs.MostOctets.{few-octets, most_of, read-none}
use Rattle.lapd_c.proofs.Starting.{read-is}
use Rattle.lapd_c.proofs.saved.lapd_image_octets.Goals as goal

pub overflow_cast-result : goal.overflow_cast-result
overflow_cast-result c = omega (arith, c.image_octets.ensures, few-octets c.in-Ok.config c.in-Ok.ensures.in_range)

pub returns-in-Ok : goal.returns-in-Ok
returns-in-Ok c =
    let p = c.args.config.now in
    c.image_octets.ensures
    ∙ ap (λ (d : Config). most_octets d true) (read-is (config_fault p) c.read.result (config_in p) c.in-Ok.config c.read.ensures.fault c.read.ensures.config c.in-Ok.is)
    ∙ sym (most_of p (read-none (config_fault p) c.read.result c.in-Ok.config c.read.ensures.fault c.in-Ok.is))
