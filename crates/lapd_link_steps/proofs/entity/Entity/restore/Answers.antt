-- Hand-written answers for `Entity::restore`.
use Rattle.std.proofs.Common.{◌++◌, ◌∙◌, ap, arith, length}
use Rattle.lapd_image.proofs.Reading.{on_err}
use Rattle.lapd_link_steps.proofs.Image.{head-none, head-short, if_err}
use Rattle.lapd_link_steps.specs.Image.{octets_of}
use Rattle.lapd_link_steps.proofs.entity.Entity.restore.Goals as goal

pub returns-in_err-counts-clause-none : goal.returns-in_err-counts-clause-none
returns-in_err-counts-clause-none c =
    on_err c.from_residual-in_err-counts.result
    (head-short (omega (arith, ap length c.in_ok-octets.ensures.read, c.in_err-counts.ensures.short)))

pub returns-clause-none : goal.returns-clause-none
returns-clause-none c =
    if_err c.fill.result
    (head-none c.read_counts.new.reader c.in_ok-octets.octets c.in_ok-counts.counts
    (c.in_ok-octets.ensures.read ∙ ap (λ l. octets_of c.in_ok-octets.octets ++ l) c.in_ok-counts.ensures.read))
    c.fill.ensures.none
