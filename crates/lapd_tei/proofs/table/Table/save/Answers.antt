-- Hand-written answers for `Table::save`.
use Rattle.std.proofs.Common.{None, [], ◌∷◌, add-one, ap, take_all, ◌∙◌}
use Rattle.lapd_image.proofs.Puts.{puts-none, puts-same, puts-next_octet}
use Rattle.model_teis.specs.TableImage.{place, table}
use Rattle.lapd_tei.proofs.table.Table.save.Goals as goal

pub loop-own-init : goal.loop-own-init
loop-own-init c = puts-none c.requires

pub loop-own-preserved : goal.loop-own-preserved
loop-own-preserved c =
    rw add-one (puts-next_octet place _ c.loop-own.own-index None c.loop-own-test.true c.loop-own.invariant
    (puts-same (ap (λ octet. octet ∷ []) c.octet_of.ensures) c.put_octet-end.ensures))

pub returns : goal.returns
returns c =
    puts-same (ap table (take_all c.loop-own.own-index _ c.loop-own-test.false ∙ c.as_slice-own-items.ensures.value ∙ c.self.view_is)) c.loop-own.invariant
