-- Hand-written answers for `Table::restored`.
use Rattle.std.proofs.Common.{arith, ap, length, length-append, subst, sym, [], ◌++◌, ◌<◌, ◌∙◌, ◌∷◌}
use Rattle.std.specs.Prelude.{flat_map}
use Rattle.lapd_image.specs.Reads.{IsReadAs}
use Rattle.lapd_image.proofs.Reading.{on_err}
use Rattle.model_teis.specs.TableImage.{one_place}
use Rattle.model_teis.specs.Table.{IsSoundTable}
use Rattle.lapd_tei.proofs.TableRead.{table-begun, table-more, table-none, table-whole}
use Rattle.lapd_tei.proofs.table.Table.restored.Goals as goal

pub loop-init : goal.loop-init
loop-init c = record { count = ap length c.new.ensures; read = table-begun _ _ c.new.ensures }

pub returns-in_err-own-clause-none : goal.returns-in_err-own-clause-none
returns-in_err-own-clause-none c =
    let fewer : length c.loop.table < length c.args.self.now =
    omega (arith, c.loop-test.true, c.loop.invariant.count, c.len-end.ensures.value, ap length c.self.view_is) in
    on_err c.from_residual.result (table-none c.loop.table c.args.self.now fewer c.loop.invariant.read c.in_err-own.ensures.none)

pub loop-preserved : goal.loop-preserved
loop-preserved c =
    let items = c.push.ensures.items ∙ ap (λ l. l ++ c.in_ok-own.own ∷ []) c.table.view_is in
    record {
      count = omega (arith, ap length items, length-append c.loop.table (c.in_ok-own.own ∷ []), c.loop.invariant.count);
      read =
          subst (λ places. IsReadAs (flat_map one_place) IsSoundTable places c.args.reader.now c.next_restored.new.reader) (sym items)
          (table-more c.loop.table c.loop.invariant.read c.in_ok-own.ensures.read);
    }

pub returns-clause-read : goal.returns-clause-read
returns-clause-read c =
    table-whole
    (omega (arith, c.loop-test.false, c.loop.auto.counter-end, c.loop.invariant.count, c.len-end.ensures.value, ap length c.self.view_is))
    c.loop.invariant.read
