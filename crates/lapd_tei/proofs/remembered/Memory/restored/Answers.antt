-- Hand-written answers for `Memory::restored`.
use Rattle.std.proofs.Common.{arith, ap, length, length-append, subst, sym, [], ◌++◌, ◌<◌, ◌∙◌, ◌∷◌}
use Rattle.std.specs.Prelude.{flat_map}
use Rattle.lapd_image.specs.Reads.{IsReadAs}
use Rattle.lapd_image.proofs.ReadLists.{list-cut, list-many}
use Rattle.lapd_image.proofs.Reading.{on_err}
use Rattle.model_teis.specs.network.Image.{IsMemory, IsMemoryOf, remembered}
use Rattle.lapd_tei.proofs.MemoryRead.{memory-begun, memory-few, memory-more, memory-none, memory-whole, most-four}
use Rattle.lapd_tei.proofs.remembered.Memory.restored.Goals as goal

pub returns-in_err-count-clause-none : goal.returns-in_err-count-clause-none
returns-in_err-count-clause-none c = on_err c.from_residual.result (list-cut remembered (IsMemoryOf c.args.reading c.args.table.now) c.in_err-count.ensures.none)

pub returns-then-count-most-clause-none : goal.returns-then-count-most-clause-none
returns-then-count-most-clause-none c =
    list-many remembered (IsMemoryOf c.args.reading c.args.table.now) _ (memory-few c.args.reading c.args.table.now) c.in_ok-count.ensures.read
    (omega (arith, c.if-count-most.true, c.most.ensures))

pub loop-init : goal.loop-init
loop-init c = record { count = ap length c.new-memory.ensures; read = memory-begun c.args.table.now _ _ c.new-memory.ensures }

pub returns-in_err-one-clause-none : goal.returns-in_err-one-clause-none
returns-in_err-one-clause-none c =
    let fewer : length c.loop.memory < c.in_ok-count.count = omega (arith, c.loop-test.true, c.loop.invariant.count) in
    on_err c.from_residual-in_err-one.result
    (memory-none c.args.reading c.args.table.now c.loop.memory c.in_ok-count.ensures.read fewer c.loop.invariant.read c.in_err-one.ensures.none)

pub loop-preserved : goal.loop-preserved
loop-preserved c =
    let items = c.push.ensures.items ∙ ap (λ l. l ++ c.in_ok-one.one ∷ []) c.memory.view_is in
    record {
      count = omega (arith, ap length items, length-append c.loop.memory (c.in_ok-one.one ∷ []), c.loop.invariant.count);
      read =
          subst (λ all. IsReadAs (flat_map remembered) (IsMemory c.args.table.now) all c.octet.new.self c.next_restored.new.reader) (sym items)
          (memory-more c.args.table.now c.loop.memory c.loop.invariant.read c.in_ok-one.ensures.read);
    }

pub returns-clause-read : goal.returns-clause-read
returns-clause-read c =
    memory-whole c.args.reading c.args.table.now c.loop.memory c.in_ok-count.ensures.read
    (omega (arith, c.loop-test.false, c.loop.auto.counter-end, c.loop.invariant.count)) (omega (arith, c.if-count-most.false, c.most.ensures)) c.loop.invariant.read

pub next_restored-requires-clause-few : goal.next_restored-requires-clause-few
next_restored-requires-clause-few c =
    omega (arith, c.loop-test.true, c.loop.invariant.count, c.if-count-most.false, c.most.ensures, most-four c.args.reading)
