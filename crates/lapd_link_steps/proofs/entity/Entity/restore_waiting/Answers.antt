-- Hand-written answers for `Entity::restore_waiting`.
use Rattle.std.proofs.Common.{◌∙◌, ◌∷◌, [], ap, arith, length, length-append}
use Rattle.lapd_image.proofs.Reading.{on_err}
use Rattle.lapd_link_steps.proofs.ControlFrames.{frames-more, frames-none, kept-through}
use Rattle.lapd_link_steps.specs.declared.entity.Entity.{Entity}
use Rattle.lapd_link_steps.proofs.entity.Entity.restore_waiting.Goals as goal

pub returns-in_err-frame-clause-none : goal.returns-in_err-frame-clause-none
returns-in_err-frame-clause-none c =
    on_err c.from_residual-in_err-frame.result
    (frames-none c.loop.self.waiting.items c.in_ok-octet.ensures.read
    (omega (arith, c.loop.invariant.count, c.loop-test.true, c.from-count.ensures)) c.loop.invariant.read c.in_err-frame.ensures.none)

pub loop-preserved : goal.loop-preserved
loop-preserved c =
    let items = ap (λ (e : Entity). e.waiting.items) c.await_sending.ensures in
    record {
      count = omega (arith, ap length items, length-append c.loop.self.waiting.items (c.in_ok-frame.frame ∷ []), c.loop.invariant.count);
      ring = ap (λ (e : Entity). e.waiting.capacity) c.await_sending.ensures ∙ c.loop.invariant.ring;
      kept = kept-through c.args.self.now _ c.loop.invariant.kept c.await_sending.ensures;
      read =
          frames-more c.loop.self.waiting.items
          (omega (arith, c.loop.invariant.count, c.loop-test.true, c.if-count-capacity.false, c.capacity.ensures.capacity))
          items c.loop.invariant.read c.in_ok-frame.ensures.read;
    }
