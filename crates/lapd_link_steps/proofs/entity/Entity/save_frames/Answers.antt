-- Hand-written answers for `Entity::save_frames`.
use Rattle.std.proofs.Common.{◌<◌, add-one, ap, arith, length, sym, take, take_all}
use Rattle.std.specs.Prelude.{flat_map}
use Rattle.lapd_image.proofs.Puts.{puts-next, puts-none, puts-same}
use Rattle.lapd_link_steps.proofs.Image.{some_frame}
use Rattle.lapd_link_steps.proofs.entity.Entity.save_frames.Goals as goal
use Rattle.model_link.specs.Image.{control_frame}

pub save_frame-end-requires-clause-within : goal.save_frame-end-requires-clause-within
save_frame-end-requires-clause-within c = c.loop-place.invariant.within

pub loop-place-init : goal.loop-place-init
loop-place-init c = puts-none c.requires.within

pub loop-place-preserved : goal.loop-place-preserved
loop-place-preserved c =
    let within : c.loop-place.place < length c.args.self.now.waiting.items = omega (arith, c.loop-place-test.true, c.len-place-end.ensures.len) in
    puts-same (ap (λ n. flat_map control_frame (take n c.args.self.now.waiting.items)) (sym (add-one c.loop-place.place)))
    (puts-next control_frame c.args.self.now.waiting.items c.loop-place.place some_frame within c.loop-place.invariant (c.save_frame-end.ensures some_frame))

pub returns : goal.returns
returns c =
    puts-same
    (ap (flat_map control_frame) (take_all c.loop-place.place c.args.self.now.waiting.items (omega (arith, c.loop-place-test.false, c.len-place-end.ensures.len))))
    c.loop-place.invariant
