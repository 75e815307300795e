-- Hand-written answers for `put_lines`.
use Rattle.std.proofs.Common.{◌≡◌, add-one, arith, subst}
use Rattle.std.specs.Prelude.{flat_map}
use Rattle.lapd_image.specs.Numbers.{list_of}
use Rattle.lapd_image.specs.Puts.{Puts}
use Rattle.lapd_image.proofs.Puts.{puts-none, puts-same, puts-then}
use Rattle.lapd_clock.specs.Image.{timer}
use Rattle.lapd_clock.specs.Kept.{held_by_lines}
use Rattle.lapd_clock.proofs.Images.{fits, one-list-more}
use Rattle.lapd_clock.proofs.clock.saved.put_lines.Goals as goal

pub loop-line-init : goal.loop-line-init
loop-line-init c = puts-none c.requires.within

pub put_line-end-requires-clause-there : goal.put_line-end-requires-clause-there
put_line-end-requires-clause-there c = omega (arith, c.requires.there, fits c.loop-line.line c.args.lines c.args.places (omega (arith, c.loop-line-test.true)))

pub put_line-end-requires-clause-within : goal.put_line-end-requires-clause-within
put_line-end-requires-clause-within c = c.loop-line.invariant.within

pub loop-line-preserved : goal.loop-line-preserved
loop-line-preserved c = rw add-one (puts-same (one-list-more c.args.places c.loop-line.line c.args.moments.now) (puts-then c.loop-line.invariant c.put_line-end.ensures))

pub returns : goal.returns
returns c =
    let all : c.loop-line.line ≡ c.args.lines = omega (arith, c.loop-line-test.false, c.loop-line.auto.line-end) in
    subst (λ n. Puts (flat_map (list_of timer) (held_by_lines c.args.places n c.args.moments.now)) c.args.at c.args.out.now c.loop-line.end c.loop-line.out) all c.loop-line.invariant
