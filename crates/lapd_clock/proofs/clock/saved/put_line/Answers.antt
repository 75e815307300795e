-- Hand-written answers for `put_line`.
use Rattle.std.proofs.Common.{◌*◌, ◌∷◌, ◌∙◌, add-one, arith, ap, filter, sym, take_all}
use Rattle.std.specs.Prelude.{flat_map}
use Rattle.std.proofs.lemmas.List.{length-map}
use Rattle.lapd_image.proofs.Puts.{puts-next, puts-none, puts-same, puts-then}
use Rattle.lapd_clock.specs.Kept.{held_of, places_from, timer_at}
use Rattle.lapd_clock.specs.OwnPlaces.{is_running, nothing}
use Rattle.lapd_clock.proofs.Images.{at-offset, so-many, timers-at}
use Rattle.lapd_clock.proofs.clock.saved.put_line.Goals as goal

pub loop-offset-init : goal.loop-offset-init
loop-offset-init c = puts-none c.put_octet-end.ensures.within

pub loop-offset-preserved : goal.loop-offset-preserved
loop-offset-preserved c =
    let begin = c.args.line * c.args.places in
    let its = places_from begin c.args.places c.args.moments.now in
    rw add-one (puts-next timer_at its c.loop-offset.offset nothing (omega (arith, c.loop-offset-test.true, so-many begin c.args.places c.args.moments.now c.requires.there)) c.loop-offset.invariant
    (puts-same (ap timer_at (sym (at-offset begin c.args.places c.loop-offset.offset c.args.moments.now (omega (arith, c.loop-offset-test.true))))) c.put_place-end.ensures))

pub returns : goal.returns
returns c =
    let begin = c.args.line * c.args.places in
    let its = places_from begin c.args.places c.args.moments.now in
    let all = take_all c.loop-offset.offset its (omega (arith, c.loop-offset-test.false, so-many begin c.args.places c.args.moments.now c.requires.there)) in
    let count = c.count.ensures ∙ sym (length-map (filter is_running its) held_of) in
    let octets = ap (flat_map timer_at) all ∙ timers-at its in
    puts-same (λ i. count i ∷ octets i) (puts-then c.put_octet-end.ensures c.loop-offset.invariant)
