-- The places that have been used are looked through.
use Rattle.std.proofs.Common.{refl, arith}
use Rattle.lapd_clock.proofs.Leading.{found-in}
use Rattle.lapd_clock.proofs.moments.lead.lead_after.Goals as goal

pub returns : goal.returns
returns c = λ count before p h high there moment_is places_is.
    found-in c.args.begin count c.args.bound c.args.place c.max-used.result c.args.lead before p h c.requires.within.0 high there (omega arith) (omega (arith, c.requires.within.0)) (omega (arith, h.fit, high, c.requires.within.0))
    c.args.places.now c.earliest-first.result.0 c.earliest-first.result.1 _ _ places_is (omega arith) (omega (arith, moment_is)) refl c.earliest-first.ensures
