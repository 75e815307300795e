-- Places that rest stand for an idle clock.
use Rattle.lapd_clock.proofs.Vocabulary.{◌+◌, ◌*◌, List, refl, sym, ap, subst, lengths_of, Expiry, IsSound, Timers}
use Rattle.lapd_clock.proofs.Kept.{idle-none}
use Rattle.lapd_clock.proofs.Ranges.{range_of}
use Rattle.lapd_clock.proofs.Running.{none_sound}
use Rattle.lapd_clock.proofs.clock.Clock.start_with.Goals as goal

pub invariant_of-result : goal.invariant_of-result
invariant_of-result c =
    let idle = c.in-Ok.ensures in
    record {
      count = idle.count;
      of_line = idle.of_line;
      sound = subst (λ (rs : List Expiry). IsSound (record { lines = c.args.lines; places = 4 * c.args.terminals + 1; lengths = lengths_of c.args.lengths; running = rs })) (sym (idle-none c.in-Ok.moments idle.rest)) (none_sound _ _ _ (range_of c.args.lengths));
      of_card = record { some_lines = c.requires.lines; terminals = c.args.terminals; some = c.requires.terminals; places_are = refl };
    }

pub returns-clause-idle : goal.returns-clause-idle
returns-clause-idle c =
    let clock : List Expiry → Timers = λ rs. record { lines = c.args.lines; places = 4 * c.args.terminals + 1; lengths = lengths_of c.args.lengths; running = rs } in
    ap clock (idle-none c.in-Ok.moments c.in-Ok.ensures.rest)

pub returns-clause-sound : goal.returns-clause-sound
returns-clause-sound c = (invariant_of-result c).sound
