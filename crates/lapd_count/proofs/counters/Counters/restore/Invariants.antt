-- The invariant of the loop of `Counters::restore`.
use Rattle.std.specs.Prelude.{◌≡◌, ◌≤◌, ◌++◌, All, flat_map, take}
use Rattle.lapd_image.specs.Numbers.{number}
use Rattle.lapd_count.specs.Counters.{most}
use Rattle.lapd_count.proofs.counters.Counters.restore.Given as goal

-- the counters so far are read
abbrev pub invariant-loop-value : goal.invariant-loop-value
invariant-loop-value l = record {
  read : l.fn.reader ≡ flat_map (number 8) (take l.value-index l.value-items) ++ l.reader;
  few : All (λ value. value ≤ most) (take l.value-index l.value-items);
}
