-- The invariant of the loop of `Memory::save`.
use Rattle.std.proofs.Common.{ℕ, ◌<◌, get_or, take}
use Rattle.std.specs.Prelude.{flat_map}
use Rattle.lapd_image.specs.Puts.{Puts}
use Rattle.model_teis.specs.network.Image.{HasRi, remembered}
use Rattle.model_teis.specs.declared.network.remembered.Remembered.{Remembered}
use Rattle.lapd_tei.proofs.remembered.Memory.save.Given as goal

abbrev pub invariant-loop-one : goal.invariant-loop-one
invariant-loop-one l = record {
  puts : Puts (flat_map remembered (take l.one-index l.one-items)) l.initial.end l.initial.out l.end l.out;
  saved : (k : ℕ) (d : Remembered) → k < l.one-index → HasRi (get_or l.one-items k d);
}
