-- The invariant of the loop of `Memory::restored`.
use Rattle.std.proofs.Common.{◌≡◌, length}
use Rattle.std.specs.Prelude.{flat_map}
use Rattle.lapd_image.specs.Reads.{IsReadAs}
use Rattle.model_teis.specs.network.Image.{IsMemory, remembered}
use Rattle.lapd_tei.proofs.remembered.Memory.restored.Given as goal

-- so many are read
abbrev pub invariant-loop : goal.invariant-loop
invariant-loop l = record {
  count : length l.memory ≡ l.counter;
  read : IsReadAs (flat_map remembered) (IsMemory l.table) l.memory l.initial.reader l.reader;
}
