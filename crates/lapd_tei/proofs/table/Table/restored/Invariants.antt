-- The invariant of the loop of `Table::restored`.
use Rattle.std.proofs.Common.{◌≡◌, length}
use Rattle.std.specs.Prelude.{flat_map}
use Rattle.lapd_image.specs.Reads.{IsReadAs}
use Rattle.model_teis.specs.TableImage.{one_place}
use Rattle.model_teis.specs.Table.{IsSoundTable}
use Rattle.lapd_tei.proofs.table.Table.restored.Given as goal

-- so many places are read
abbrev pub invariant-loop : goal.invariant-loop
invariant-loop l = record {
  count : length l.table ≡ l.counter;
  read : IsReadAs (flat_map one_place) IsSoundTable l.table l.initial.reader l.reader;
}
