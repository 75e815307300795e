-- The invariant of the loop of `Table::save`.
use Rattle.std.proofs.Common.{take}
use Rattle.lapd_image.specs.Puts.{Puts}
use Rattle.model_teis.specs.TableImage.{table}
use Rattle.lapd_tei.proofs.table.Table.save.Given as goal

abbrev pub invariant-loop-own : goal.invariant-loop-own
invariant-loop-own l = Puts (table (take l.own-index l.own-items)) l.at l.initial.out l.end l.out
