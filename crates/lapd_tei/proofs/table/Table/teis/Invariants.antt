-- The invariant of the loop of `Table::teis`.
use Rattle.lapd_tei.proofs.Vocabulary.{◌≡◌, take, teis_on}
use Rattle.lapd_tei.proofs.table.Table.teis.Given as goal

abbrev pub invariant-loop-own : goal.invariant-loop-own
invariant-loop-own l = l.teis.items ≡ teis_on (take l.own-index l.own-items)
