-- The invariants of the loops of `named_in`.
use Rattle.lapd_script.proofs.Vocabulary.{◌≡◌, drop}
use Rattle.std.specs.Prelude.{map}
use Rattle.lapd_script.specs.Word.{named_in, row}
use Rattle.lapd_script.proofs.word.named_in.Given as goal

-- the rows so far have other names
abbrev pub invariant-loop-own : goal.invariant-loop-own
invariant-loop-own l = named_in l.name (map row l.rows) ≡ named_in l.name (map row (drop l.own-index l.rows))
