-- The invariants of the loops of `Counters::notes`.
use Rattle.lapd_count.proofs.Vocabulary.{◌≡◌, map, take, with_all, note_shown}
use Rattle.lapd_count.proofs.counters.Counters.notes.Given as goal

-- the notes so far are counted
abbrev pub invariant-loop-note : goal.invariant-loop-note
invariant-loop-note l = l.self ≡ with_all l.fn.self (map note_shown (take l.note-index l.notes))
