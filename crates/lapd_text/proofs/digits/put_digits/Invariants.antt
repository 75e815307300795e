-- The invariants of the loops of `put_digits`.
use Rattle.lapd_text.proofs.Vocabulary.{◌≡◌, ◌+◌, ◌*◌, ◌++◌, drop, take, encode_upper}
use Rattle.lapd_text.proofs.digits.put_digits.Given as goal

-- the digits of the octets so far were put
abbrev pub invariant-loop-i : goal.invariant-loop-i
invariant-loop-i l = l.out ≡ take l.at l.fn.out ++ encode_upper (take l.i l.octets) ++ drop (l.at + 2 * l.i) l.fn.out
