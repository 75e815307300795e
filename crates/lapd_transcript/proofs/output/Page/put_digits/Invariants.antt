-- The invariants of the loops of `Page::put_digits`.
use Rattle.lapd_transcript.proofs.Vocabulary.{take, [], ◌∷◌, flat_map, encode_upper, on, IsPut}
use Rattle.lapd_transcript.proofs.output.Page.put_digits.Given as goal

-- the digits of the octets so far were put
abbrev pub invariant-loop-octet : goal.invariant-loop-octet
invariant-loop-octet g l = IsPut (on g.T.Target.taken l.fn.self) (on g.T.Target.taken l.self) (flat_map (λ octet. encode_upper (octet ∷ [])) (take l.octet-index l.octets))
