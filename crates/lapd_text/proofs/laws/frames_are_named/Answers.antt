-- Hand-written answers for `frames_are_named`.
use Rattle.lapd_text.proofs.Named as named
use Rattle.lapd_text.proofs.laws.frames_are_named.Goals as goal

pub returns : goal.returns
returns c = named.frames_are_named
