-- A request that is granted is not refused.
use Rattle.laws_line.proofs.Vocabulary.{arith, ◌≡◌, true, false, None, Config, request, Line, Request, answer, refusal, is_granted}

pub not-refused : (c : Config) (r : Request) (l : Line) → is_granted (answer c (request r) l) ≡ true → refusal c false r l ≡ None
unfolding answer
not-refused c r l g = grind arith
