-- What an answer tells as given up: what a link tells, or nothing.
use Rattle.laws_trace.proofs.Vocabulary.{◌≡◌, Option, Refusal, Service, gave, told, refused, LineTold, NextFrame, given_up_in, given_up_of}
use Rattle.model_line.specs.Effect.{told_of_link}
use Rattle.model_link.specs.Told.{LinkTold}
use Rattle.laws_trace.proofs.Vocabulary.{arith}

-- What a link tells as given up, its line tells so.
pub of-its : (z : Service) (t : LinkTold) → given_up_in z (told (told_of_link t)) ≡ given_up_of z t
of-its z t = grind arith

-- Nothing is told of either service, by a refusal, or with a frame.
pub none-in : (t : LineTold) → t.given_up ≡ 0 → t.given_up_16 ≡ 0 → (z : Service) → given_up_in z (told t) ≡ 0
none-in t none h z = grind arith

pub none-refused : (why : Refusal) (z : Service) → given_up_in z (refused why) ≡ 0
none-refused why z = grind arith

pub none-gave : (o : Option NextFrame) (z : Service) → given_up_in z (gave o) ≡ 0
none-gave o z = grind arith
