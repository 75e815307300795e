-- An end that has caught up with all that is granted has each place of its queue.
use Rattle.laws_time.proofs.Vocabulary.{AllPlacesAreFree, Ok, Option, Refusal, Room, arith, unless, ◌≡◌}

pub its-room : (o : Option Refusal) (r left : Room) → unless o r ≡ Ok left → r ≡ left
its-room o r left h1z = grind arith

pub all-places-are-free : AllPlacesAreFree
all-places-are-free l h now s h' = grind arith
