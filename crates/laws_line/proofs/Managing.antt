-- What TEI management makes of an event, and when it refuses none.
use Rattle.laws_line.proofs.Vocabulary.{◌≡◌, Bool, false, None, refl, Refusal, refusal_if}

pub by-two : (a b : Bool) (x y : Refusal) → a ≡ false → b ≡ false → refusal_if a x (refusal_if b y None) ≡ None
by-two a b x y e e' = rw (e, e') refl
