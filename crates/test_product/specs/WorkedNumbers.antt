-- Worked values of the definitions: with 5 acknowledged and 132 sent every N(R) is valid, with 126 and 129 only four
-- are.
use Rattle.std.specs.Prelude.{◌≡◌, Some, None, refl}
use Rattle.lapd_seq.specs.Numbers.{seq}
use Rattle.lapd_seq.specs.Circle.{distance_of, named}

pub sequence-number-of-132 : (seq 132).value ≡ 4
unfolding seq
sequence-number-of-132 = refl

pub steps-from-5-to-4 : distance_of (seq 5) (seq 132) ≡ 127
unfolding seq distance_of
steps-from-5-to-4 = refl

pub named-4-of-5-to-132 : named 5 132 (seq 4) ≡ Some 132
unfolding seq distance_of named
named-4-of-5-to-132 = refl

pub named-5-of-5-to-132 : named 5 132 (seq 5) ≡ Some 5
unfolding seq distance_of named
named-5-of-5-to-132 = refl

pub named-1-of-126-to-129 : named 126 129 (seq 1) ≡ Some 129
unfolding seq distance_of named
named-1-of-126-to-129 = refl

pub named-2-of-126-to-129 : named 126 129 (seq 2) ≡ None
unfolding seq distance_of named
named-2-of-126-to-129 = refl

pub named-125-of-126-to-129 : named 126 129 (seq 125) ≡ None
unfolding seq distance_of named
named-125-of-126-to-129 = refl
