-- Worked values: three contents one way and two the other arrive while both ways are busy at once.
use Rattle.std.specs.Prelude.{◌≡◌, List, [], ◌∷◌, ◌++◌, refl}
use Rattle.laws_link.specs.WorkedWords.{seq, distance_of, named, supervisory_of, unnumbered_of, control_of, header_of, reading, after_all, Ends, sends, receives, StepAt, at_near, at_far, doing_all, weight}
use Rattle.laws_link.specs.two.WorkedRounds.{octets, asked}

-- Each end gives an I-frame before it has received the other's first.
abbrev pub crossing : List StepAt
crossing =
    at_near sends ∷ at_far sends ∷ at_near sends ∷ at_far receives ∷ at_near receives ∷ at_near sends ∷ at_far receives ∷ at_far sends ∷ at_far receives
    ∷ at_near receives ∷ []

abbrev crossed : Ends
crossed = doing_all crossing asked

weight_at_first : weight asked ≡ 20
unfolding seq distance_of named reading header_of control_of unnumbered_of supervisory_of after_all doing_all
weight_at_first = refl

weight_then : weight crossed ≡ 4
unfolding seq distance_of named reading header_of control_of unnumbered_of supervisory_of after_all doing_all
weight_then = refl

-- Four turns more, and none is left.
abbrev pub settling : List StepAt
settling = crossing ++ at_near sends ∷ at_far receives ∷ at_far sends ∷ at_near receives ∷ []

abbrev pub settled : Ends
settled = doing_all settling asked

all_at_far : settled.far.delivered ≡ octets
unfolding seq distance_of named reading header_of control_of unnumbered_of supervisory_of after_all doing_all
all_at_far = refl

all_at_near : settled.near.delivered ≡ (4 ∷ []) ∷ (5 ∷ []) ∷ []
unfolding seq distance_of named reading header_of control_of unnumbered_of supervisory_of after_all doing_all
all_at_near = refl

weight_at_last : weight settled ≡ 0
unfolding seq distance_of named reading header_of control_of unnumbered_of supervisory_of after_all doing_all
weight_at_last = refl
