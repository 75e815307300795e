-- Worked values: what two links that face each other have accepted, while a frame is lost and sent again.
use Rattle.std.specs.Prelude.{◌≡◌, ℕ, List, [], ◌∷◌, ◌++◌, refl}
use Rattle.laws_link.specs.WorkedWords.{seq, distance_of, named, supervisory_of, unnumbered_of, control_of, header_of, reading, after_all, sends, receives, StepAt, at_near, at_far, doing_all}
use Rattle.laws_link.specs.two.WorkedEnds.{both, mended}

abbrev seven : List (List ℕ)
seven = (1 ∷ []) ∷ (2 ∷ []) ∷ (3 ∷ []) ∷ (4 ∷ []) ∷ (5 ∷ []) ∷ (6 ∷ []) ∷ (7 ∷ []) ∷ []

-- The five from the third on went again, and what comes back acknowledges all seven: near's link holds them.
abbrev acknowledging : List StepAt
acknowledging = mended ++ at_far sends ∷ at_near receives ∷ []

held : (doing_all acknowledging both).near.link.contents ≡ seven
unfolding seq distance_of named reading header_of control_of unnumbered_of supervisory_of after_all doing_all
held = refl
