-- What a configuration lets go before a control frame that waits.
use Rattle.laws_line.proofs.Vocabulary.{◌≡◌, ℕ, ◌+◌, ◌≤◌, ◌<◌, List, ◌∷◌, ◌++◌, length, Some, arith, length-append, nat_le, mul-le-mul_right, leb-false, ControlFrame, Config, Line, link_count, place_at, tei_at, link_at, IsInRange, IsSound, frames_before, most_frames_before}
use Rattle.laws_line.proofs.Bounds.{messages-few}

-- by numbers alone
pub few-before : (c : Config) (l : Line) → IsSound c l → (number others : ℕ) → number < link_count c → others + 1 ≤ c.control
    → frames_before c l number others ≤ most_frames_before c
few-before c l s number others few room = grind (arith, nat_le, leb-false, mul-le-mul_right, messages-few)

-- what waits of a link has room
module _ (c : Config) (ranged : IsInRange c) (l : Line) (s : IsSound c l) (number tei : ℕ) (few : number < link_count c)
    (at : tei_at (place_at number) l ≡ Some tei) (before : List ControlFrame) (f : ControlFrame) (behind : List ControlFrame)
    (waits : (link_at number l).waiting ≡ before ++ f ∷ behind) where
  ring : length (link_at number l).waiting ≤ c.control
  ring = grind arith

  pub others-fit : length before + 1 ≤ c.control
  others-fit = grind (arith, length-append, ring)
