-- Each REJ with a valid N(R) is a frame of four octets that is heard.
use Rattle.model_line.proofs.Vocabulary.{◌≡◌, ℕ, ◌≤◌, Bool, false, List, [], ◌∷◌, length, nat_le, Result, refl, ap, arith, le-leb, ReadFault, Parts, reading, side_reading, Link, Config, one, is_long_frame, rejects_aimed, Line, aim_of_reading, heard_side, aim_of_heard, link_received, rises_rejects}
use Rattle.model_bits.specs.Stream.{Event}
use Rattle.model_line.proofs.ProperAims.{reading_aims}
use Rattle.model_line.proofs.Rejects.{NoReject, three_no_reject}

module _ (c : Config) (l : Line) where
  reading_no_reject : (r : Result Parts ReadFault) → NoReject r → rejects_aimed l (aim_of_reading c l r) ≡ false
  reading_no_reject r h =
      reading_aims c l (λ aim. rejects_aimed l aim ≡ false) (λ cause. refl) (λ what. (x : Link) → rises_rejects (link_received what) x ≡ false)
      (λ service tei place what none at. none _) (λ info. refl) (λ parts service to. refl) r (grind arith)

  at_most_one : (b : Bool) → one b ≤ 1
  at_most_one b = grind arith

  few_no_reject : (first second : ℕ) → NoReject (reading (heard_side c) []) × NoReject (reading (heard_side c) (first ∷ []))
      × NoReject (reading (heard_side c) (first ∷ second ∷ []))
  unfolding reading side_reading
  few_no_reject first second = (0, 0, 0)

  frame_counted : (octets : List ℕ) → one (rejects_aimed l (aim_of_reading c l (reading (heard_side c) octets))) ≤ one (nat_le 4 (length octets))
  frame_counted [] = omega (arith, ap one (reading_no_reject (reading (heard_side c) []) (few_no_reject 0 0).0))
  frame_counted (a ∷ []) = omega (arith, ap one (reading_no_reject (reading (heard_side c) (a ∷ [])) (few_no_reject a 0).1))
  frame_counted (a ∷ b ∷ []) = omega (arith, ap one (reading_no_reject (reading (heard_side c) (a ∷ b ∷ [])) (few_no_reject a b).2))
  frame_counted (a ∷ b ∷ third ∷ []) = omega (arith, ap one (reading_no_reject (reading (heard_side c) (a ∷ b ∷ third ∷ [])) (three_no_reject (heard_side c) a b third)))
  frame_counted (a ∷ b ∷ third ∷ d ∷ rest) = grind (arith, le-leb, at_most_one)

  -- what is heard brings an REJ only with a frame of four octets
  pub heard_rejects : (e : Event) → one (rejects_aimed l (aim_of_heard c l e)) ≤ one (is_long_frame e)
  heard_rejects e = grind (arith, frame_counted, at_most_one)
