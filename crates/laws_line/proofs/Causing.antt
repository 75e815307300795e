-- Why a message of TEI management comes to wait: each event of a line.
use Rattle.laws_line.proofs.Vocabulary.{◌≡◌, arith, Address, Config, Aim, Line, addressed, LinkReceived}

-- A message of a terminal is an event of TEI management.
module _ (c : Config) (l : Line) where
  pub to-group : (address : Address) (what : LinkReceived) (m : Aim) → address.sapi ≡ 63 → address.tei ≡ 127 → addressed l address what m ≡ m
  to-group address what m sapi group = grind arith
