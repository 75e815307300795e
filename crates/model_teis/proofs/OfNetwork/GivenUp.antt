-- What a line that is down leaves of TEI management.
use Rattle.model_teis.proofs.OfNetwork.Vocabulary.{arith, ◌≡◌, Option, [], None, false, refl, length, replicate, Management, Check, Course, begun, withdraw, no_check_is_due, end_if_any, course, refusal, DownGivesUp, stop_of, nothing}

abbrev Leaves : Management → Option Check → Course → Type 0
Leaves m o c = (c.now ≡ record m { check = None; to_check = replicate (length m.to_check) false; waiting = [] }) × (c.told ≡ record nothing { orders = stop_of o })

ends : (m : Management) (o : Option Check) → m.check ≡ o → Leaves m o (end_if_any o (no_check_is_due (withdraw (begun m))))
ends m o e = grind arith

pub down_gives_up : DownGivesUp
unfolding course refusal
down_gives_up m = let e = ends m m.check refl in record { after = e.0; told = e.1 }
