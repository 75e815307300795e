-- Each event that brings an REJ with a valid N(R) is heard as a frame of four octets.
use Rattle.model_line.proofs.Vocabulary.{◌≡◌, false, refl, arith, Timer, Config, Event, rejects_aimed, aim_of_expiry, IsRejectHeard, Line}
use Rattle.model_line.proofs.ProperAims.{expiry_aims, request_aims}
use Rattle.model_line.proofs.RejectsHeard.{heard_rejects}

pub expiry_none : (l : Line) (timer : Timer) → rejects_aimed l (aim_of_expiry timer l) ≡ false
expiry_none l = expiry_aims l (λ aim. rejects_aimed l aim ≡ false) refl (λ service tei place timer at. refl) refl refl

pub event_rejects : (c : Config) (e : Event) (l : Line) → IsRejectHeard c e l
event_rejects c e l = grind (arith, heard_rejects, expiry_none, request_aims)
