-- The frames that a link sends are frames of the exchange, of at most four octets.
use Rattle.model_link.proofs.Vocabulary.{◌≡◌, ◌<◌, ◌≤◌, Bool, false, IsTrue, length, refl, arith, Network, Sabme, Ua, Service, IsFrame, allows, takes, row, spelling, sapi_of, Terms, ControlFrame, Link, frame_of, IsWaitingFrame, is_information, command, response, rr_or_rnr}

pub sapi-small : (service : Service) → sapi_of service < 64
sapi-small service = grind arith

-- a frame of a row of table 5 without information
pub frame_without_information : (t : Terms) (f : ControlFrame) → t.tei ≤ 126 → IsTrue (allows (row f.control).kind f.command)
    → IsTrue (takes (row f.control).info 0) → IsFrame (frame_of t f)
frame_without_information t f r kind size = grind (arith, sapi-small)

-- A frame that may wait, for any TEI of a terminal.
pub record Waits (t : Terms) (f : ControlFrame) : Type 0 where
  pub waits : t.tei ≤ 126 → IsWaitingFrame t f

pub may_wait : (t : Terms) (f : ControlFrame) → IsTrue (allows (row f.control).kind f.command) → IsTrue (takes (row f.control).info 0)
    → length (spelling Network (frame_of t f)) ≤ 4 → is_information f.control ≡ false → Waits t f
may_wait t f kind size small without = grind (arith, frame_without_information)

module _ (t : Terms) where
  pub ua_waits : (f : Bool) → Waits t (response (Ua f))
  ua_waits f = may_wait t (response (Ua f)) refl refl (omega arith) refl

  pub sabme_waits : (p : Bool) → Waits t (command (Sabme p))
  sabme_waits p = may_wait t (command (Sabme p)) refl refl (omega arith) refl

  -- RR or RNR, as a command and as a response
  pub ready_waits : (b pf : Bool) (l : Link) → Waits t (record { command = b; control = rr_or_rnr pf l })
  ready_waits b pf l = grind (arith, may_wait)
